use Rattle.std.proofs.Common.{SFits, rules, get_or, pos, refl, sym, ◌∙◌, true≢false, arith}
use Rattle.std.specs.Int.{w128}
use Rattle.std.proofs.lemmas.Int.{to_z-of_z}
use Rattle.poly_specs.specs.Rows.{over}
use Rattle.poly_specs.proofs.ColumnLemmas.{coordinates, point-from_coordinates}
use Rattle.run_check.proofs.gaps.is_same_point.Goals as goal

pub returns-then-not-is_same : goal.returns-then-not-is_same
returns-then-not-is_same c =
    let f1 : SFits w128 (get_or c.args.num.now c.loop-j.j (pos 0)) = search rules in
    let f2 : SFits w128 (get_or c.args.other.now c.loop-j.j (pos 0)) = search rules in
    let f3 : SFits w128 c.args.den = search rules in
    let f4 : SFits w128 c.args.other_den = search rules in
    let said = simp (to_z-of_z, f1, f2, f3, f4) at c.is_same.ensures in (
      λ t. absurd (true≢false (sym t)),
      λ e. absurd (true≢false (sym (said.1 (coordinates (over c.args.den c.args.num.now) (over c.args.other_den c.args.other.now) e c.loop-j.j)) ∙ c.if-not-is_same.true)),
    )

pub returns : goal.returns
returns c =
    let f3 : SFits w128 c.args.den = search rules in
    let f4 : SFits w128 c.args.other_den = search rules in
    let all = simp (to_z-of_z, f3, f4) at c.loop-j.invariant in (
      λ t. point-from_coordinates (over c.args.den c.args.num.now) (over c.args.other_den c.args.other.now) (sym c.requires.sized) (λ j lt. all j (omega (arith, lt, c.loop-j-test.false))),
      λ e. refl,
    )
