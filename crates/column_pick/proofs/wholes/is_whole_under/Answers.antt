use Rattle.std.proofs.Common.{◌≡◌, ◌↔◌, ◌≤ℤ◌, ◌*ℤ◌, ◌+ℤ◌, pos, ℤ, IsTrue, SFits, rules, subst, true≢false, sym}
use Rattle.std.specs.Int.{w128}
use Rattle.std.specs.Prelude.{MatchBool}
use Rattle.std.proofs.lemmas.Int.{to_z-of_z}
use Rattle.column_pick.specs.Ranges.{IsFloor}
use Rattle.column_pick.proofs.WholeLemmas.{none_under, tells_under}
use Rattle.column_pick.proofs.wholes.is_whole_under.Goals as goal

pub returns-then-end-le0 : goal.returns-then-end-le0
returns-then-end-le0 c =
    let le : c.num-end.result ≤ℤ pos 0 = search rules in
    let under = subst (λ (z : ℤ). z ≤ℤ pos 0) c.num-end.ensures.value le in (
      λ e. absurd (true≢false (sym e)),
      λ h. absurd (none_under c.args.cap.now.is_open c.args.cap.now.end c.args.parts c.args.number c.see_kept.ensures.positive c.requires.positive c.requires.number under h),
    )

pub returns : goal.returns
returns c =
    let number_fits : SFits w128 c.args.number = search rules in
    let end_fits : SFits w128 c.num-end.result = search rules in
    let less_fits : SFits w128 c.less_one_if.result = search rules in
    let den_fits : SFits w128 c.den.result = search rules in
    let parts_fits : SFits w128 c.args.parts = search rules in
    let last_fits : SFits w128 c.floor_of_two-last.result = search rules in
    let floor : IsFloor c.less_one_if.result (c.den.result *ℤ c.args.parts) c.floor_of_two-last.result =
    simp (to_z-of_z, less_fits, den_fits, parts_fits) at c.floor_of_two-last.ensures in
    let over = subst (λ (d : ℤ). IsFloor c.less_one_if.result (d *ℤ c.args.parts) c.floor_of_two-last.result) c.den.ensures.value floor in
    let less : MatchBool c.args.cap.now.is_open (c.less_one_if.result +ℤ pos 1 ≡ c.num-end.result) (c.less_one_if.result ≡ c.num-end.result) =
    subst (λ (z : ℤ). MatchBool c.args.cap.now.is_open (c.less_one_if.result +ℤ pos 1 ≡ z) (c.less_one_if.result ≡ z)) (to_z-of_z w128 c.num-end.result end_fits) c.less_one_if.ensures.value in
    let is = subst (λ (z : ℤ). MatchBool c.args.cap.now.is_open (c.less_one_if.result +ℤ pos 1 ≡ z) (c.less_one_if.result ≡ z)) c.num-end.ensures.value less in
    let at_most : IsTrue c.is_at_most.result ↔ (c.args.number ≤ℤ c.floor_of_two-last.result) = simp (to_z-of_z, number_fits, last_fits) at c.is_at_most.ensures in
    let tells = tells_under c.args.cap.now c.args.parts c.less_one_if.result c.floor_of_two-last.result c.args.number c.den.ensures.kept.positive c.requires.positive is over in
    (λ e. tells.0 (at_most.0 e), λ h. at_most.1 (tells.1 h))
