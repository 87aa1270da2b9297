use Rattle.std.proofs.Common.{ℕ, ◌+◌, ◌<◌, ◌++◌, length, take, sym, subst, arith, rules, pos, ◌≤ℤ◌, ◌<ℤ◌}
use Rattle.std.specs.List.{flat_map}
use Rattle.poly_specs.specs.Elimination.{lowers}
use Rattle.poly_specs.specs.Rows.{coef_at}
use Rattle.fm_eliminate.specs.Leaving.{IsLeft, combinations}
use Rattle.fm_eliminate.proofs.LoopLemmas.{lower_step, lower_stay}
use Rattle.fm_eliminate.proofs.PivotLemmas.{in_item}
use Rattle.fm_eliminate.proofs.elimination.add_pairs.Goals as goal
use Rattle.fm_eliminate.proofs.elimination.add_pairs.Goals.{then-coefficient-lt0+in_ok-add_pairs_of, else-coefficient-lt0}

pub add_pairs_of-requires-clause-among : goal.add_pairs_of-requires-clause-among
add_pairs_of-requires-clause-among c = in_item c.args.rows.now c.loop-lower.lower-index c.lower-item.result (omega arith) c.lower-item.is

pub loop-lower-preserved : goal.loop-lower-preserved
loop-lower-preserved c =
    let i : ℕ = c.loop-lower.lower-index in
    let within : i < length c.args.rows.now = omega arith in
    elim c.if-coefficient-lt0.branch [
      | then-coefficient-lt0+in_ok-add_pairs_of w ↦ (
          let below : coef_at c.args.x c.lower-item.result <ℤ pos 0 = search rules in
          subst (λ k. IsLeft (c.args.kept.now ++ flat_map (combinations c.args.x c.args.rows.now) (lowers c.args.x (take (i + 1) c.args.rows.now))) k) (sym w.kept-is)
          (lower_step c.args.x c.args.rows.now i c.lower-item.result within c.lower-item.is c.args.kept.now c.loop-lower.kept w.add_pairs_of.new.kept below
          c.loop-lower.invariant w.in_ok-add_pairs_of.ensures.ok))
      | else-coefficient-lt0 w ↦ (
          let high : pos 0 ≤ℤ coef_at c.args.x c.lower-item.result = search rules in
          subst (λ k. IsLeft (c.args.kept.now ++ flat_map (combinations c.args.x c.args.rows.now) (lowers c.args.x (take (i + 1) c.args.rows.now))) k) (sym w.kept-is)
          (lower_stay c.args.x c.args.rows.now i c.lower-item.result within c.lower-item.is c.args.kept.now c.loop-lower.kept high c.loop-lower.invariant))
    ]
