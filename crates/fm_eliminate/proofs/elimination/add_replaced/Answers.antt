use Rattle.std.proofs.Common.{ℕ, ◌+◌, ◌<◌, ◌≤◌, ◌++◌, ◌∷◌, [], cond, length, subst, arith}
use Rattle.fm_eliminate.specs.Leaving.{IsLeft, always_holds, replaced}
use Rattle.fm_eliminate.proofs.LoopLemmas.{left_on, few_more, map_taken}
use Rattle.fm_eliminate.proofs.PivotLemmas.{in_item}
use Rattle.fm_eliminate.proofs.elimination.add_replaced.Goals as goal

pub returns-in_err-replace-clause-passes : goal.returns-in_err-replace-clause-passes
returns-in_err-replace-clause-passes c e =
    c.in_err-replace.ensures.passes c.args.rows.now (in_item c.args.rows.now c.loop-row.row-index c.row-item.result (omega arith) c.row-item.is)
    c.requires.pivot.lower_in c.requires.pivot.upper_in

pub loop-row-preserved : goal.loop-row-preserved
loop-row-preserved c =
    let i : ℕ = c.loop-row.row-index in
    let within : i < length c.args.rows.now = omega arith in
    let made = c.in_ok-replace.ensures.ok in
    let more = map_taken c.args.rows.now i c.row-item.result within c.row-item.is (replaced c.args.x c.args.lower.now c.args.upper.now) in
    let one = subst (λ r. IsLeft (c.loop-row.kept ++ r ∷ []) c.add_row.new.self) made c.in_ok-add_row.ensures.ok in
    let few = subst (λ r. length c.add_row.new.self ≤ length c.loop-row.kept + cond (always_holds r) 0 1) made c.add_row.ensures.few in
    record {
      left = left_on c.args.kept.now _ _ _ c.loop-row.kept _ c.loop-row.invariant.left one more;
      few = few_more (length c.args.kept.now) (length c.loop-row.kept) (length c.add_row.new.self) _ _ _ c.loop-row.invariant.few few more;
    }
