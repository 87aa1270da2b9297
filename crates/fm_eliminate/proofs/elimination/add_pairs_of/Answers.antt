use Rattle.std.proofs.Common.{ℕ, ◌+◌, ◌<◌, ◌++◌, ◌∷◌, [], length, take, sym, subst, arith, rules, pos, ◌≤ℤ◌, ◌<ℤ◌}
use Rattle.poly_specs.specs.Rows.{coef_at}
use Rattle.fm_eliminate.specs.Leaving.{IsLeft, combinations}
use Rattle.fm_eliminate.proofs.CountLemmas.{pair_passes}
use Rattle.fm_eliminate.proofs.LoopLemmas.{upper_step, upper_stay}
use Rattle.fm_eliminate.proofs.PivotLemmas.{in_item}
use Rattle.fm_eliminate.proofs.elimination.add_pairs_of.Goals as goal
use Rattle.fm_eliminate.proofs.elimination.add_pairs_of.Goals.{then-coefficient-gt0+in_ok-combine+in_ok-add_row, else-coefficient-gt0}

pub returns-in_err-combine-clause-passes : goal.returns-in_err-combine-clause-passes
returns-in_err-combine-clause-passes c e =
    let above : pos 0 <ℤ coef_at c.args.x c.upper-item.result = search rules in
    let j = in_item c.args.rows.now c.loop-upper.upper-index c.upper-item.result (omega arith) c.upper-item.is in
    pair_passes c.args.x c.args.rows.now c.args.lower.now c.upper-item.result c.requires.among j c.requires.lower above c.in_err-combine.ensures.passes

pub loop-upper-preserved : goal.loop-upper-preserved
loop-upper-preserved c =
    let i : ℕ = c.loop-upper.upper-index in
    let within : i < length c.args.rows.now = omega arith in
    elim c.if-coefficient-gt0.branch [
      | then-coefficient-gt0+in_ok-combine+in_ok-add_row w ↦ (
          let above : pos 0 <ℤ coef_at c.args.x c.upper-item.result = search rules in
          let one = subst (λ r. IsLeft (c.loop-upper.kept ++ r ∷ []) w.add_row.new.self) w.in_ok-combine.ensures.ok.0 w.in_ok-add_row.ensures.ok in
          subst (λ k. IsLeft (c.args.kept.now ++ combinations c.args.x (take (i + 1) c.args.rows.now) c.args.lower.now) k) (sym w.kept-is)
          (upper_step c.args.x c.args.rows.now i c.upper-item.result within c.upper-item.is c.args.lower.now c.args.kept.now c.loop-upper.kept w.add_row.new.self above
          c.loop-upper.invariant one))
      | else-coefficient-gt0 w ↦ (
          let low : coef_at c.args.x c.upper-item.result ≤ℤ pos 0 = search rules in
          subst (λ k. IsLeft (c.args.kept.now ++ combinations c.args.x (take (i + 1) c.args.rows.now) c.args.lower.now) k) (sym w.kept-is)
          (upper_stay c.args.x c.args.rows.now i c.upper-item.result within c.upper-item.is c.args.lower.now c.args.kept.now c.loop-upper.kept low c.loop-upper.invariant))
    ]
