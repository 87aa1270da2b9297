use Rattle.std.proofs.Common.{◌≡◌, ◌≢◌, ℕ, ◌+◌, ◌<◌, ◌++◌, ◌∷◌, [], length, take, sym, subst, arith, rules, pos}
use Rattle.poly_specs.specs.Elimination.{free_of}
use Rattle.poly_specs.specs.Rows.{coef_at}
use Rattle.fm_eliminate.specs.Leaving.{IsLeft}
use Rattle.fm_eliminate.proofs.LoopLemmas.{free_step, free_stay}
use Rattle.fm_eliminate.proofs.elimination.add_free.Goals as goal
use Rattle.fm_eliminate.proofs.elimination.add_free.Goals.{then-coefficient-eq0+in_ok-add_row, else-coefficient-eq0}

pub loop-row-preserved : goal.loop-row-preserved
loop-row-preserved c =
    let i : ℕ = c.loop-row.row-index in
    let within : i < length c.args.rows.now = omega arith in
    elim c.if-coefficient-eq0.branch [
      | then-coefficient-eq0+in_ok-add_row w ↦ (
          let none : coef_at c.args.x c.row-item.result ≡ pos 0 = search rules in
          let one = subst (λ r. IsLeft (c.loop-row.kept ++ r ∷ []) w.add_row.new.self) w.copy.ensures w.in_ok-add_row.ensures.ok in
          subst (λ k. IsLeft (c.args.kept.now ++ free_of c.args.x (take (i + 1) c.args.rows.now)) k) (sym w.kept-is)
          (free_step c.args.x c.args.rows.now i c.row-item.result within c.row-item.is c.args.kept.now c.loop-row.kept w.add_row.new.self none c.loop-row.invariant one))
      | else-coefficient-eq0 w ↦ (
          let some : coef_at c.args.x c.row-item.result ≢ pos 0 = search rules in
          subst (λ k. IsLeft (c.args.kept.now ++ free_of c.args.x (take (i + 1) c.args.rows.now)) k) (sym w.kept-is)
          (free_stay c.args.x c.args.rows.now i c.row-item.result within c.row-item.is c.args.kept.now c.loop-row.kept some c.loop-row.invariant))
    ]
