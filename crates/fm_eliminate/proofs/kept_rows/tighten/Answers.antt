use Rattle.fm_eliminate.proofs.LeavingLemmas.{left_kept, left_tightened}
use Rattle.fm_eliminate.proofs.kept_rows.tighten.Goals as goal

pub returns-then-not-dominated-clause-left : goal.returns-then-not-dominated-clause-left
returns-then-not-dominated-clause-left c =
    let left = left_tightened c.args.rows.now c.args.place c.args.row c.requires c.index-rows-place.result
    (λ d. let t = c.dominated.ensures.1 d in let f = c.if-not-dominated.true in let b : ⊥ = cc in b) in
    rw c.put.ensures left

pub returns-else-not-dominated-clause-left : goal.returns-else-not-dominated-clause-left
returns-else-not-dominated-clause-left c =
    left_kept c.args.rows.now c.args.place c.args.row c.requires c.index-rows-place.result (c.dominated.ensures.0 c.if-not-dominated.false)
