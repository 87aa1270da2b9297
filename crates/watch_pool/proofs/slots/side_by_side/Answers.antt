use Rattle.watch_pool.proofs.slots.side_by_side.Goals as goal

pub returns : goal.returns
returns g c = λ i d h.
    let e = c.for_each_mut.ensures i d h in
    rw (← e.1.argument_is, ← e.1.left) e.1.call
