use Rattle.run_check.proofs.GapLemmas.{in_range_of}
use Rattle.run_check.proofs.check.first_stop.Goals as goal

pub check_gap-requires-clause-before : goal.check_gap-requires-clause-before
check_gap-requires-clause-before c = λ j lt.
    in_range_of c.args.a.now c.args.jumps c.args.log.now c.args.run.now j (c.loop-i.invariant j lt)
