use Rattle.run_text.proofs.ReadingLemmas.{go_on, stop}
use Rattle.run_text.proofs.read.read_lines.Goals as goal

pub returns-in-Err-clause-fault : goal.returns-in-Err-clause-fault
returns-in-Err-clause-fault c =
    rw c.located.ensures
    (stop c.args.text.now c.loop-halves.rest.now c.in-Some.halves.before.now c.in-Some.halves.after.now c.loop-halves.state c.loop-halves.line c.in-Err.fault
    c.loop-halves.invariant c.in-Some.ensures.pieces c.in-Err.ensures)

pub loop-halves-preserved : goal.loop-halves-preserved
loop-halves-preserved c =
    go_on c.args.text.now c.loop-halves.rest.now c.in-Some.halves.before.now c.in-Some.halves.after.now c.loop-halves.state c.in-Ok.next c.loop-halves.line
    c.loop-halves.invariant c.in-Some.ensures.pieces c.in-Some.ensures.whole c.in-Ok.ensures
