use Rattle.lha_check.proofs.locations.check_flow.Goals as goal

pub returns-clause-none : goal.returns-clause-none
returns-clause-none c = rw (← c.flow-flow.ensures, ← c.line.ensures, ← c.vars.ensures, ← c.boxes.ensures) c.check_boxes.ensures.none

pub returns-clause-fault : goal.returns-clause-fault
returns-clause-fault c = rw (← c.flow-flow.ensures, ← c.line.ensures, ← c.vars.ensures, ← c.boxes.ensures) c.check_boxes.ensures.fault
