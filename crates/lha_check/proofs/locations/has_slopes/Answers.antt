use Rattle.lha_check.proofs.locations.has_slopes.Goals as goal

pub returns-clause-none : goal.returns-clause-none
returns-clause-none c = rw (← c.line.ensures, ← c.flow.ensures, ← c.boxes.ensures, ← c.vars.ensures) c.each_has_box.ensures.none

pub returns-clause-fault : goal.returns-clause-fault
returns-clause-fault c = rw (← c.line.ensures, ← c.flow.ensures, ← c.boxes.ensures, ← c.vars.ensures) c.each_has_box.ensures.fault
