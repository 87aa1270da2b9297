use Rattle.lha_check.proofs.transitions.check_jump.Goals as goal

pub returns-clause-none : goal.returns-clause-none
returns-clause-none c = rw (← c.line.ensures, ← c.vars.ensures, ← c.acts.ensures) c.check_acts.ensures.none

pub returns-clause-fault : goal.returns-clause-fault
returns-clause-fault c = rw (← c.line.ensures, ← c.vars.ensures, ← c.acts.ensures) c.check_acts.ensures.fault
