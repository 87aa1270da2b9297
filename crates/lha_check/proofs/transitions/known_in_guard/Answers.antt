use Rattle.lha_check.proofs.transitions.known_in_guard.Goals as goal

pub returns-clause-none : goal.returns-clause-none
returns-clause-none c = rw (← c.line.ensures, ← c.vars.ensures, ← c.guard.ensures) c.known_in_rows.ensures.none

pub returns-clause-fault : goal.returns-clause-fault
returns-clause-fault c = rw (← c.line.ensures, ← c.vars.ensures, ← c.guard.ensures) c.known_in_rows.ensures.fault
