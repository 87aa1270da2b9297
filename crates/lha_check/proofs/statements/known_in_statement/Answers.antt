use Rattle.lha_check.proofs.statements.known_in_statement.Goals as goal

pub returns-clause-none : goal.returns-clause-none
returns-clause-none c = rw (← c.line.ensures, ← c.vars.ensures, ← c.rows.ensures) c.known_in_rows.ensures.none

pub returns-clause-fault : goal.returns-clause-fault
returns-clause-fault c = rw (← c.line.ensures, ← c.vars.ensures, ← c.rows.ensures) c.known_in_rows.ensures.fault
