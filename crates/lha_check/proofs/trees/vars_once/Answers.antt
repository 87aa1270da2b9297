use Rattle.lha_check.proofs.trees.vars_once.Goals as goal

pub returns-clause-none : goal.returns-clause-none
returns-clause-none c = rw (← c.var_line.ensures, ← c.vars.ensures) c.each_once.ensures.none

pub returns-clause-fault : goal.returns-clause-fault
returns-clause-fault c = rw (← c.var_line.ensures, ← c.vars.ensures) c.each_once.ensures.fault
