use Rattle.lha_check.proofs.expressions.known_in_row.Goals as goal

pub returns-clause-none : goal.returns-clause-none
returns-clause-none c = rw (← c.left.ensures, ← c.right.ensures, ← c.terms.ensures, ← c.terms-2.ensures) c.known_in_both.ensures.none

pub returns-clause-fault : goal.returns-clause-fault
returns-clause-fault c = rw (← c.left.ensures, ← c.right.ensures, ← c.terms.ensures, ← c.terms-2.ensures) c.known_in_both.ensures.fault
