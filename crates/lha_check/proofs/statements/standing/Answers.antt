use Rattle.lha_check.proofs.FirstLemmas.{ahead, exits, last_none, last_fault}
use Rattle.lha_check.proofs.statements.standing.Goals as goal

pub returns-in_err-known_in_statement-clause-fault : goal.returns-in_err-known_in_statement-clause-fault
returns-in_err-known_in_statement-clause-fault c = exits c.from_residual.result _ c.in_err-known_in_statement.field-0.0 c.from_residual.ensures.1
    (ahead _ _ _ c.in_err-known_in_statement.ensures.fault)

pub returns-clause-none : goal.returns-clause-none
returns-clause-none c = last_none c.formed.result _ _ c.in_ok-known_in_statement.ensures.none c.formed.ensures.none

pub returns-clause-fault : goal.returns-clause-fault
returns-clause-fault c = last_fault c.formed.result _ _ c.in_ok-known_in_statement.ensures.none c.formed.ensures.fault
