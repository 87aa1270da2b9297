use Rattle.lha_check.proofs.FirstLemmas.{ahead, exits, last_none, last_fault}
use Rattle.lha_check.proofs.expressions.known_in_both.Goals as goal

pub returns-in_err-known_in_terms-clause-fault : goal.returns-in_err-known_in_terms-clause-fault
returns-in_err-known_in_terms-clause-fault c = exits c.from_residual.result _ c.in_err-known_in_terms.field-0.0 c.from_residual.ensures.1
    (ahead _ _ _ c.in_err-known_in_terms.ensures.fault)

pub returns-clause-none : goal.returns-clause-none
returns-clause-none c = last_none c.known_in_terms-2.result _ _ c.in_ok-known_in_terms.ensures.none c.known_in_terms-2.ensures.none

pub returns-clause-fault : goal.returns-clause-fault
returns-clause-fault c = last_fault c.known_in_terms-2.result _ _ c.in_ok-known_in_terms.ensures.none c.known_in_terms-2.ensures.fault
