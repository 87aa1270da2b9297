use Rattle.lha_check.proofs.FirstLemmas.{ahead, exits, last_none, last_fault}
use Rattle.lha_check.proofs.names.known_once.Goals as goal

pub returns-in_err-known-clause-fault : goal.returns-in_err-known-clause-fault
returns-in_err-known-clause-fault c = exits c.from_residual.result _ c.in_err-known.field-0.0 c.from_residual.ensures.1
    (ahead _ _ _ c.in_err-known.ensures.fault)

pub returns-clause-none : goal.returns-clause-none
returns-clause-none c = last_none c.once.result _ _ c.in_ok-known.ensures.none c.once.ensures.none

pub returns-clause-fault : goal.returns-clause-fault
returns-clause-fault c = last_fault c.once.result _ _ c.in_ok-known.ensures.none c.once.ensures.fault
