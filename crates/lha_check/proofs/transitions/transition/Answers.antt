use Rattle.lha_check.proofs.FirstLemmas.{ahead, behind, neither, exits}
use Rattle.lha_check.proofs.transitions.transition.Goals as goal

pub returns-in_err-from-clause-fault : goal.returns-in_err-from-clause-fault
returns-in_err-from-clause-fault c =
    exits c.from_residual.result _ c.in_err-from.field-0.0 c.from_residual.ensures.1
    (ahead _ _ _ (ahead _ _ _ (ahead _ _ _ (ahead _ _ _ (c.in_err-from.ensures.fault)))))

pub returns-in_err-to-clause-fault : goal.returns-in_err-to-clause-fault
returns-in_err-to-clause-fault c =
    exits c.from_residual-in_err-to.result _ c.in_err-to.field-0.0 c.from_residual-in_err-to.ensures.1
    (ahead _ _ _ (ahead _ _ _ (ahead _ _ _ (behind _ _ _ c.in_ok-from.ensures.none c.in_err-to.ensures.fault))))

pub returns-in_err-known_in_guard-clause-fault : goal.returns-in_err-known_in_guard-clause-fault
returns-in_err-known_in_guard-clause-fault c =
    exits c.from_residual-in_err-known_in_guard.result _ c.in_err-known_in_guard.field-0.0 c.from_residual-in_err-known_in_guard.ensures.1
    (ahead _ _ _ (ahead _ _ _ (behind _ _ _ (neither _ _ c.in_ok-from.ensures.none c.in_ok-to.ensures.none) c.in_err-known_in_guard.ensures.fault)))

pub returns-in_err-check_jump-clause-fault : goal.returns-in_err-check_jump-clause-fault
returns-in_err-check_jump-clause-fault c =
    exits c.from_residual-in_err-check_jump.result _ c.in_err-check_jump.field-0.0 c.from_residual-in_err-check_jump.ensures.1
    (ahead _ _ _ (behind _ _ _ (neither _ _ (neither _ _ c.in_ok-from.ensures.none c.in_ok-to.ensures.none) c.in_ok-known_in_guard.ensures.none) c.in_err-check_jump.ensures.fault))

pub returns-in_err-rel-clause-fault : goal.returns-in_err-rel-clause-fault
returns-in_err-rel-clause-fault c =
    exits c.from_residual-in_err-rel.result _ c.in_err-rel.field-0.0 c.from_residual-in_err-rel.ensures.1
    (behind _ _ _ (neither _ _ (neither _ _ (neither _ _ c.in_ok-from.ensures.none c.in_ok-to.ensures.none) c.in_ok-known_in_guard.ensures.none) c.in_ok-check_jump.ensures.none) c.in_err-rel.ensures.fault)

pub returns-clause-none : goal.returns-clause-none
returns-clause-none c = neither _ _ (neither _ _ (neither _ _ (neither _ _ c.in_ok-from.ensures.none c.in_ok-to.ensures.none) c.in_ok-known_in_guard.ensures.none) c.in_ok-check_jump.ensures.none) c.in_ok-rel.ensures.none
