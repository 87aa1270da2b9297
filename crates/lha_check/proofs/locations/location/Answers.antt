use Rattle.lha_check.proofs.FirstLemmas.{ahead, behind, neither, exits}
use Rattle.lha_check.proofs.locations.location.Goals as goal

pub returns-in_err-named_once-clause-fault : goal.returns-in_err-named_once-clause-fault
returns-in_err-named_once-clause-fault c =
    exits c.from_residual.result _ c.in_err-named_once.field-0.0 c.from_residual.ensures.1
    (ahead _ _ _ (ahead _ _ _ (ahead _ _ _ (ahead _ _ _ (ahead _ _ _ (c.in_err-named_once.ensures.fault))))))

pub returns-in_err-has_slopes-clause-fault : goal.returns-in_err-has_slopes-clause-fault
returns-in_err-has_slopes-clause-fault c =
    exits c.from_residual-in_err-has_slopes.result _ c.in_err-has_slopes.field-0.0 c.from_residual-in_err-has_slopes.ensures.1
    (ahead _ _ _ (ahead _ _ _ (ahead _ _ _ (ahead _ _ _ (behind _ _ _ c.in_ok-named_once.ensures.none c.in_err-has_slopes.ensures.fault)))))

pub returns-in_err-init-clause-fault : goal.returns-in_err-init-clause-fault
returns-in_err-init-clause-fault c =
    exits c.from_residual-in_err-init.result _ c.in_err-init.field-0.0 c.from_residual-in_err-init.ensures.1
    (ahead _ _ _ (ahead _ _ _ (ahead _ _ _ (behind _ _ _ (neither _ _ c.in_ok-named_once.ensures.none c.in_ok-has_slopes.ensures.none) c.in_err-init.ensures.fault))))

pub returns-in_err-inv-clause-fault : goal.returns-in_err-inv-clause-fault
returns-in_err-inv-clause-fault c =
    exits c.from_residual-in_err-inv.result _ c.in_err-inv.field-0.0 c.from_residual-in_err-inv.ensures.1
    (ahead _ _ _ (ahead _ _ _ (behind _ _ _ (neither _ _ (neither _ _ c.in_ok-named_once.ensures.none c.in_ok-has_slopes.ensures.none) c.in_ok-init.ensures.none) c.in_err-inv.ensures.fault)))

pub returns-in_err-check_flow-clause-fault : goal.returns-in_err-check_flow-clause-fault
returns-in_err-check_flow-clause-fault c =
    exits c.from_residual-in_err-check_flow.result _ c.in_err-check_flow.field-0.0 c.from_residual-in_err-check_flow.ensures.1
    (ahead _ _ _ (behind _ _ _ (neither _ _ (neither _ _ (neither _ _ c.in_ok-named_once.ensures.none c.in_ok-has_slopes.ensures.none) c.in_ok-init.ensures.none) c.in_ok-inv.ensures.none) c.in_err-check_flow.ensures.fault))

pub returns-in_err-flow-clause-fault : goal.returns-in_err-flow-clause-fault
returns-in_err-flow-clause-fault c =
    exits c.from_residual-in_err-flow.result _ c.in_err-flow.field-0.0 c.from_residual-in_err-flow.ensures.1
    (behind _ _ _ (neither _ _ (neither _ _ (neither _ _ (neither _ _ c.in_ok-named_once.ensures.none c.in_ok-has_slopes.ensures.none) c.in_ok-init.ensures.none) c.in_ok-inv.ensures.none) c.in_ok-check_flow.ensures.none) c.in_err-flow.ensures.fault)

pub returns-clause-none : goal.returns-clause-none
returns-clause-none c = neither _ _ (neither _ _ (neither _ _ (neither _ _ (neither _ _ c.in_ok-named_once.ensures.none c.in_ok-has_slopes.ensures.none) c.in_ok-init.ensures.none) c.in_ok-inv.ensures.none) c.in_ok-check_flow.ensures.none) c.in_ok-flow.ensures.none
