use Rattle.std.proofs.Common.{refl}
use Rattle.lha_check.specs.declared.faults.CheckFault.TheVariants.{Memory}
use Rattle.lha_check.proofs.FirstLemmas.{ahead, behind, neither, exits, no_memory}
use Rattle.lha_check.proofs.trees.parts_of.Goals as goal

pub returns-in_err-named_once-clause-fault : goal.returns-in_err-named_once-clause-fault
returns-in_err-named_once-clause-fault c =
    exits c.from_residual.result _ c.in_err-named_once.field-0.0 c.from_residual.ensures.1
    (ahead _ _ _ (ahead _ _ _ (ahead _ _ _ (ahead _ _ _ (c.in_err-named_once.ensures.fault)))))

pub returns-in_err-vars_once-clause-fault : goal.returns-in_err-vars_once-clause-fault
returns-in_err-vars_once-clause-fault c =
    exits c.from_residual-in_err-vars_once.result _ c.in_err-vars_once.field-0.0 c.from_residual-in_err-vars_once.ensures.1
    (ahead _ _ _ (ahead _ _ _ (ahead _ _ _ (behind _ _ _ c.in_ok-named_once.ensures.none c.in_err-vars_once.ensures.fault))))

pub returns-in_err-check_obs-clause-fault : goal.returns-in_err-check_obs-clause-fault
returns-in_err-check_obs-clause-fault c =
    exits c.from_residual-in_err-check_obs.result _ c.in_err-check_obs.field-0.0 c.from_residual-in_err-check_obs.ensures.1
    (ahead _ _ _ (ahead _ _ _ (behind _ _ _ (neither _ _ c.in_ok-named_once.ensures.none c.in_ok-vars_once.ensures.none) c.in_err-check_obs.ensures.fault)))

pub returns-in_err-locs-clause-fault : goal.returns-in_err-locs-clause-fault
returns-in_err-locs-clause-fault c =
    exits c.from_residual-in_err-locs.result _ c.in_err-locs.field-0.0 c.from_residual-in_err-locs.ensures.1
    (ahead _ _ _ (behind _ _ _ (neither _ _ (neither _ _ c.in_ok-named_once.ensures.none c.in_ok-vars_once.ensures.none) c.in_ok-check_obs.ensures.none) c.in_err-locs.ensures.fault))

pub returns-in_err-trans-clause-fault : goal.returns-in_err-trans-clause-fault
returns-in_err-trans-clause-fault c =
    exits c.from_residual-in_err-trans.result _ c.in_err-trans.field-0.0 c.from_residual-in_err-trans.ensures.1
    (behind _ _ _ (neither _ _ (neither _ _ (neither _ _ c.in_ok-named_once.ensures.none c.in_ok-vars_once.ensures.none) c.in_ok-check_obs.ensures.none) c.in_ok-locs.ensures.none) c.in_err-trans.ensures.fault)

pub returns-in_err-parts-clause-fault : goal.returns-in_err-parts-clause-fault
returns-in_err-parts-clause-fault c = exits c.from_residual-in_err-parts.result _ Memory c.from_residual-in_err-parts.ensures.1 (no_memory _ Memory refl)

pub returns-clause-none : goal.returns-clause-none
returns-clause-none c = neither _ _ (neither _ _ (neither _ _ (neither _ _ c.in_ok-named_once.ensures.none c.in_ok-vars_once.ensures.none) c.in_ok-check_obs.ensures.none) c.in_ok-locs.ensures.none) c.in_ok-trans.ensures.none
