use Rattle.std.proofs.Common.{◌≡◌, List, [], sym, subst}
use Rattle.std.specs.Prelude.{IfOk, IfErr}
use Rattle.model_specs.specs.Faults.{ModelFault}
use Rattle.lha_check.specs.Told.{IsFirst}
use Rattle.lha_check.proofs.FirstLemmas.{ahead, exits, last_none, last_fault}
use Rattle.lha_check.proofs.RowLemmas.{also_parts}
use Rattle.lha_check.proofs.statements.checked_slopes.Goals as goal

pub returns-in_err-known_in_also-clause-fault : goal.returns-in_err-known_in_also-clause-fault
returns-in_err-known_in_also-clause-fault c =
    exits c.from_residual.result _ c.in_err-known_in_also.field-0.0 c.from_residual.ensures.1
    (subst (λ (zs : List ModelFault). IsFirst zs c.in_err-known_in_also.field-0.0) (sym (also_parts c.args.tree.now c.args.loc.now.also))
    (ahead _ _ _ c.in_err-known_in_also.ensures.fault))

pub returns-clause-none : goal.returns-clause-none
returns-clause-none c =
    subst (λ (zs : List ModelFault). IfOk c.formed_slopes.result (λ v. zs ≡ [])) (sym (also_parts c.args.tree.now c.args.loc.now.also))
    (last_none c.formed_slopes.result _ _ c.in_ok-known_in_also.ensures.none c.formed_slopes.ensures.none)

pub returns-clause-fault : goal.returns-clause-fault
returns-clause-fault c =
    subst (λ (zs : List ModelFault). IfErr c.formed_slopes.result (IsFirst zs)) (sym (also_parts c.args.tree.now c.args.loc.now.also))
    (last_fault c.formed_slopes.result _ _ c.in_ok-known_in_also.ensures.none c.formed_slopes.ensures.fault)
