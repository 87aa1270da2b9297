use Rattle.std.proofs.Common.{List, sym, ◌∙◌, subst}
use Rattle.model_specs.specs.Automata.{act_name}
use Rattle.model_specs.specs.Faults.{ModelFault}
use Rattle.lha_check.specs.Told.{IsFirst}
use Rattle.lha_check.proofs.FirstLemmas.{ahead, exits, last_none, last_fault}
use Rattle.lha_check.proofs.NameLemmas.{named_is}
use Rattle.lha_check.proofs.transitions.check_act.Goals as goal

pub returns-in_err-known_once-clause-fault : goal.returns-in_err-known_once-clause-fault
returns-in_err-known_once-clause-fault c =
    exits c.from_residual.result _ c.in_err-known_once.field-0.0 c.from_residual.ensures.1
    (ahead _ _ _ (subst (λ (zs : List ModelFault). IsFirst zs c.in_err-known_once.field-0.0)
    (named_is act_name c.args.before.now c.args.act.now c.act_name-var.result.now c.has_act.result c.args.line c.args.vars.now c.act_name-var.ensures c.has_act.ensures)
    c.in_err-known_once.ensures.fault))

pub returns-clause-none : goal.returns-clause-none
returns-clause-none c =
    last_none c.known_in_act.result _ _ (sym (named_is act_name c.args.before.now c.args.act.now c.act_name-var.result.now c.has_act.result c.args.line c.args.vars.now c.act_name-var.ensures c.has_act.ensures)
    ∙ c.in_ok-known_once.ensures.none) c.known_in_act.ensures.none

pub returns-clause-fault : goal.returns-clause-fault
returns-clause-fault c =
    last_fault c.known_in_act.result _ _ (sym (named_is act_name c.args.before.now c.args.act.now c.act_name-var.result.now c.has_act.result c.args.line c.args.vars.now c.act_name-var.ensures c.has_act.ensures)
    ∙ c.in_ok-known_once.ensures.none) c.known_in_act.ensures.fault
