use Rattle.std.proofs.Common.{◌≡◌, List, [], subst}
use Rattle.std.specs.Prelude.{IfOk, IfErr}
use Rattle.lang_specs.specs.Trees.{BoundTree}
use Rattle.model_specs.specs.Faults.{ModelFault}
use Rattle.lha_check.specs.Told.{IsFirst}
use Rattle.lha_check.proofs.NameLemmas.{named_is}
use Rattle.lha_check.proofs.bounds.check_bound.Goals as goal

pub returns-clause-none : goal.returns-clause-none
returns-clause-none c =
    subst (λ (zs : List ModelFault). IfOk c.known_once.result (λ v. zs ≡ []))
    (named_is (λ (b : BoundTree). b.var) c.args.before.now c.args.bound.now c.var-var.result.now c.has_bound.result c.args.line c.args.vars.now c.var-var.ensures c.has_bound.ensures)
    c.known_once.ensures.none

pub returns-clause-fault : goal.returns-clause-fault
returns-clause-fault c =
    subst (λ (zs : List ModelFault). IfErr c.known_once.result (IsFirst zs))
    (named_is (λ (b : BoundTree). b.var) c.args.before.now c.args.bound.now c.var-var.result.now c.has_bound.result c.args.line c.args.vars.now c.var-var.ensures c.has_bound.ensures)
    c.known_once.ensures.fault
