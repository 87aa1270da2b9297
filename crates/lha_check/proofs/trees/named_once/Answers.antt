use Rattle.std.proofs.Common.{◌≡◌, List, [], subst}
use Rattle.std.specs.Prelude.{IfOk, IfErr}
use Rattle.lang_specs.specs.Trees.{Tree}
use Rattle.model_specs.specs.Faults.{ModelFault}
use Rattle.lha_check.specs.Told.{IsFirst}
use Rattle.lha_check.proofs.NameLemmas.{repeats_is}
use Rattle.lha_check.proofs.trees.named_once.Goals as goal

pub returns-clause-none : goal.returns-clause-none
returns-clause-none c =
    subst (λ (zs : List ModelFault). IfOk c.once.result (λ v. zs ≡ []))
    (repeats_is (λ (x : Tree). x.name) c.args.before.now c.args.tree.now c.name-name.result.now c.has_automaton.result c.line.result c.args.tree.now.line
    c.line.ensures c.name-name.ensures c.has_automaton.ensures)
    c.once.ensures.none

pub returns-clause-fault : goal.returns-clause-fault
returns-clause-fault c =
    subst (λ (zs : List ModelFault). IfErr c.once.result (IsFirst zs))
    (repeats_is (λ (x : Tree). x.name) c.args.before.now c.args.tree.now c.name-name.result.now c.has_automaton.result c.line.result c.args.tree.now.line
    c.line.ensures c.name-name.ensures c.has_automaton.ensures)
    c.once.ensures.fault
