use Rattle.std.proofs.Common.{[], ◌∷◌, ◌++◌, refl, ap, ◌∙◌, arith}
use Rattle.lha_check.specs.declared.faults.CheckFault.TheVariants.{Memory}
use Rattle.lang_specs.specs.Trees.{Tree}
use Rattle.model_specs.specs.Automata.{automaton_of}
use Rattle.model_specs.specs.Faults.{tree_faults, faults_after}
use Rattle.lha_check.proofs.FirstLemmas.{no_memory, exits, fails_at, goes_on, has_ended}
use Rattle.lha_check.proofs.ListLemmas.{mapped, all_mapped}
use Rattle.lha_check.proofs.trees.all_parts.Goals as goal

pub returns-in_err-parts-clause-fault : goal.returns-in_err-parts-clause-fault
returns-in_err-parts-clause-fault c =
    exits c.from_residual.result _ c.in_err-parts.field-0.0 c.from_residual.ensures.1
    (fails_at (λ (t : Tree). t.name) faults_after tree_faults (λ before x xs. refl)
    c.args.trees.now c.loop-i.i c.index-trees-i.result _ c.in_err-parts.field-0.0 (omega arith) c.index-trees-i.is c.loop-i.invariant.1 c.in_err-parts.ensures.fault)

pub returns-in_err-push-clause-fault : goal.returns-in_err-push-clause-fault
returns-in_err-push-clause-fault c = exits c.from_residual-in_err-push.result _ Memory c.from_residual-in_err-push.ensures.1 (no_memory _ Memory refl)

pub loop-i-preserved : goal.loop-i-preserved
loop-i-preserved c = (
  mapped automaton_of c.args.trees.now c.loop-i.i c.index-trees-i.result c.loop-i.found.items c.push.new.items.items (omega arith) c.index-trees-i.is c.loop-i.invariant.0
      (c.in_ok-push.ensures ∙ ap (λ v. c.loop-i.found.items ++ v ∷ []) c.in_ok-parts.ensures.value),
  goes_on (λ (t : Tree). t.name) faults_after tree_faults (λ before x xs. refl)
      c.args.trees.now c.loop-i.i c.index-trees-i.result _ (omega arith) c.index-trees-i.is c.loop-i.invariant.1 c.in_ok-parts.ensures.none,
)

pub returns-clause-value : goal.returns-clause-value
returns-clause-value c = all_mapped automaton_of c.args.trees.now c.loop-i.i c.loop-i.found.items (omega arith) c.loop-i.invariant.0

pub returns-clause-none : goal.returns-clause-none
returns-clause-none c = has_ended (λ (t : Tree). t.name) faults_after (λ before. refl) c.args.trees.now c.loop-i.i _ (omega arith) c.loop-i.invariant.1
