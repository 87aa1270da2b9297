use Rattle.std.proofs.Common.{◌≡◌, List, [], ◌∷◌, ◌++◌, map, refl, ap, ◌∙◌, subst, arith}
use Rattle.lha_check.specs.declared.faults.CheckFault.TheVariants.{Memory}
use Rattle.lang_specs.specs.Trees.{TransTree}
use Rattle.std.specs.Prelude.{flat_map}
use Rattle.model_specs.specs.Automata.{transition_of, location_names}
use Rattle.model_specs.specs.Faults.{transition_faults}
use Rattle.lha_check.specs.Told.{IsFirst}
use Rattle.lha_check.proofs.FirstLemmas.{no_memory, exits, flat_fails_at, flat_goes_on, flat_has_ended}
use Rattle.lha_check.proofs.ListLemmas.{mapped, all_mapped}
use Rattle.lha_check.proofs.transitions.transitions.Goals as goal

pub returns-in_err-trans-clause-fault : goal.returns-in_err-trans-clause-fault
returns-in_err-trans-clause-fault c =
    exits c.from_residual.result _ c.in_err-trans.field-0.0 c.from_residual.ensures.1
    (subst (λ (zs : List TransTree). IsFirst (flat_map (transition_faults c.args.tree.now) zs) c.in_err-trans.field-0.0) c.trans-jumps.ensures (flat_fails_at (flat_map (transition_faults c.args.tree.now)) (transition_faults c.args.tree.now) (λ x xs. refl)
    c.trans-jumps.result.now c.loop-jump.jump-index c.jump-item.result _ c.in_err-trans.field-0.0 (omega arith) c.jump-item.is c.loop-jump.invariant.1 c.in_err-trans.ensures.fault))

pub returns-in_err-push-clause-fault : goal.returns-in_err-push-clause-fault
returns-in_err-push-clause-fault c = exits c.from_residual-in_err-push.result _ Memory c.from_residual-in_err-push.ensures.1 (no_memory _ Memory refl)

pub loop-jump-preserved : goal.loop-jump-preserved
loop-jump-preserved c = (
  mapped (transition_of c.args.tree.now.vars (location_names c.args.tree.now)) c.trans-jumps.result.now c.loop-jump.jump-index c.jump-item.result c.loop-jump.made.items c.push.new.items.items (omega arith) c.jump-item.is c.loop-jump.invariant.0
      (c.in_ok-push.ensures ∙ ap (λ v. c.loop-jump.made.items ++ v ∷ []) c.in_ok-trans.ensures.value),
  flat_goes_on (flat_map (transition_faults c.args.tree.now)) (transition_faults c.args.tree.now) (λ x xs. refl)
      c.trans-jumps.result.now c.loop-jump.jump-index c.jump-item.result _ (omega arith) c.jump-item.is c.loop-jump.invariant.1 c.in_ok-trans.ensures.none,
)

pub returns-clause-value : goal.returns-clause-value
returns-clause-value c = subst (λ (zs : List TransTree). c.loop-jump.made.items ≡ map (transition_of c.args.tree.now.vars (location_names c.args.tree.now)) zs) c.trans-jumps.ensures (all_mapped (transition_of c.args.tree.now.vars (location_names c.args.tree.now)) c.trans-jumps.result.now c.loop-jump.jump-index c.loop-jump.made.items (omega arith) c.loop-jump.invariant.0)

pub returns-clause-none : goal.returns-clause-none
returns-clause-none c = subst (λ (zs : List TransTree). flat_map (transition_faults c.args.tree.now) zs ≡ []) c.trans-jumps.ensures (flat_has_ended (flat_map (transition_faults c.args.tree.now)) refl c.trans-jumps.result.now c.loop-jump.jump-index _ (omega arith) c.loop-jump.invariant.1)
