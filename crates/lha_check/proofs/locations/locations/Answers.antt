use Rattle.std.proofs.Common.{◌≡◌, List, [], ◌∷◌, ◌++◌, map, refl, ap, ◌∙◌, subst, arith}
use Rattle.lha_check.specs.declared.faults.CheckFault.TheVariants.{Memory}
use Rattle.lang_specs.specs.Trees.{LocTree}
use Rattle.model_specs.specs.Automata.{location_of}
use Rattle.model_specs.specs.Faults.{location_faults, locations_faults}
use Rattle.lha_check.specs.Told.{IsFirst}
use Rattle.lha_check.proofs.FirstLemmas.{no_memory, exits, fails_at, goes_on, has_ended}
use Rattle.lha_check.proofs.ListLemmas.{mapped, all_mapped}
use Rattle.lha_check.proofs.locations.locations.Goals as goal

pub returns-in_err-one-clause-fault : goal.returns-in_err-one-clause-fault
returns-in_err-one-clause-fault c =
    exits c.from_residual.result _ c.in_err-one.field-0.0 c.from_residual.ensures.1
    (subst (λ (zs : List LocTree). IsFirst (locations_faults c.args.tree.now [] zs) c.in_err-one.field-0.0) c.locs-locs.ensures (fails_at (λ (l : LocTree). l.name) (locations_faults c.args.tree.now) (location_faults c.args.tree.now) (λ before x xs. refl)
    c.locs-locs.result.now c.loop-i.i c.index-locs-i.result _ c.in_err-one.field-0.0 (omega arith) c.index-locs-i.is c.loop-i.invariant.1 c.in_err-one.ensures.fault))

pub returns-in_err-push-clause-fault : goal.returns-in_err-push-clause-fault
returns-in_err-push-clause-fault c = exits c.from_residual-in_err-push.result _ Memory c.from_residual-in_err-push.ensures.1 (no_memory _ Memory refl)

pub loop-i-preserved : goal.loop-i-preserved
loop-i-preserved c = (
  mapped (location_of c.args.tree.now.vars) c.locs-locs.result.now c.loop-i.i c.index-locs-i.result c.loop-i.made.items c.push.new.items.items (omega arith) c.index-locs-i.is c.loop-i.invariant.0
      (c.in_ok-push.ensures ∙ ap (λ v. c.loop-i.made.items ++ v ∷ []) c.in_ok-one.ensures.value),
  goes_on (λ (l : LocTree). l.name) (locations_faults c.args.tree.now) (location_faults c.args.tree.now) (λ before x xs. refl)
      c.locs-locs.result.now c.loop-i.i c.index-locs-i.result _ (omega arith) c.index-locs-i.is c.loop-i.invariant.1 c.in_ok-one.ensures.none,
)

pub returns-clause-value : goal.returns-clause-value
returns-clause-value c = subst (λ (zs : List LocTree). c.loop-i.made.items ≡ map (location_of c.args.tree.now.vars) zs) c.locs-locs.ensures (all_mapped (location_of c.args.tree.now.vars) c.locs-locs.result.now c.loop-i.i c.loop-i.made.items (omega arith) c.loop-i.invariant.0)

pub returns-clause-none : goal.returns-clause-none
returns-clause-none c = subst (λ (zs : List LocTree). locations_faults c.args.tree.now [] zs ≡ []) c.locs-locs.ensures (has_ended (λ (l : LocTree). l.name) (locations_faults c.args.tree.now) (λ before. refl) c.locs-locs.result.now c.loop-i.i _ (omega arith) c.loop-i.invariant.1)
