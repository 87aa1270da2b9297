use Rattle.std.proofs.Common.{refl, sym, ◌∙◌, subst, List}
use Rattle.std.specs.Prelude.{All}
use Rattle.run_specs.specs.Automaton.{Automaton}
use Rattle.run_specs.specs.WellFormed.{IsWellFormed}
use Rattle.lha_check.specs.declared.faults.CheckFault.TheVariants.{Memory}
use Rattle.model_specs.proofs.WellFormedLemmas.{spelled_well}
use Rattle.lha_check.proofs.FirstLemmas.{exits, no_memory}
use Rattle.lha_check.proofs.SmallLemmas.{small_trees}
use Rattle.lha_check.proofs.trees.check.Goals as goal

pub all_parts-requires : goal.all_parts-requires
all_parts-requires c = small_trees c.requires.0 c.args.trees.now c.requires.1

pub automata_of-requires : goal.automata_of-requires
automata_of-requires c =
    subst (λ (a : List Automaton). All IsWellFormed a) (sym c.in_ok-found.ensures.value) (spelled_well c.requires.0 c.args.trees.now c.requires.1 c.in_ok-found.ensures.none)

pub returns-in_err-found-clause-fault : goal.returns-in_err-found-clause-fault
returns-in_err-found-clause-fault c =
    exits c.from_residual.result _ c.in_err-found.field-0.0 c.from_residual.ensures.1
    (c.in_err-found.ensures.fault)

pub returns-in_err-made-clause-fault : goal.returns-in_err-made-clause-fault
returns-in_err-made-clause-fault c = exits c.from_residual-in_err-made.result _ Memory c.from_residual-in_err-made.ensures.1 (no_memory _ Memory refl)

pub returns-clause-automata : goal.returns-clause-automata
returns-clause-automata c = c.in_ok-made.ensures ∙ c.in_ok-found.ensures.value
