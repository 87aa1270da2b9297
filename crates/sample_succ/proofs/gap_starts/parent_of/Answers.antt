use Rattle.run_specs.specs.Automaton.{width}
use Rattle.run_specs.specs.Keys.{no_state}
use Rattle.gap_keys.specs.Views.{states_of}
use Rattle.std.proofs.Common.{◌∙◌, ap}
use Rattle.sample_succ.proofs.ParentLemmas.{many_there, state_there, width_there}
use Rattle.sample_succ.proofs.gap_starts.parent_of.Goals as goal

pub bounds-states-parent : goal.bounds-states-parent
bounds-states-parent c = many_there c.states.result.now c.args.key.now.belief c.args.parent (ap (λ vs. states_of vs) c.states.ensures ∙ c.belief.ensures.value) c.requires.known

pub returns-clause-value : goal.returns-clause-value
returns-clause-value c =
    state_there c.states.result.now c.args.key.now.belief c.args.parent c.index-states-parent.result (ap (λ vs. states_of vs) c.states.ensures ∙ c.belief.ensures.value) c.index-states-parent.is
    c.requires.known

pub returns-clause-wide : goal.returns-clause-wide
returns-clause-wide c =
    width_there c.states.result.now c.args.key.now.belief c.args.parent c.index-states-parent.result (ap (λ vs. states_of vs) c.states.ensures ∙ c.belief.ensures.value) c.index-states-parent.is
    (width c.args.key.now.automaton) c.requires.known (rw c.states.ensures c.belief.ensures.wide)

pub returns-clause-kept : goal.returns-clause-kept
returns-clause-kept c = c.belief.ensures.kept.belief c.args.parent no_state c.requires.known
