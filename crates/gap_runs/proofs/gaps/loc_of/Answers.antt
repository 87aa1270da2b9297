use Rattle.std.proofs.Common.{◌∙◌, ◌<◌, length, ap, subst, sym}
use Rattle.gap_keys.specs.Views.{states_of}
use Rattle.run_specs.specs.Keys.{State, no_state}
use Rattle.sample_succ.proofs.ParentLemmas.{state_there}
use Rattle.gap_runs.proofs.gaps.loc_of.Goals as goal

pub returns-clause-within : goal.returns-clause-within
returns-clause-within c =
    let there = state_there c.states.result.now c.args.key.now.belief c.args.parent c.index-states-parent.result (ap (λ vs. states_of vs) c.states.ensures ∙ c.belief.ensures.value) c.index-states-parent.is
    c.requires.known in
    subst (λ l. l < length c.args.key.now.automaton.locations) (sym (c.loc.ensures ∙ ap (λ (s : State). s.loc) there)) (c.belief.ensures.kept.belief c.args.parent no_state c.requires.known).loc
