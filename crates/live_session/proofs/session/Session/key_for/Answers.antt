use Rattle.std.proofs.Common.{◌≡◌, sym, ◌∙◌, ap, subst}
use Rattle.std.specs.Prelude.{All}
use Rattle.std.specs.Arc.{arc_value}
use Rattle.poly_specs.specs.Arithmetic.{lowest}
use Rattle.poly_specs.specs.Fractions.{difference}
use Rattle.run_specs.specs.Logs.{Sample}
use Rattle.run_specs.specs.Automaton.{width}
use Rattle.run_specs.specs.SessionHistories.{Entry, belief_after, opening_states}
use Rattle.run_specs.specs.Sessions.{last_time}
use Rattle.gap_keys.specs.Views.{states_of}
use Rattle.live_session.specs.Entries.{entries_of, given_of, history_of}
use Rattle.live_session.proofs.KeyLemmas.{none_there, some_there, key_none, key_some, linked_widths}
use Rattle.live_session.proofs.session.Session.key_for.Goals as goal

pub returns-then-is_empty : goal.returns-then-is_empty
returns-then-is_empty c =
    let i = c.self.inside in
    key_none (history_of (arc_value i.automaton) i.jumps i.opened i.opening (entries_of i.gaps.items)) i.columns.items i.log.items (given_of i.given) i.begun i.opening c.in_ok-belief.belief
    c.args.self.now c.args.sample.now c.self.view_is c.self.invariant.opening
    (c.in_ok-belief.ensures.states ∙ ap (λ gs. belief_after (states_of i.opening) (entries_of gs)) c.as_slice.ensures.value)
    (ap (λ vs. states_of vs) (sym c.states.ensures) ∙ none_there c.states.result.now (sym c.is_empty.ensures ∙ c.if-is_empty.true))

pub time_since-gap-requires : goal.time_since-gap-requires
time_since-gap-requires c = record {
  time = rw c.time.ensures c.requires.time;
  before = rw (c.time_of_last-before.ensures, c.as_slice-2.ensures.value) c.self.invariant.time;
}

pub returns : goal.returns
returns c =
    let i = c.self.inside in
    key_some (history_of (arc_value i.automaton) i.jumps i.opened i.opening (entries_of i.gaps.items)) i.columns.items i.log.items (given_of i.given) i.begun i.opening c.in_ok-belief.belief
    c.args.self.now c.args.sample.now c.self.view_is c.self.invariant.opening
    (c.in_ok-belief.ensures.states ∙ ap (λ gs. belief_after (states_of i.opening) (entries_of gs)) c.as_slice.ensures.value)
    c.make.result (arc_value c.in_ok-automaton.automaton) c.time_since-gap.result c.in_ok-seen.seen.items c.self.invariant.session
    (λ n. some_there c.states.result.now (sym c.is_empty.ensures ∙ c.if-is_empty.false) (ap (λ vs. states_of vs) c.states.ensures ∙ n)) c.requires.may_begin c.requires.sample
    c.in_ok-automaton.ensures
    (c.time_since-gap.ensures ∙ ap (λ t. lowest (difference t c.time_of_last-before.result)) c.time.ensures
    ∙ ap (λ t. lowest (difference c.args.sample.now.time t)) (c.time_of_last-before.ensures ∙ ap (λ ss. last_time ss) c.as_slice-2.ensures.value))
    (c.in_ok-seen.ensures ∙ c.cells.ensures ∙ ap (λ (x : Sample). x.cells) c.requires.placed)
    c.make.ensures
    (c.in_ok-belief.ensures.wide (width (arc_value i.automaton)) c.self.invariant.wide
    (subst (λ gs. All (λ (e : Entry). width e.key.automaton ≡ width (arc_value i.automaton)) (entries_of gs)) (sym c.as_slice.ensures.value)
    (linked_widths (arc_value i.automaton) i.jumps (opening_states (history_of (arc_value i.automaton) i.jumps i.opened i.opening (entries_of i.gaps.items))) (entries_of i.gaps.items)
    c.self.invariant.session.history.linked)))
