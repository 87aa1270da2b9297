use Rattle.std.proofs.Common.{◌≡◌, ◌∙◌, ap, subst, sym}
use Rattle.std.specs.Arc.{arc_value}
use Rattle.run_specs.specs.Automaton.{width}
use Rattle.run_specs.specs.SessionHistories.{Entry, states_left}
use Rattle.gap_keys.specs.Answering.{outcome_of, IsAnswer, IsOutcomeWide}
use Rattle.gap_keys.specs.Views.{states_of}
use Rattle.live_session.proofs.LastLemmas.{belief_at, all_at}
use Rattle.live_session.proofs.beliefs.last_belief.Goals as goal

pub returns-in_ok-left-in-Some-clause-states : goal.returns-in_ok-left-in-Some-clause-states
returns-in_ok-left-in-Some-clause-states c =
    let f : c.val.result.now ≡ (arc_value c.in-Some.entry.now).1 = cc in
    c.in_ok-left-in-Some.ensures.states ∙ ap (λ o. states_left (outcome_of o)) f
    ∙ belief_at (states_of c.args.opening.now) c.args.gaps.now c.in-Some.entry.now c.in-Some.ensures.value

pub returns-in_ok-left-in-Some-clause-wide : goal.returns-in_ok-left-in-Some-clause-wide
returns-in_ok-left-in-Some-clause-wide c m opening all =
    let held = arc_value c.in-Some.entry.now in
    let f : c.val.result.now ≡ held.1 = cc in
    let answer = subst (λ p. IsAnswer p.0 p.1) c.deref.ensures c.val.ensures.holds in
    let same : width held.0.automaton ≡ m = all_at (λ (e : Entry). width e.key.automaton ≡ m) c.args.gaps.now c.in-Some.entry.now c.in-Some.ensures.value all in
    c.in_ok-left-in-Some.ensures.wide m (subst (IsOutcomeWide m) (sym f) (subst (λ n. IsOutcomeWide n held.1) same answer.wide))
