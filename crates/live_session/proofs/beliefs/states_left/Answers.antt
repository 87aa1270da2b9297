use Rattle.std.proofs.Common.{◌≡◌, sym, ◌∙◌, ap, subst}
use Rattle.run_specs.specs.SessionHistories as histories
use Rattle.gap_keys.specs.declared.outcomes.Outcome.TheVariants.{Next}
use Rattle.gap_keys.specs.Answering.{outcome_of, IsOutcomeWide}
use Rattle.gap_keys.specs.Views.{AreWide, states_of}
use Rattle.live_session.proofs.LastLemmas.{states_shown, states_wide}
use Rattle.live_session.proofs.beliefs.states_left.Goals as goal

pub returns-in_ok-states-in-Next-clause-states : goal.returns-in_ok-states-in-Next-clause-states
returns-in_ok-states-in-Next-clause-states c =
    let xs = c.items.result.now in
    let e : c.args.outcome.now ≡ Next xs = cc in
    ap (λ vs. states_of vs) (c.new.ensures ∙ c.in_ok-states-in-Next.ensures) ∙ states_shown xs ∙ ap (λ o. histories.states_left (outcome_of o)) (sym e)

pub returns-in_ok-states-in-Next-clause-wide : goal.returns-in_ok-states-in-Next-clause-wide
returns-in_ok-states-in-Next-clause-wide c m h =
    let xs = c.items.result.now in
    let e : c.args.outcome.now ≡ Next xs = cc in
    subst (AreWide m) (sym (c.new.ensures ∙ c.in_ok-states-in-Next.ensures)) (states_wide m xs (subst (IsOutcomeWide m) e h))
