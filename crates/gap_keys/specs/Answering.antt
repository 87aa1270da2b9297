-- What an outcome says, and that it answers a key.
use Rattle.std.specs.Prelude.{ℕ, ⊤}
use Rattle.run_specs.specs.Automaton.{width}
use Rattle.run_specs.specs.Keys.{Key}
use Rattle.run_specs.specs.Outcomes as outcomes
use Rattle.run_specs.specs.Outcomes.{IsExact}
use Rattle.gap_keys.specs.declared.outcomes.Outcome.{Outcome}
use Rattle.gap_keys.specs.declared.outcomes.Outcome.TheVariants as outcome
use Rattle.gap_keys.specs.Views.{items_of, AreItemsWide}

-- the items, or that a number passed
abbrev pub outcome_of : Outcome → outcomes.Outcome
outcome_of (outcome.Next items) = outcomes.Next (items_of items)
outcome_of outcome.Overflow = outcomes.Passed

-- the systems of the states that it leaves have m columns
abbrev pub IsOutcomeWide : ℕ → Outcome → Type 0
IsOutcomeWide m (outcome.Next items) = AreItemsWide m items
IsOutcomeWide m outcome.Overflow = ⊤

-- the outcome is exact for the key, and its systems are over the variables of the key's automaton
pub record IsAnswer (key : Key) (o : Outcome) : Type 0 where
  pub exact : IsExact key (outcome_of o)
  pub wide : IsOutcomeWide (width key.automaton) o
