-- Entries as they are shared, and a history by its parts.
use Rattle.std.specs.Prelude.{◌≡◌, ℕ, Bool, true, false, List, [], ◌∷◌, ◌++◌, if◌then◌else◌, map, Option, Some, None}
use Rattle.std.specs.Option.{option_map}
use Rattle.std.specs.Arc.{arc_value}
use Rattle.std.specs.declared.sync.Arc.{Arc}
use Rattle.run_specs.specs.declared.Verdict.{Verdict}
use Rattle.run_specs.specs.declared.Verdict.TheVariants.{Impossible, Overflow}
use Rattle.run_specs.specs.Automaton.{Automaton, width}
use Rattle.run_specs.specs.Keys.{State, Key}
use Rattle.run_specs.specs.Outcomes.{Next, Passed}
use Rattle.run_specs.specs.SessionHistories.{Entry, SessionHistory, IsHistory, opening_states, verdict_of}
use Rattle.gap_keys.specs.declared.outcomes.Outcome.{Outcome}
use Rattle.gap_keys.specs.Answering.{outcome_of}
use Rattle.gap_keys.specs.Views.{StateView, AreWide, states_of}

-- a key beside its outcome
abbrev pub entry_of : Key × Outcome → Entry
entry_of held = record { key = held.0; outcome = outcome_of held.1 }

-- those that are shared
abbrev pub entries_of : {A : Type 0} → List (Arc (Key × Outcome) A) → List Entry
entries_of gaps = map (λ e. entry_of (arc_value e)) gaps

-- the states at the opening, if it is known
abbrev pub opening_of : Bool → List State → Option (List State)
opening_of true belief = Some belief
opening_of false belief = None

-- a history by its parts
abbrev pub history_of : Automaton → ℕ → Bool → List StateView → List Entry → SessionHistory
history_of a jumps opened belief gaps = record { automaton = a; jumps = jumps; opening = opening_of opened (states_of belief); gaps = gaps }

-- what is kept of a history: these are its states at the opening, with systems over the automaton's variables
pub record KeepsHistory (belief : List StateView) (h : SessionHistory) : Type 0 where
  pub history : IsHistory h
  pub opening : states_of belief ≡ opening_states h
  pub wide : AreWide (width h.automaton) belief

-- one that is given
abbrev pub given_of : {A : Type 0} → Option (Arc (Key × Outcome) A) → Option Entry
given_of given = option_map (λ e. entry_of (arc_value e)) given

-- the entries, and then the one that is given
abbrev pub with_given : List Entry → Option Entry → List Entry
with_given gaps None = gaps
with_given gaps (Some e) = gaps ++ e ∷ []

-- the last entry passed
abbrev pub last_passed : List Entry → Bool
last_passed [] = false
last_passed (e ∷ []) = elim e.outcome [ Next items ↦ false | Passed ↦ true ]
last_passed (e ∷ f ∷ fs) = last_passed (f ∷ fs)

-- the verdict for a sample, where these are the entries before it, this one is given for it, and nothing more is wanted
abbrev pub verdict_with : Bool → List Entry → Option Entry → Verdict
verdict_with false gaps given = Overflow
verdict_with true gaps None = if last_passed gaps then Overflow else Impossible
verdict_with true gaps (Some e) = verdict_of e.outcome
