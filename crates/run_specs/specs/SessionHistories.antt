-- The history that a session keeps, and the verdicts that it tells.
use Rattle.std.specs.Prelude.{◌≡◌, ℕ, zero, suc, ◌≤◌, Bool, true, false, ◌||◌, if◌then◌else◌, List, [], ◌∷◌, map, All, Option, Some, None, ⊤}
use Rattle.poly_specs.specs.Fractions.{Below, zero_fraction}
use Rattle.run_specs.specs.declared.Verdict.{Verdict}
use Rattle.run_specs.specs.declared.Verdict.TheVariants.{Alarm, Safe, Impossible, Overflow}
use Rattle.run_specs.specs.Automaton.{Automaton}
use Rattle.run_specs.specs.WellFormed.{IsWellFormed}
use Rattle.run_specs.specs.Keys.{State, Key, IsKey}
use Rattle.run_specs.specs.Openings.{IsOpening}
use Rattle.run_specs.specs.Outcomes.{Item, Outcome, Next, Passed, IsExact}

-- a key with its outcome
pub record Entry : Type 0 where
  pub key : Key
  pub outcome : Outcome

-- the key is within its limits, and the outcome is exact for it
pub record IsEntry (e : Entry) : Type 0 where
  pub key : IsKey e.key
  pub exact : IsExact e.key e.outcome

-- what a session keeps: the states at the opening, unless forming them passed, and an entry for each gap
pub record SessionHistory : Type 0 where
  pub automaton : Automaton
  pub jumps : ℕ
  pub opening : Option (List State)
  pub gaps : List Entry

-- ---- the states that entries leave

-- the states of these items
abbrev pub states : List Item → List State
states items = map (λ x. x.state) items

-- the states that an outcome leaves
abbrev pub states_left : Outcome → List State
states_left (Next items) = states items
states_left Passed = []

-- the states at the opening; none where forming them passed
abbrev pub opening_states : SessionHistory → List State
opening_states h = elim h.opening [ None ↦ [] | Some belief ↦ belief ]

-- the states after these entries, where there were those before them
abbrev pub belief_after : List State → List Entry → List State
belief_after belief [] = belief
belief_after belief (e ∷ es) = belief_after (states_left e.outcome) es

-- the states after the last entry
abbrev pub last_belief : SessionHistory → List State
last_belief h = belief_after (opening_states h) h.gaps

-- ---- what a history keeps

-- each key has this automaton, so many jumps, and the states that the entry before leaves; none follows an entry that passed
abbrev pub AreLinked : Automaton → ℕ → List State → List Entry → Type 0
AreLinked a k belief [] = ⊤
AreLinked a k belief (e ∷ es) =
    IsEntry e × (e.key.automaton ≡ a) × (e.key.jumps ≡ k) × (e.key.belief ≡ belief)
    × elim e.outcome [ Next items ↦ AreLinked a k (states items) es | Passed ↦ es ≡ [] ]

-- each gap after the first is above 0
abbrev pub LaterGapsLast : List Entry → Type 0
LaterGapsLast [] = ⊤
LaterGapsLast (first ∷ later) = All (λ e. Below zero_fraction e.key.gap) later

-- what a history keeps; where forming the opening passed, it has no entry
pub record IsHistory (h : SessionHistory) : Type 0 where
  pub automaton : IsWellFormed h.automaton
  pub jumps : h.jumps ≤ 6
  pub opening : IsOpening h.automaton h.opening
  pub not_opened : h.opening ≡ None → h.gaps ≡ []
  pub linked : AreLinked h.automaton h.jumps (opening_states h) h.gaps
  pub later_gaps : LaterGapsLast h.gaps

-- ---- verdicts

-- one of the items is marked
abbrev pub some_marked : List Item → Bool
some_marked [] = false
some_marked (x ∷ xs) = x.state.seen_unsafe || some_marked xs

-- the verdict that an outcome tells
abbrev pub verdict_of : Outcome → Verdict
verdict_of Passed = Overflow
verdict_of (Next []) = Impossible
verdict_of (Next (x ∷ xs)) = if some_marked (x ∷ xs) then Alarm else Safe

-- the verdict that entries tell at this place, counted from 0, where there were these states before them
abbrev pub verdict_after : List State → List Entry → ℕ → Option Verdict
verdict_after [] [] i = Some Impossible
verdict_after (s ∷ ss) [] i = None
verdict_after belief (e ∷ es) zero = Some (verdict_of e.outcome)
verdict_after belief (e ∷ es) (suc i) =
    elim e.outcome [ Next items ↦ verdict_after (states items) es i | Passed ↦ Some Overflow ]

-- the verdict that a history tells at this place, if it tells one
abbrev pub verdict_at : SessionHistory → ℕ → Option Verdict
verdict_at h i = elim h.opening [ None ↦ Some Overflow | Some belief ↦ verdict_after belief h.gaps i ]

-- one of the entries passed
abbrev pub has_passed : List Entry → Bool
has_passed [] = false
has_passed (e ∷ es) = elim e.outcome [ Next items ↦ has_passed es | Passed ↦ true ]

-- the opening or an entry of the history passed
abbrev pub has_overflowed : SessionHistory → Bool
has_overflowed h = elim h.opening [ None ↦ true | Some belief ↦ has_passed h.gaps ]
