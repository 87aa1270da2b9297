-- The histories of a session's states: along which paths the runs come that end in each.
use Rattle.std.specs.Prelude.{◌≡◌, ◌⊎◌, ◌↔◌, ℕ, ◌<◌, IsTrue, List, [], ◌∷◌, ◌++◌, map, length, take, slice_index_or, ⊤}
use Rattle.poly_specs.specs.Rows.{Point, HasPoint, SamePoint, AllHold}
use Rattle.run_specs.specs.Automaton.{Automaton, width}
use Rattle.run_specs.specs.Logs.{Sample}
use Rattle.run_specs.specs.Runs.{GapRun, Place, Run, IsRun, VisitsUnsafe, end_of}
use Rattle.run_specs.specs.Histories.{History, history_of, IsEarlier}
use Rattle.run_specs.specs.Aims.{Aim}
use Rattle.run_specs.specs.Keys.{State, no_state}
use Rattle.run_specs.specs.Outcomes.{Item, Outcome, Next, Passed}
use Rattle.run_specs.specs.SessionHistories.{Entry, SessionHistory, opening_states, belief_after}

-- ---- the histories of the states that entries leave

-- past the last state, an empty history
abbrev pub no_history : History
no_history = record { start = 0; paths = [] }

-- at the opening: the start location alone
abbrev pub opening_histories : List State → List History
opening_histories belief = map (λ s. record { start = s.loc; paths = [] }) belief

-- one gap more, along this path
abbrev pub followed : History → List ℕ → History
followed h path = record h { paths = h.paths ++ path ∷ [] }

-- of the states of these items: that of the parent, and then the item's path
abbrev pub item_histories : List History → List Item → List History
item_histories before items = map (λ x. followed (slice_index_or before x.parent no_history) x.path) items

-- of the states that an outcome leaves
abbrev pub histories_left : List History → Outcome → List History
histories_left before (Next items) = item_histories before items
histories_left before Passed = []

-- of the states after these entries, where there were those before them
abbrev pub histories_after : List History → List Entry → List History
histories_after before [] = before
histories_after before (e ∷ es) = histories_after (histories_left before e.outcome) es

-- ---- the states of a session

-- the states after the first i gaps
abbrev pub states_at : SessionHistory → ℕ → List State
states_at h i = belief_after (opening_states h) (take i h.gaps)

-- and their histories
abbrev pub histories_at : SessionHistory → ℕ → List History
histories_at h i = histories_after (opening_histories (opening_states h)) (take i h.gaps)

-- state number j of these
abbrev pub state_at : SessionHistory → ℕ → ℕ → State
state_at h i j = slice_index_or (states_at h i) j no_state

-- and its history
abbrev pub history_at : SessionHistory → ℕ → ℕ → History
history_at h i j = slice_index_or (histories_at h i) j no_history

-- ---- the order of histories

-- h is k, or earlier
abbrev pub IsNoLater : History → History → Type 0
IsNoLater h k = (h ≡ k) ⊎ IsEarlier h k

-- h is earlier than the first, and each than the next
abbrev pub HistoriesRiseFrom : History → List History → Type 0
HistoriesRiseFrom h [] = ⊤
HistoriesRiseFrom h (k ∷ ks) = IsEarlier h k × HistoriesRiseFrom k ks

-- each is earlier than the next
abbrev pub HistoriesRise : List History → Type 0
HistoriesRise [] = ⊤
HistoriesRise (h ∷ hs) = HistoriesRiseFrom h hs

-- ---- where runs end

-- where gap runs lead from this place
abbrev pub place_after : Automaton → Place → List GapRun → Place
place_after a place [] = place
place_after a place (g ∷ gs) = place_after a (end_of a g) gs

-- where a run ends
abbrev pub run_end : Automaton → Run → Place
run_end a run = place_after a run.start run.gaps

-- a run of these samples with this history ends at the point
pub record EndsRun (a : Automaton) (k : ℕ) (samples : List Sample) (h : History) (q : Point) (run : Run) : Type 0 where
  pub run_of : IsRun a k samples run
  pub along : history_of run ≡ h
  pub ends : SamePoint (run_end a run).point q

-- the run ends in the state's location, and the state is marked exactly where the run visits an unsafe location
pub record HasMarksOf (a : Automaton) (x : State) (run : Run) : Type 0 where
  pub loc : (run_end a run).loc ≡ x.loc
  pub mark : IsTrue x.seen_unsafe ↔ VisitsUnsafe a run

-- the run ends in state number j after i gaps, whose history is no later
pub record EndsInState (h : SessionHistory) (i : ℕ) (run : Run) (j : ℕ) : Type 0 where
  pub below : j < length (states_at h i)
  pub marks : HasMarksOf h.automaton (state_at h i j) run
  pub holds : AllHold (state_at h i j).rows (run_end h.automaton run).point
  pub no_later : IsNoLater (history_at h i j) (history_of run)

-- the state can meet the aim: it is marked if the aim is an alarm, and some point of it meets the aim's rows
pub record CanMeet (m : ℕ) (aim : Aim) (x : State) : Type 0 where
  pub marked : IsTrue aim.alarm → IsTrue x.seen_unsafe
  pub some_point : HasPoint m (x.rows ++ aim.rows)

-- of the states after i gaps, number j is the first that can meet the aim, and the run has its history
pub record IsOfFirstState (h : SessionHistory) (aim : Aim) (i : ℕ) (run : Run) (j : ℕ) : Type 0 where
  pub below : j < length (states_at h i)
  pub meets : CanMeet (width h.automaton) aim (state_at h i j)
  pub along : history_at h i j ≡ history_of run
  pub first : (e : ℕ) → e < j → CanMeet (width h.automaton) aim (state_at h i e) → ⊥
