-- The first of the items that is marked.
use Rattle.std.specs.Prelude.{ℕ, ◌<◌, List, length, slice_index_or, IsTrue}
use Rattle.run_specs.specs.Keys.{no_state}
use Rattle.run_specs.specs.Outcomes.{Item}
use Rattle.run_specs.specs.SessionHistories.{states}

-- the state of item number i is marked
abbrev pub IsMarkedAt : List Item → ℕ → Type 0
IsMarkedAt items i = IsTrue (slice_index_or (states items) i no_state).seen_unsafe

-- item number i is the first that is marked
pub record IsFirstMarked (items : List Item) (i : ℕ) : Type 0 where
  pub below : i < length items
  pub marked : IsMarkedAt items i
  pub first : (j : ℕ) → j < i → IsMarkedAt items j → ⊥
