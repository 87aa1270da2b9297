-- The entries of a history that leave states.
use Rattle.std.specs.Prelude.{◌≡◌, ℕ, List, Option, Some, slice_get}
use Rattle.poly_specs.specs.Fractions.{Fraction}
use Rattle.run_specs.specs.Keys.{Key}
use Rattle.run_specs.specs.Outcomes.{Item, Next}
use Rattle.run_specs.specs.SessionHistories.{SessionHistory}
use Rattle.run_specs.specs.StateHistories.{states_at}

-- the key of gap number i, if it lasts so long and this is seen after it
abbrev pub key_at : SessionHistory → ℕ → Fraction → List (Option Fraction) → Key
key_at h i gap seen = record { automaton = h.automaton; jumps = h.jumps; belief = states_at h i; gap = gap; seen = seen }

-- gap number i has this entry, which has items
abbrev pub HasItems : SessionHistory → ℕ → Key → List Item → Type 0
HasItems h i key items = slice_get h.gaps i ≡ Some (record { key = key; outcome = Next items })
