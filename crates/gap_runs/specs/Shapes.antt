-- The part of a run in one gap, by its path and its numbers.
use Rattle.std.specs.Prelude.{ℕ, ◌+◌, ◌*◌, ◌-◌, List, [], ◌∷◌, drop, length, pos, slice_index_or, take, ℤ}
use Rattle.poly_specs.specs.Rows.{Point}
use Rattle.run_specs.specs.Runs.{GapRun, Leg, Move}

-- of m variables: the leg whose values at the end stand from this place on, and then its length
abbrev pub leg_at : ℕ → List ℤ → ℕ → Leg
leg_at m nums from = record { length_of = slice_index_or nums (from + m) (pos 0); at_end = take m (drop from nums) }

-- how many numbers a leg has: its values at the end, its length, the values at its start
abbrev pub step : ℕ → ℕ
step m = 2 * m + 1

-- the move by transition e before a path of n more transitions
abbrev pub move_at : ℕ → List ℤ → ℕ → ℕ → Move
move_at m nums e n = record { leg = leg_at m nums ((n + 1) * step m); transition = e; after = take m (drop ((n + 1) * step m - m) nums) }

-- the moves along a path: their numbers stand backwards, after those of the last leg
abbrev pub moves_of : ℕ → List ℕ → List ℤ → List Move
moves_of m [] nums = []
moves_of m (e ∷ path) nums = move_at m nums e (length path) ∷ moves_of m path nums

-- of m variables, the part of a run from this location along this path, over this denominator: its numbers in the order in which they are picked
abbrev pub shaped : ℕ → ℕ → List ℕ → Point → GapRun
shaped m loc path numbers = record {
  den = numbers.den;
  start_loc = loc;
  start = drop (length numbers.num - m) numbers.num;
  moves = moves_of m path numbers.num;
  last = leg_at m numbers.num 0;
}
