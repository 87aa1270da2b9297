-- The plain stages of a history: the systems of rows that it goes through, and the numbers that they form.
use Rattle.std.specs.Prelude.{◌⊎◌, ℕ, zero, suc, ◌+◌, ◌*◌, ◌==◌, Bool, false, List, [], ◌∷◌, ◌++◌, map, filter, flat_map, take, drop, replicate, ℤ, pos, negsuc, neg_ℤ, unsigned_abs, Option, Some, None, slice_set}
use Rattle.poly_specs.specs.Lists.{number_at}
use Rattle.poly_specs.specs.Fractions.{Fraction, opposite, difference}
use Rattle.poly_specs.specs.Arithmetic.{least_sum, sum_numbers}
use Rattle.poly_specs.specs.Rows.{Point, Row, HasPoint, over, with_coef}
use Rattle.poly_specs.specs.Columns.{cut}
use Rattle.poly_specs.specs.Bits.{SomePasses}
use Rattle.poly_specs.specs.Elimination.{divided, eliminated_each, formed_each, columns_down}
use Rattle.run_specs.specs.Automaton.{Automaton, width, location_at, transition_at, tolerance_at}
use Rattle.run_specs.specs.Logs.{Sample, cell_at}
use Rattle.run_specs.specs.Runs.{end_loc}

-- ---- a stage

-- a stage: its rows; the columns that are eliminated from them, in order; the rows that are added again afterwards;
-- how many columns are left; and the numbers of the sums that its rows took
pub record Stage : Type 0 where
  pub rows : List Row
  pub columns : List ℕ
  pub again : List Row
  pub left : ℕ
  pub sums : List ℤ

-- the rows after the stage, in the columns that are left
unfoldable pub rows_after : Stage → List Row
rows_after s = map (cut s.left) (eliminated_each s.columns s.rows ++ s.again)

-- the numbers of the stage, and of its test, which eliminates all columns that are left, from the right
unfoldable pub stage_numbers : Stage → List ℤ
stage_numbers s = s.sums ++ formed_each s.columns s.rows ++ formed_each (columns_down 0 s.left) (rows_after s)

-- a number of a reached stage passes; a stage is reached where all stages before it have a point
abbrev pub SomeReachedPasses : List Stage → Type 0
SomeReachedPasses [] = ⊥
SomeReachedPasses (s ∷ ss) = SomePasses (stage_numbers s) ⊎ (HasPoint s.left (rows_after s) × SomeReachedPasses ss)

-- ---- rows

-- n zeros
abbrev pub zeros : ℕ → List ℤ
zeros n = replicate n (pos 0)

-- of n columns, the row that says c * x + b ≤ 0 of column x
abbrev pub row_of : ℕ → ℕ → ℤ → ℤ → Row
row_of n x c b = record { coef = slice_set (zeros n) x c; cst = b; strict = false }

-- of n columns, the row that says x ≤ v of column x
abbrev pub at_most : ℕ → ℕ → Fraction → Row
at_most n x v = divided (row_of n x v.den (neg_ℤ v.num))

-- the row that says v ≤ x
abbrev pub at_least : ℕ → ℕ → Fraction → Row
at_least n x v = divided (row_of n x (neg_ℤ v.den) v.num)

-- ---- the opening and the start of a gap; m is the number of variables

-- the opening in a location with these init rows; columns: the values
abbrev pub opening_stage : Automaton → ℕ → List Row → Stage
opening_stage a l init = record {
  rows = init ++ (location_at a l).invariant;
  columns = [];
  again = [];
  left = width a;
  sums = [];
}

-- the start of a gap: the elapsed time is 0; columns: the values, the elapsed time
abbrev pub gap_start : ℕ → List Row → List Row
gap_start m rows =
    map (λ r. with_coef (take m r.coef ++ pos 0 ∷ []) r) rows
    ++ row_of (m + 1) m (pos 1) (pos 0) ∷ row_of (m + 1) m (negsuc 0) (pos 0) ∷ []

-- ---- a leg; columns: the values at the end, the elapsed time there, the leg's length, the values at the start

-- the values q at the end, the elapsed time there, the length and the values p at the start, over d
abbrev pub leg_point : ℤ → List ℤ → ℤ → ℤ → List ℤ → Point
leg_point d q elapsed t p = over d (q ++ elapsed ∷ t ∷ p)

-- a row of the state, where the elapsed time is that at the end without the length
abbrev pub leg_before : ℕ → Row → Row
leg_before m r =
    with_coef (zeros m ++ number_at m r.coef ∷ neg_ℤ (number_at m r.coef) ∷ take m r.coef) r

-- a row of the invariant, on the values at the start
abbrev pub leg_inside_before : ℕ → Row → Row
leg_inside_before m r = with_coef (zeros (m + 2) ++ r.coef) r

-- a row of the invariant, on the values at the end
abbrev pub leg_inside_after : ℕ → Row → Row
leg_inside_after m r = with_coef (r.coef ++ zeros (m + 2)) r

-- a row of the slopes, with the difference of the values for the slope
abbrev pub leg_slope : ℕ → Row → Row
leg_slope m r =
    with_coef (take m r.coef ++ pos 0 ∷ number_at m r.coef ∷ map neg_ℤ (take m r.coef)) r

-- the system of a leg: the state, the invariant at the start and at the end, a length of at least 0, the slopes
abbrev pub leg_rows : Automaton → ℕ → List Row → List Row
leg_rows a l state =
    map (leg_before (width a)) state
    ++ map (leg_inside_before (width a)) (location_at a l).invariant
    ++ map (leg_inside_after (width a)) (location_at a l).invariant
    ++ row_of (2 * width a + 2) (width a + 1) (negsuc 0) (pos 0)
    ∷ map (leg_slope (width a)) (location_at a l).slopes

-- a leg in location l from this state
abbrev pub leg_stage : Automaton → ℕ → List Row → Stage
leg_stage a l state = record {
  rows = leg_rows a l state;
  columns = columns_down (width a + 1) (width a + 1);
  again = [];
  left = width a + 1;
  sums = [];
}

-- ---- a jump; columns: the values after, the elapsed time, the values before

-- the values q after, the elapsed time and the values p before, over d
abbrev pub jump_point : ℤ → List ℤ → ℤ → List ℤ → Point
jump_point d q elapsed p = over d (q ++ elapsed ∷ p)

-- a row of the state, on the values before
abbrev pub jump_before : ℕ → Row → Row
jump_before m r = with_coef (zeros m ++ number_at m r.coef ∷ take m r.coef) r

-- a row of the transition
abbrev pub jump_related : ℕ → Row → Row
jump_related m r = with_coef (drop m r.coef ++ pos 0 ∷ take m r.coef) r

-- a row of the target's invariant, on the values after
abbrev pub jump_inside_after : ℕ → Row → Row
jump_inside_after m r = with_coef (r.coef ++ zeros (m + 1)) r

-- the system of a jump: the state, the transition, the target's invariant
abbrev pub jump_rows : Automaton → ℕ → List Row → List Row
jump_rows a e state =
    map (jump_before (width a)) state
    ++ map (jump_related (width a)) (transition_at a e).relation
    ++ map (jump_inside_after (width a)) (location_at a (transition_at a e).target).invariant

-- a jump by transition e from this state
abbrev pub jump_stage : Automaton → ℕ → List Row → Stage
jump_stage a e state = record {
  rows = jump_rows a e state;
  columns = columns_down (width a + 1) (width a);
  again = [];
  left = width a + 1;
  sums = [];
}

-- ---- the sample after a gap; columns: the values, the elapsed time

-- of n columns, the two rows of an observed value: column j is within the tolerance w of it
abbrev pub near_rows : ℕ → ℕ → Fraction → Option Fraction → List Row
near_rows n j w None = []
near_rows n j w (Some v) = at_most n j (least_sum v w) ∷ at_least n j (least_sum v (opposite w)) ∷ []

-- the numbers of the value's sum and difference with the tolerance
abbrev pub near_sums : Fraction → Option Fraction → List ℤ
near_sums w None = []
near_sums w (Some v) = sum_numbers v w ++ sum_numbers v (opposite w)

-- there is a value, and the tolerance is 0
abbrev pub is_exact : Fraction → Option Fraction → Bool
is_exact w None = false
is_exact w (Some v) = unsigned_abs w.num == 0

-- the rows of variable j
abbrev pub seen_rows : Automaton → List (Option Fraction) → ℕ → List Row
seen_rows a cells j = near_rows (width a + 1) j (tolerance_at a j) (cell_at j cells)

-- the numbers of its sums
abbrev pub seen_sums : Automaton → List (Option Fraction) → ℕ → List ℤ
seen_sums a cells j = near_sums (tolerance_at a j) (cell_at j cells)

-- it is observed with the tolerance 0
abbrev pub seen_exactly : Automaton → List (Option Fraction) → ℕ → Bool
seen_exactly a cells j = is_exact (tolerance_at a j) (cell_at j cells)

-- 0, 1, .. to n - 1
abbrev pub below : ℕ → List ℕ
below zero = []
below (suc n) = below n ++ n ∷ []

-- the state's rows, the two rows of the elapsed time, and those of the observed variables
abbrev pub sample_rows : Automaton → Fraction → List (Option Fraction) → List Row → List Row
sample_rows a duration cells state =
    state
    ++ at_most (width a + 1) (width a) duration
    ∷ at_least (width a + 1) (width a) duration
    ∷ flat_map (seen_rows a cells) (below (width a))

-- a sample with these cells after a gap of this length, from this state
abbrev pub sample_stage : Automaton → Fraction → List (Option Fraction) → List Row → Stage
sample_stage a duration cells state = record {
  rows = sample_rows a duration cells state;
  columns = width a ∷ filter (seen_exactly a cells) (columns_down 0 (width a));
  again = flat_map (seen_rows a cells) (filter (seen_exactly a cells) (below (width a)));
  left = width a;
  sums = flat_map (seen_sums a cells) (below (width a));
}

-- ---- the stages of a gap, and of a history

-- the state after the legs and jumps along a path, from this state in location l
abbrev pub path_rows : Automaton → ℕ → List ℕ → List Row → List Row
path_rows a l [] state = rows_after (leg_stage a l state)
path_rows a l (e ∷ path) state =
    path_rows a (transition_at a e).target path (rows_after (jump_stage a e (rows_after (leg_stage a l state))))

-- their stages
abbrev pub path_stages : Automaton → ℕ → List ℕ → List Row → List Stage
path_stages a l [] state = leg_stage a l state ∷ []
path_stages a l (e ∷ path) state =
    leg_stage a l state
    ∷ jump_stage a e (rows_after (leg_stage a l state))
    ∷ path_stages a (transition_at a e).target path (rows_after (jump_stage a e (rows_after (leg_stage a l state))))

-- the stages of a gap: those along its path, and then its sample
abbrev pub gap_stages : Automaton → ℕ → List ℕ → Fraction → List (Option Fraction) → List Row → List Stage
gap_stages a l path duration cells rows =
    path_stages a l path (gap_start (width a) rows)
    ++ sample_stage a duration cells (path_rows a l path (gap_start (width a) rows)) ∷ []

-- the rows after them
abbrev pub gap_rows : Automaton → ℕ → List ℕ → Fraction → List (Option Fraction) → List Row → List Row
gap_rows a l path duration cells rows =
    rows_after (sample_stage a duration cells (path_rows a l path (gap_start (width a) rows)))

-- the stages of the gaps of a log, from these rows in location l at time t, along a path for each gap
abbrev pub gaps_stages : Automaton → ℕ → Fraction → List Sample → List (List ℕ) → List Row → List Stage
gaps_stages a l t [] paths rows = []
gaps_stages a l t (s ∷ ss) [] rows = []
gaps_stages a l t (s ∷ ss) (path ∷ paths) rows =
    gap_stages a l path (difference s.time t) s.cells rows
    ++ gaps_stages a (end_loc a l path) s.time ss paths (gap_rows a l path (difference s.time t) s.cells rows)

-- the rows after them
abbrev pub gaps_rows : Automaton → ℕ → Fraction → List Sample → List (List ℕ) → List Row → List Row
gaps_rows a l t [] paths rows = rows
gaps_rows a l t (s ∷ ss) [] rows = rows
gaps_rows a l t (s ∷ ss) (path ∷ paths) rows =
    gaps_rows a (end_loc a l path) s.time ss paths (gap_rows a l path (difference s.time t) s.cells rows)
