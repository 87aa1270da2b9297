-- Picking the numbers of a point from the levels of a system, and when this passes 128 bits.
use Rattle.std.specs.Prelude.{◌≡◌, ◌⊎◌, ℕ, ◌+◌, ◌-◌, ◌<◌, ◌≤◌, List, [], ◌∷◌, ◌++◌, All, length, take, ℤ, pos, ◌*ℤ◌, slice_index_or}
use Rattle.poly_specs.specs.Lists.{In}
use Rattle.poly_specs.specs.Fractions.{Fraction, IsFraction, SameFraction, zero_fraction}
use Rattle.poly_specs.specs.Rows.{Point, Row, coordinate}
use Rattle.poly_specs.specs.Bits.{SomePasses}
use Rattle.poly_specs.specs.Elimination.{eliminated_each, columns_down}
use Rattle.poly_specs.specs.Arithmetic.{lowest, least_sum, sum_numbers}
use Rattle.poly_specs.specs.Denominators.{common_den, common_nums, common_numbers}
use Rattle.poly_specs.specs.Evaluation.{eval_numbers}
use Rattle.poly_specs.specs.Bounds.{IsPoint}
use Rattle.poly_specs.specs.Picks.{HasEnds, HasNoInteger, IsPick}

-- a system from which the numbers in its columns from a first one on are picked, and the numbers in all its columns
pub record Picking : Type 0 where
  pub rows : List Row
  pub first : ℕ
  pub numbers : List Fraction

-- the number in column x
abbrev pub picked_at : Picking → ℕ → Fraction
picked_at p x = slice_index_or p.numbers x zero_fraction

-- some point of the system agrees with the numbers before column x, and has v in it
pub record CanTake (p : Picking) (x : ℕ) (v : Fraction) (q : Point) : Type 0 where
  pub point : IsPoint (length p.numbers) p.rows q
  pub agrees : (j : ℕ) → j < x → SameFraction (coordinate j q) (picked_at p j)
  pub value : SameFraction (coordinate x q) v

-- v is a value that the system leaves for column x
abbrev pub IsOpen : Picking → ℕ → Fraction → Type 0
IsOpen p x v = (q : Point) × CanTake p x v q

-- each number from the first column on is the pick of the values that the system leaves for its column
abbrev pub ArePicked : Picking → Type 0
ArePicked p = (x : ℕ) → p.first ≤ x → x < length p.numbers → IsPick (IsOpen p x) (picked_at p x)

-- numbers for all n columns that begin with the given ones, each further one picked, and the point of the system that has them
pub record ArePickedNumbers (n : ℕ) (rows : List Row) (given numbers : List Fraction) (p : Point) : Type 0 where
  pub sized : length numbers ≡ n
  pub begins : take (length given) numbers ≡ given
  pub fractions : All IsFraction numbers
  pub picked : ArePicked (record { rows = rows; first = length given; numbers = numbers })
  pub point : IsPoint n rows p
  pub agrees : (j : ℕ) → j < n → SameFraction (coordinate j p) (slice_index_or numbers j zero_fraction)

-- ---- when it passes

-- the level rows in the columns before y: those that the plain elimination of column y and the columns after it keeps or forms
abbrev pub level_rows : Picking → ℕ → List Row
level_rows p y = eliminated_each (columns_down y (length p.numbers - y)) p.rows

-- the numbers that are fixed before column x
abbrev pub fixed : Picking → ℕ → List Fraction
fixed p x = take x p.numbers

-- evaluating the level rows in the columns before y passes, at the numbers fixed before column x, over their least common denominator
abbrev pub EvalPasses : Picking → ℕ → ℕ → Type 0
EvalPasses p x y =
    (r : Row) × In r (level_rows p y) × SomePasses (eval_numbers r (common_nums (fixed p x)) (pos (common_den (fixed p x))))

-- the same of some level rows at the numbers that are fixed when they are used: those of all their columns, or of all but the last
pub record LevelPasses (p : Picking) (x y : ℕ) : Type 0 where
  pub from_first : p.first ≤ x
  pub all_or_all_but_last : (x ≡ y) ⊎ (x + 1 ≡ y)
  pub within : y ≤ length p.numbers
  pub passes : EvalPasses p x y

-- half of x
abbrev pub half : Fraction → Fraction
half x = record { num = x.num; den = x.den *ℤ pos 2 }

-- the numbers of x in lowest terms
abbrev pub lowest_numbers : Fraction → List ℤ
lowest_numbers x = (lowest x).num ∷ (lowest x).den ∷ []

-- the numbers of a middle: its two ends, their sum, and the half of it
abbrev pub middle_numbers : Fraction → Fraction → List ℤ
middle_numbers low high =
    lowest_numbers low
    ++ lowest_numbers high
    ++ sum_numbers (lowest low) (lowest high)
    ++ lowest_numbers (half (least_sum (lowest low) (lowest high)))

-- the middle of these ends is picked for column x, and is open: there is no integer, and neither end is
pub record IsMiddlePicked (p : Picking) (x : ℕ) (low high : Fraction) : Type 0 where
  pub from_first : p.first ≤ x
  pub within : x < length p.numbers
  pub inside : IsOpen p x (picked_at p x)
  pub ends : HasEnds (IsOpen p x) low high
  pub no_integer : HasNoInteger (IsOpen p x)
  pub not_low : IsOpen p x low → ⊥
  pub not_high : IsOpen p x high → ⊥

-- the numbers fixed before column x pass, written over their least common denominator
pub record FixedPass (p : Picking) (x : ℕ) : Type 0 where
  pub from_first : p.first ≤ x
  pub within : x ≤ length p.numbers
  pub passes : SomePasses (common_numbers (fixed p x))

-- picking passes: evaluating a level row does, forming a middle, or writing the numbers fixed so far over one denominator
abbrev pub PickPasses : Picking → Type 0
PickPasses p =
    ((x y : ℕ) × LevelPasses p x y)
    ⊎ (((x : ℕ) × (low high : Fraction) × IsMiddlePicked p x low high × SomePasses (middle_numbers low high))
    ⊎ ((x : ℕ) × FixedPass p x))
