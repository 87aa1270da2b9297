-- Plain elimination: Fourier-Motzkin, on rows of integers of any size. No row is dropped.
use Rattle.std.specs.Prelude.{ℕ, zero, suc, ◌+◌, ◌/◌, ◌%◌, ◌==◌, ◌||◌, max, List, [], ◌∷◌, ◌++◌, map, filter, flat_map, fold, ℤ, pos, ◌+ℤ◌, ◌*ℤ◌, int_lt, int_div, unsigned_abs}
use Rattle.poly_specs.specs.Lists.{plus, IsAmong}
use Rattle.poly_specs.specs.Rows.{Row, coef_at}

-- Euclid's algorithm, for as many steps as its first argument says
abbrev pub gcd_steps : ℕ → ℕ → ℕ → ℕ
gcd_steps zero a b = a
gcd_steps (suc n) a zero = a
gcd_steps (suc n) a (suc b) = gcd_steps n (suc b) (a % suc b)

-- the greatest common divisor; no step is missing, since the remainders fall
unfoldable pub gcd : ℕ → ℕ → ℕ
gcd a b = gcd_steps b a b

-- the row's numbers, its constant last
abbrev pub numbers : Row → List ℤ
numbers r = r.coef ++ r.cst ∷ []

-- the greatest common divisor of the row's numbers, or 1 where all are 0
unfoldable pub divisor : Row → ℕ
divisor r = max 1 (fold (λ g z. gcd g (unsigned_abs z)) 0 (numbers r))

-- the row with its numbers multiplied by k
abbrev pub times : ℤ → Row → Row
times k r = record { coef = map (λ c. k *ℤ c) r.coef; cst = k *ℤ r.cst; strict = r.strict }

-- the sum of two rows; strict where one of them is
abbrev pub added : Row → Row → Row
added r s = record { coef = plus r.coef s.coef; cst = r.cst +ℤ s.cst; strict = r.strict || s.strict }

-- the row with its numbers divided by their greatest common divisor, or by 1 where all are 0
unfoldable pub divided : Row → Row
divided r = record {
  coef = map (λ c. int_div c (pos (divisor r))) r.coef;
  cst = int_div r.cst (pos (divisor r));
  strict = r.strict;
}

-- ---- one pair: a row with a negative coefficient at x, and one with a positive one

-- what the first row is multiplied by, so that column x cancels
abbrev pub lower_factor : ℕ → Row → Row → ℕ
lower_factor x lower upper = unsigned_abs (coef_at x upper) / gcd (unsigned_abs (coef_at x lower)) (unsigned_abs (coef_at x upper))

-- what the second row is multiplied by
abbrev pub upper_factor : ℕ → Row → Row → ℕ
upper_factor x lower upper = unsigned_abs (coef_at x lower) / gcd (unsigned_abs (coef_at x lower)) (unsigned_abs (coef_at x upper))

-- the combination of the two rows, before it is divided
abbrev pub raw_combination : ℕ → Row → Row → Row
raw_combination x lower upper =
    added (times (pos (lower_factor x lower upper)) lower) (times (pos (upper_factor x lower upper)) upper)

-- the combination of the two rows
abbrev pub combination : ℕ → Row → Row → Row
combination x lower upper = divided (raw_combination x lower upper)

-- the products, the sums and the numbers of the divided row
abbrev pub pair_numbers : ℕ → Row → Row → List ℤ
pair_numbers x lower upper =
    numbers (times (pos (lower_factor x lower upper)) lower)
    ++ numbers (times (pos (upper_factor x lower upper)) upper)
    ++ numbers (raw_combination x lower upper)
    ++ numbers (combination x lower upper)

-- ---- one column

-- the rows with a negative coefficient at x
abbrev pub lowers : ℕ → List Row → List Row
lowers x rows = filter (λ r. int_lt (coef_at x r) (pos 0)) rows

-- the rows with a positive coefficient at x
abbrev pub uppers : ℕ → List Row → List Row
uppers x rows = filter (λ r. int_lt (pos 0) (coef_at x r)) rows

-- the rows with the coefficient 0 at x
abbrev pub free_of : ℕ → List Row → List Row
free_of x rows = filter (λ r. unsigned_abs (coef_at x r) == 0) rows

-- the rows without x, and the combination of each pair
unfoldable pub eliminated : ℕ → List Row → List Row
eliminated x rows =
    free_of x rows ++ flat_map (λ lower. map (combination x lower) (uppers x rows)) (lowers x rows)

-- the numbers that this forms
unfoldable pub formed : ℕ → List Row → List ℤ
formed x rows = flat_map (λ lower. flat_map (pair_numbers x lower) (uppers x rows)) (lowers x rows)

-- ---- several columns, one after the other

-- the rows after the elimination of these columns
abbrev pub eliminated_each : List ℕ → List Row → List Row
eliminated_each [] rows = rows
eliminated_each (x ∷ columns) rows = eliminated_each columns (eliminated x rows)

-- the numbers that it forms
abbrev pub formed_each : List ℕ → List Row → List ℤ
formed_each [] rows = []
formed_each (x ∷ columns) rows = formed x rows ++ formed_each columns (eliminated x rows)

-- the n columns from this one on, from the right
abbrev pub columns_down : ℕ → ℕ → List ℕ
columns_down from zero = []
columns_down from (suc n) = (from + n) ∷ columns_down from n

-- what plain elimination of these columns keeps and forms on the first rows is among what it keeps and forms on the second
abbrev pub KeepsAmong : List ℕ → List Row → List Row → Type 0
KeepsAmong columns rows more =
    IsAmong (eliminated_each columns rows) (eliminated_each columns more) × IsAmong (formed_each columns rows) (formed_each columns more)
