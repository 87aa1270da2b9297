-- What is decided of a system: its emptiness, the bound of a sum, what it entails and includes; and the numbers that deciding it forms.
use Rattle.std.specs.Prelude.{◌≡◌, ℕ, ◌+◌, List, [], ◌∷◌, ◌++◌, map, flat_map, length, false, ℤ, pos, negsuc, neg_ℤ, ◌<ℤ◌}
use Rattle.poly_specs.specs.Fractions.{Fraction, SameFraction}
use Rattle.poly_specs.specs.Rows.{Point, Row, row_value, Holds, AllHold, with_coef}
use Rattle.poly_specs.specs.Elimination.{formed_each, columns_down}

-- a point of the system of n columns
pub record IsPoint (n : ℕ) (rows : List Row) (p : Point) : Type 0 where
  pub positive : pos 0 <ℤ p.den
  pub sized : length p.num ≡ n
  pub holds : AllHold rows p

-- the row's sum at the point, its constant included
abbrev pub sum_at : Row → Point → Fraction
sum_at r p = record { num = row_value r p; den = p.den }

-- v is the row's sum at some point of the system; its bounds from above are those of this set
abbrev pub IsSum : ℕ → List Row → Row → Fraction → Type 0
IsSum n rows r v = (p : Point) × IsPoint n rows p × SameFraction (sum_at r p) v

-- the row holds at every point of the system
abbrev pub Entails : ℕ → List Row → Row → Type 0
Entails n rows r = (p : Point) → IsPoint n rows p → Holds r p

-- every point of the small system is in the big one
abbrev pub Includes : ℕ → List Row → List Row → Type 0
Includes n big small = (p : Point) → IsPoint n small p → AllHold big p

-- ---- numbers

-- the numbers that plain elimination of all n columns forms, from the right
abbrev pub emptiness_numbers : ℕ → List Row → List ℤ
emptiness_numbers n rows = formed_each (columns_down 0 n) rows

-- the rows with a new column 0 that equals the sum of the row r
abbrev pub with_sum : Row → List Row → List Row
with_sum r rows =
    map (λ s. with_coef (pos 0 ∷ s.coef) s) rows
    ++ record { coef = pos 1 ∷ map neg_ℤ r.coef; cst = neg_ℤ r.cst; strict = false }
    ∷ record { coef = negsuc 0 ∷ r.coef; cst = r.cst; strict = false }
    ∷ []

-- the numbers that it takes to bound the row's sum over the system, or to decide whether it entails the row
abbrev pub bound_numbers : ℕ → List Row → Row → List ℤ
bound_numbers n rows r = emptiness_numbers (n + 1) (with_sum r rows)

-- the numbers that it takes to decide whether the big system includes the small one
abbrev pub inclusion_numbers : ℕ → List Row → List Row → List ℤ
inclusion_numbers n big small = flat_map (bound_numbers n small) big
