-- Rows whose columns are moved or cut, and rows that say less than others.
use Rattle.std.specs.Prelude.{◌≡◌, ◌⊎◌, ℕ, List, [], ◌∷◌, map, take, replicate, pos, ◌<ℤ◌, ℤ, IsTrue, IsFalse, slice_set, ⊤}
use Rattle.poly_specs.specs.Lists.{number_at, In}
use Rattle.poly_specs.specs.Rows.{Point, Row, with_coef}

-- no number stands in the list twice
abbrev pub AreDistinct : List ℕ → Type 0
AreDistinct [] = ⊤
AreDistinct (x ∷ xs) = (In x xs → ⊥) × AreDistinct xs

-- numbers, with these put at these places
abbrev pub put_at : List ℕ → List ℤ → List ℤ → List ℤ
put_at [] cs ns = ns
put_at (x ∷ to) [] ns = ns
put_at (x ∷ to) (c ∷ cs) ns = put_at to cs (slice_set ns x c)

-- of n columns, the row whose column j stands in column `to[j]`, with 0 in all other columns
abbrev pub placed : List ℕ → ℕ → Row → Row
placed to n r = with_coef (put_at to r.coef (replicate n (pos 0))) r

-- the point's coordinates in these columns
abbrev pub at_columns : List ℕ → Point → Point
at_columns to p = record { num = map (λ x. number_at x p.num) to; den = p.den }

-- the row's first n columns
abbrev pub cut : ℕ → Row → Row
cut n r = with_coef (take n r.coef) r

-- a says no more than b: the same sum, below a bound that is no lower, and strictly only where b does
pub record IsDominated (a b : Row) : Type 0 where
  pub same_sum : a.coef ≡ b.coef
  pub no_lower : (a.cst <ℤ b.cst) ⊎ ((a.cst ≡ b.cst) × (IsTrue b.strict ⊎ IsFalse a.strict))
