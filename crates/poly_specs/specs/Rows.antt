-- Points, rows and systems of rows, over the integers.
use Rattle.std.specs.Prelude.{◌≡◌, ℕ, Bool, true, false, List, All, length, take, ℤ, pos, ◌+ℤ◌, ◌*ℤ◌, ◌≤ℤ◌, ◌<ℤ◌, slice_set}
use Rattle.poly_specs.specs.Lists.{number_at, scaled, dot, In}
use Rattle.poly_specs.specs.Fractions.{Fraction, SameFraction}

-- a point: an integer for each coordinate, over one positive denominator
pub record Point : Type 0 where
  pub num : List ℤ
  pub den : ℤ

-- the numbers n_1, n_2 .. over d, as a point
abbrev pub over : ℤ → List ℤ → Point
over d ns = record { num = ns; den = d }

-- the point's coordinate in this column
abbrev pub coordinate : ℕ → Point → Fraction
coordinate j p = record { num = number_at j p.num; den = p.den }

-- the coordinates are equal as fractions
abbrev pub SamePoint : Point → Point → Type 0
SamePoint p q = scaled q.den p.num ≡ scaled p.den q.num

-- a row: a coefficient for each coordinate, a constant, and the mark of a strict row
pub record Row : Type 0 where
  pub coef : List ℤ
  pub cst : ℤ
  pub strict : Bool

-- the row's coefficient in this column; past the last, 0
abbrev pub coef_at : ℕ → Row → ℤ
coef_at x r = number_at x r.coef

-- the row with these coefficients
abbrev pub with_coef : List ℤ → Row → Row
with_coef coef r = record r { coef = coef }

-- the row's sum at a point, times the point's denominator
abbrev pub row_value : Row → Point → ℤ
row_value r p = dot r.coef p.num +ℤ r.cst *ℤ p.den

-- the sum is at most 0; of a strict row, below 0
abbrev pub Allows : Bool → ℤ → Type 0
Allows true sum = sum <ℤ pos 0
Allows false sum = sum ≤ℤ pos 0

-- the row holds at the point
abbrev pub Holds : Row → Point → Type 0
Holds r p = Allows r.strict (row_value r p)

-- the system holds at the point: each of its rows does
abbrev pub AllHold : List Row → Point → Type 0
AllHold rows p = All (λ r. Holds r p) rows

-- the system has a point in its n columns
abbrev pub HasPoint : ℕ → List Row → Type 0
HasPoint n rows = (p : Point) × (pos 0 <ℤ p.den) × (length p.num ≡ n) × AllHold rows p

-- the point with 0 in column x
abbrev pub without : ℕ → Point → Point
without x p = record { num = slice_set p.num x (pos 0); den = p.den }

-- the points agree outside column x
abbrev pub SameBut : ℕ → Point → Point → Type 0
SameBut x p q = SamePoint (without x p) (without x q)

-- some fraction in column x makes the system hold
abbrev pub SomeValueHolds : ℕ → List Row → Point → Type 0
SomeValueHolds x rows p = (q : Point) × (pos 0 <ℤ q.den) × SameBut x p q × AllHold rows q

-- each row has w columns
abbrev pub AllWide : ℕ → List Row → Type 0
AllWide w rows = All (λ r. length r.coef ≡ w) rows

-- the points agree in the columns before c
abbrev pub SameBefore : ℕ → Point → Point → Type 0
SameBefore c p q = SamePoint (over p.den (take c p.num)) (over q.den (take c q.num))

-- q is a point of the system of w columns that agrees with p in the columns before c
pub record IsExtension (w c : ℕ) (rows : List Row) (p q : Point) : Type 0 where
  pub positive : pos 0 <ℤ q.den
  pub sized : length q.num ≡ w
  pub same : SameBefore c p q
  pub holds : AllHold rows q

-- some fractions in the columns from c on make the system of w columns hold
abbrev pub SomeValuesHold : ℕ → ℕ → List Row → Point → Type 0
SomeValuesHold w c rows p = (q : Point) × IsExtension w c rows p q

-- the points agree outside these columns
abbrev pub SameOutside : List ℕ → Point → Point → Type 0
SameOutside columns p q = (j : ℕ) → (In j columns → ⊥) → SameFraction (coordinate j p) (coordinate j q)

-- q is a point of the system that agrees with p outside these columns
pub record IsExtensionIn (columns : List ℕ) (rows : List Row) (p q : Point) : Type 0 where
  pub positive : pos 0 <ℤ q.den
  pub sized : length q.num ≡ length p.num
  pub same : SameOutside columns p q
  pub holds : AllHold rows q

-- some fractions in these columns make the system hold
abbrev pub SomeValuesHoldIn : List ℕ → List Row → Point → Type 0
SomeValuesHoldIn columns rows p = (q : Point) × IsExtensionIn columns rows p q
