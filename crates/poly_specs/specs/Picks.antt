-- The pick of an interval of fractions, which is given as a set.
use Rattle.std.specs.Prelude.{◌⊎◌, ◌≡◌, ℤ, pos, ◌+ℤ◌, ◌*ℤ◌, ◌≤ℤ◌, unsigned_abs}
use Rattle.poly_specs.specs.Fractions.{Fraction, IsFraction, SameFraction, AtMost, Below, zero_fraction}
use Rattle.poly_specs.specs.Sets.{HasMember}

-- x is an integer
abbrev pub IsInteger : Fraction → Type 0
IsInteger x = (n : ℤ) × (x.num ≡ n *ℤ x.den)

-- x is no further from 0 than y
abbrev pub IsNearer : Fraction → Fraction → Type 0
IsNearer x y = (pos (unsigned_abs x.num) *ℤ y.den) ≤ℤ (pos (unsigned_abs y.num) *ℤ x.den)

-- the integer of the set that is nearest to 0; it is 0 where 0 is in the set
pub record IsNearestInteger (S : Fraction → Type 0) (x : Fraction) : Type 0 where
  pub inside : S x
  pub integer : IsInteger x
  pub nearest : (y : Fraction) → IsFraction y → S y → IsInteger y → IsNearer x y

-- the set has no integer
abbrev pub HasNoInteger : (Fraction → Type 0) → Type 0
HasNoInteger S = (y : Fraction) → IsFraction y → S y → IsInteger y → ⊥

-- the set's ends, which may be in it or not: it has nothing outside them, and all that is strictly between them
pub record HasEnds (S : Fraction → Type 0) (low high : Fraction) : Type 0 where
  pub low_is : IsFraction low
  pub high_is : IsFraction high
  pub ordered : AtMost low high
  pub outside : (y : Fraction) → IsFraction y → S y → AtMost low y × AtMost y high
  pub between : (y : Fraction) → IsFraction y → Below low y → Below y high → S y

-- the end nearest to 0, and the other end, of a set to one side of 0
abbrev pub AreEnds : (Fraction → Type 0) → Fraction → Fraction → Type 0
AreEnds S near far = (AtMost zero_fraction near × HasEnds S near far) ⊎ (AtMost near zero_fraction × HasEnds S far near)

-- the middle of x and y
abbrev pub middle : Fraction → Fraction → Fraction
middle x y = record { num = x.num *ℤ y.den +ℤ y.num *ℤ x.den; den = pos 2 *ℤ (x.den *ℤ y.den) }

-- the pick where the set has no integer: the end nearest to 0 if it is in the set; else the other end if that is; else the middle
abbrev pub IsEndPick : (Fraction → Type 0) → Fraction → Fraction → Fraction → Type 0
IsEndPick S near far x =
    (S near × SameFraction x near)
    ⊎ (((S near → ⊥) × S far × SameFraction x far)
    ⊎ ((S near → ⊥) × (S far → ⊥) × SameFraction x (middle near far)))

-- the pick of an interval that is not empty: its integer nearest to 0, or else an end, or else its middle
pub record IsPick (S : Fraction → Type 0) (x : Fraction) : Type 0 where
  pub positive : IsFraction x
  pub some : HasMember S
  pub kind :
      IsNearestInteger S x
      ⊎ (HasNoInteger S × ((near far : Fraction) × AreEnds S near far × IsEndPick S near far x))

-- the pick of a closed interval: 0 if 0 is in it; else the integer in it nearest to 0; else what is nearest to 0, which is an end
pub record IsClosedPick (S : Fraction → Type 0) (x : Fraction) : Type 0 where
  pub zero : S zero_fraction → SameFraction x zero_fraction
  pub integer : (y : Fraction) → IsFraction y → S y → IsInteger y → IsNearestInteger S x
  pub end : HasNoInteger S → S x × ((y : Fraction) → IsFraction y → S y → IsNearer x y)
