-- The pick of a set, and of the numbers between two ends.
use Rattle.std.specs.Prelude.{◌≡◌, ◌⊎◌, Bool, true, false, IsTrue, IsFalse, MatchBool, MatchOption, Option, ℤ, pos, ◌<ℤ◌}
use Rattle.poly_specs.specs.Bits.{SomePasses}
use Rattle.poly_specs.specs.Fractions.{Fraction, AtMost, Below, opposite, zero_fraction}
use Rattle.poly_specs.specs.LowestTerms.{IsLowest}
use Rattle.poly_specs.specs.Pickings.{lowest_numbers, middle_numbers}
use Rattle.poly_specs.specs.Picks.{HasEnds, HasNoInteger, IsPick}
use Rattle.column_pick.specs.Ranges.{parted, IsUpTo, IsUnder}
use Rattle.column_pick.specs.declared.ranges.Cap.{Cap}

-- these are the ends of the set, and neither they nor an integer is in it: the middle is picked
pub record IsOpenGap (S : Fraction → Type 0) (low high : Fraction) : Type 0 where
  pub ends : HasEnds S low high
  pub no_integer : HasNoInteger S
  pub not_low : S low → ⊥
  pub not_high : S high → ⊥

-- the pick of the set passes in lowest terms, or forming it as a middle does
abbrev pub FormingPasses : (Fraction → Type 0) → Type 0
FormingPasses S =
    ((x : Fraction) × IsPick S x × SomePasses (lowest_numbers x))
    ⊎ ((low high : Fraction) × IsOpenGap S low high × SomePasses (middle_numbers low high))

-- the pick of the set, in lowest terms; there is none only where forming it passes
abbrev pub IsPickOf : (Fraction → Type 0) → Option Fraction → Type 0
IsPickOf S result = MatchOption result (FormingPasses S) (λ x. IsLowest x × IsPick S x)

-- v is at least the end; where the end is open, above it
abbrev pub IsFrom : Bool → Fraction → Fraction → Type 0
IsFrom true end v = Below end v
IsFrom false end v = AtMost end v

-- v is between the two ends, which stand over `parts`
abbrev pub IsInGap : ℤ → Cap → Cap → Fraction → Type 0
IsInGap parts low high v = IsFrom low.is_open (parted parts low.end) v × IsUpTo high.is_open (parted parts high.end) v

-- the nearer end if it is not open, or else the further one if that is not
abbrev pub IsFirstClosed : Cap → Cap → Fraction → Type 0
IsFirstClosed near far end =
    (IsFalse near.is_open × (end ≡ near.end)) ⊎ (IsTrue near.is_open × IsFalse far.is_open × (end ≡ far.end))

-- the first of the ends that is not open, if there is one: from the low end, or from the high end
abbrev pub IsClosedEnd : Bool → Cap → Cap → Option Fraction → Type 0
IsClosedEnd from_low low high end =
    MatchOption end (IsTrue low.is_open × IsTrue high.is_open)
    (λ e. MatchBool from_low (IsFirstClosed low high e) (IsFirstClosed high low e))

-- the cap with the other sign
abbrev pub opposite_cap : Cap → Cap
opposite_cap cap = record { end = opposite cap.end; is_open = cap.is_open }

-- 0 is within the cap, over whatever its end stands
abbrev pub HasZero : Option Cap → Type 0
HasZero cap = (parts : ℤ) → pos 0 <ℤ parts → IsUnder parts cap zero_fraction
