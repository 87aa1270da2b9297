-- Sets of fractions: intervals, their ends and their bounds. A set does not tell equal fractions apart where it is an interval.
use Rattle.std.specs.Prelude.{Option, Some, None, ⊤}
use Rattle.poly_specs.specs.Fractions.{Fraction, IsFraction, SameFraction, AtMost, Below}

-- an interval: it does not tell equal fractions apart, and with two it has all between them
pub record IsInterval (S : Fraction → Type 0) : Type 0 where
  pub same : (x y : Fraction) → IsFraction x → IsFraction y → SameFraction x y → S x → S y
  pub between : (x y z : Fraction) → IsFraction x → IsFraction y → IsFraction z → AtMost x y → AtMost y z → S x → S z → S y

-- some fraction is in the set
abbrev pub HasMember : (Fraction → Type 0) → Type 0
HasMember S = (x : Fraction) × IsFraction x × S x

-- some fraction of the set is below v
abbrev pub HasBelow : (Fraction → Type 0) → Fraction → Type 0
HasBelow S v = HasMember (λ x. S x × Below x v)

-- some fraction of the set is above v
abbrev pub HasAbove : (Fraction → Type 0) → Fraction → Type 0
HasAbove S v = HasMember (λ x. S x × Below v x)

-- ---- ends, which may be in the set or not

-- the low end: the set has nothing below it, and something below each greater number; with no low end the set goes down without bound
abbrev pub IsLowEnd : (Fraction → Type 0) → Option Fraction → Type 0
IsLowEnd S None = (v : Fraction) → IsFraction v → HasBelow S v
IsLowEnd S (Some low) =
    IsFraction low
    × ((x : Fraction) → IsFraction x → S x → AtMost low x)
    × ((v : Fraction) → IsFraction v → Below low v → HasBelow S v)

-- the high end: the set has nothing above it, and something above each lesser number; with no high end the set goes up without bound
abbrev pub IsHighEnd : (Fraction → Type 0) → Option Fraction → Type 0
IsHighEnd S None = (v : Fraction) → IsFraction v → HasAbove S v
IsHighEnd S (Some high) =
    IsFraction high
    × ((x : Fraction) → IsFraction x → S x → AtMost x high)
    × ((v : Fraction) → IsFraction v → Below v high → HasAbove S v)

-- the end is in the set, where there is one
abbrev pub IsClosedAt : (Fraction → Type 0) → Option Fraction → Type 0
IsClosedAt S None = ⊤
IsClosedAt S (Some end) = S end

-- ---- the bound of a set from above

-- every number is exceeded: there is no high end
abbrev pub IsUnbounded : (Fraction → Type 0) → Type 0
IsUnbounded S = IsHighEnd S None

-- v is in the set, and nothing in it is greater
pub record IsGreatest (S : Fraction → Type 0) (v : Fraction) : Type 0 where
  pub inside : S v
  pub greatest : (x : Fraction) → IsFraction x → S x → AtMost x v

-- v is not in the set, all in it is below v, and every number below v is exceeded
pub record IsLimit (S : Fraction → Type 0) (v : Fraction) : Type 0 where
  pub missing : S v → ⊥
  pub all_below : (x : Fraction) → IsFraction x → S x → Below x v
  pub approached : (u : Fraction) → IsFraction u → Below u v → HasAbove S u
