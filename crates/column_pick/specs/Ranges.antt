-- The numbers between two ends, which stand over one denominator, and the ends that rows set.
use Rattle.std.specs.Prelude.{◌≢◌, ◌↔◌, ⊤, ℕ, Bool, true, false, List, All, Option, Some, None, ℤ, pos, ◌+ℤ◌, ◌*ℤ◌, ◌≤ℤ◌, ◌<ℤ◌}
use Rattle.poly_specs.specs.Fractions.{Fraction, IsFraction, AtMost, Below, opposite, zero_fraction}
use Rattle.poly_specs.specs.Arithmetic.{lowest, least_sum}
use Rattle.poly_specs.specs.Pickings.{half}
use Rattle.poly_specs.specs.Rows.{Point, Row, Allows, row_value, coef_at}
use Rattle.column_pick.specs.declared.ranges.Cap.{Cap}
use Rattle.column_pick.specs.declared.ranges.Range.{Range}

-- x divided by a whole number
abbrev pub parted : ℤ → Fraction → Fraction
parted parts x = record { num = x.num; den = x.den *ℤ parts }

-- the middle of x and y, formed from their lowest terms, in lowest terms
abbrev pub least_middle : Fraction → Fraction → Fraction
least_middle x y = lowest (half (least_sum (lowest x) (lowest y)))

-- ---- ranges

-- v is at most the end; where the end is open, below it
abbrev pub IsUpTo : Bool → Fraction → Fraction → Type 0
IsUpTo true end v = Below v end
IsUpTo false end v = AtMost v end

-- v is within the cap, whose end stands over `parts`; without a cap each number is
abbrev pub IsUnder : ℤ → Option Cap → Fraction → Type 0
IsUnder parts None v = ⊤
IsUnder parts (Some cap) v = IsUpTo cap.is_open (parted parts cap.end) v

-- v is within the one cap, and -v within the other
abbrev pub IsBetween : ℤ → Range → Fraction → Type 0
IsBetween parts range v = IsUnder parts range.up v × IsUnder parts range.down (opposite v)

-- ---- what a row sets

-- lead * v + cst / parts is at most 0; of a strict row, below 0
abbrev pub MeetsAt : ℤ → ℤ → ℤ → Bool → Fraction → Type 0
MeetsAt parts lead cst strict v = Allows strict ((lead *ℤ parts) *ℤ v.num +ℤ cst *ℤ v.den)

-- the cap has the numbers at which this holds, over each denominator
abbrev pub IsCapOf : ℤ → ℤ → Bool → Cap → Type 0
IsCapOf lead cst strict cap =
    (parts : ℤ) (v : Fraction) → pos 0 <ℤ parts → IsFraction v → IsUnder parts (Some cap) v ↔ MeetsAt parts lead cst strict v

-- the cap has the numbers that both caps have
abbrev pub IsLesser : Option Cap → Option Cap → Option Cap → Type 0
IsLesser a b cap = (parts : ℤ) (v : Fraction) → pos 0 <ℤ parts → IsFraction v → IsUnder parts cap v ↔ (IsUnder parts a v × IsUnder parts b v)

-- the range has the numbers of another one at which this holds, if the coefficient is not 0
abbrev pub IsNarrowed : Range → ℤ → ℤ → Bool → Range → Type 0
IsNarrowed range lead cst strict narrowed =
    (parts : ℤ) (v : Fraction) → pos 0 <ℤ parts → IsFraction v →
    IsBetween parts narrowed v ↔ (IsBetween parts range v × (lead ≢ pos 0 → MeetsAt parts lead cst strict v))

-- with v in column x of the point, in which it has 0, the row holds
abbrev pub MeetsRow : ℕ → Point → Row → Fraction → Type 0
MeetsRow x q r v = MeetsAt q.den (coef_at x r) (row_value r q) r.strict v

-- v is within what the row sets, if it sets an end
abbrev pub IsWithin : ℕ → Point → Row → Fraction → Type 0
IsWithin x q r v = coef_at x r ≢ pos 0 → MeetsRow x q r v

-- v is within what each of these rows sets
abbrev pub AreWithin : ℕ → Point → List Row → Fraction → Type 0
AreWithin x q rows v = All (λ r. IsWithin x q r v) rows

-- the range has the numbers that are within what these rows set
abbrev pub IsRangeOf : ℕ → Point → List Row → Range → Type 0
IsRangeOf x q rows range = (v : Fraction) → IsFraction v → IsBetween q.den range v ↔ AreWithin x q rows v

-- ---- whole numbers

-- the whole number n
abbrev pub whole : ℤ → Fraction
whole n = record { num = n; den = pos 1 }

-- q is the whole part of number / by, which is at least 0
pub record IsFloor (number by q : ℤ) : Type 0 where
  pub least : pos 0 ≤ℤ q
  pub reached : (q *ℤ by) ≤ℤ number
  pub next : number <ℤ ((q +ℤ pos 1) *ℤ by)

-- n is the least whole number whose opposite is within the cap, and it is above 0
pub record IsLeastWhole (parts : ℤ) (near : Cap) (n : ℤ) : Type 0 where
  pub above : pos 0 <ℤ n
  pub inside : IsUnder parts (Some near) (opposite (whole n))
  pub least : (m : ℤ) → IsUnder parts (Some near) (opposite (whole m)) → n ≤ℤ m

-- no whole number is within the one cap while its opposite is within the other
abbrev pub HasNoWhole : ℤ → Cap → Cap → Type 0
HasNoWhole parts near far = (m : ℤ) → IsUnder parts (Some near) (opposite (whole m)) → IsUnder parts (Some far) (whole m) → ⊥

-- 0 is not within the cap, over whatever its end stands
abbrev pub IsShort : Cap → Type 0
IsShort cap = IsUpTo cap.is_open cap.end zero_fraction → ⊥
