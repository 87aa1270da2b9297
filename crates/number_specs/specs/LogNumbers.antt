-- The numbers of a log: a sign, digits with a point among them, and an exponent.
use Rattle.std.specs.Prelude.{ℕ, ◌<◌, ◌+◌, ◌-◌, ◌*◌, ◌%◌, ◌^◌, List, [], ◌∷◌, Bool, true, false, ◌&&◌, ◌||◌, not, ◌==◌, nat_lt, nat_le, if◌then◌else◌, ℤ, pos, neg_ℤ, unsigned_abs, Option, Some, None, Result, Ok, Err}
use Rattle.std.specs.Int.{◌∣◌}
use Rattle.poly_specs.specs.Fractions.{Fraction}
use Rattle.poly_specs.specs.Arithmetic.{lowest}
use Rattle.poly_specs.specs.LowestTerms.{IsLowest}
use Rattle.number_specs.specs.Digits.{is_digit}
use Rattle.number_specs.specs.declared.NumFault.{NumFault}
use Rattle.number_specs.specs.declared.NumFault.TheVariants.{Form, Range}

-- ---- what is written

-- digits that were read: the number that they write without their point, how many they are, whether there was a point,
-- and how many stand after it
pub record Digits : Type 0 where
  pub value : ℕ
  pub count : ℕ
  pub has_point : Bool
  pub after_point : ℕ

-- before the first digit
abbrev pub no_digits : Digits
no_digits = record { value = 0; count = 0; has_point = false; after_point = 0 }

-- 1 where it is so, else 0
abbrev pub one_if : Bool → ℕ
one_if true = 1
one_if false = 0

-- one digit more
abbrev pub with_digit : Digits → ℕ → Digits
with_digit d b = record {
  value = d.value * 10 + (b - 48);
  count = d.count + 1;
  has_point = d.has_point;
  after_point = d.after_point + one_if d.has_point;
}

-- digits and maybe a point, and the bytes after them
pub record Mantissa : Type 0 where
  pub digits : Digits
  pub rest : List ℕ

-- the digits and the first point that the bytes begin with, after those that were read
abbrev pub mantissa_from : Digits → List ℕ → Mantissa
mantissa_from d [] = record { digits = d; rest = [] }
mantissa_from d (b ∷ bytes) =
    if is_digit b || (b == 46) && not d.has_point
    then mantissa_from (if is_digit b then with_digit d b else record d { has_point = true }) bytes
    else record { digits = d; rest = b ∷ bytes }

-- a number of 1 to 4 digits and nothing else, after those that were read
abbrev pub small_from : ℕ → ℕ → List ℕ → Option ℕ
small_from value count [] = if nat_le 1 count && nat_le count 4 then Some value else None
small_from value count (b ∷ bytes) = if is_digit b then small_from (value * 10 + (b - 48)) (count + 1) bytes else None

-- an exponent: how far the point moves to the right, or to the left where it is negative
pub record Exponent : Type 0 where
  pub is_negative : Bool
  pub size : ℕ

-- the exponent of this size, if there is one
abbrev pub with_size : Bool → Option ℕ → Option Exponent
with_size negative None = None
with_size negative (Some n) = Some (record { is_negative = negative; size = n })

-- the exponent behind its letter: a sign or none, and 1 to 4 digits
abbrev pub exponent_behind : List ℕ → Option Exponent
exponent_behind [] = None
exponent_behind (b ∷ bytes) =
    if b == 43 then with_size false (small_from 0 0 bytes)
    else if b == 45 then with_size true (small_from 0 0 bytes)
    else with_size false (small_from 0 0 (b ∷ bytes))

-- what follows the digits: nothing, or `e` or `E` and an exponent
abbrev pub exponent_of : List ℕ → Option Exponent
exponent_of [] = Some (record { is_negative = false; size = 0 })
exponent_of (b ∷ bytes) = if (b == 101) || (b == 69) then exponent_behind bytes else None

-- ---- what it says

-- a number that is written: top over bottom, and the mark of a number with `-`
pub record Decimal : Type 0 where
  pub is_negative : Bool
  pub top : ℕ
  pub bottom : ℕ

-- the digits, with the point moved by the exponent
abbrev pub moved : Bool → Digits → Exponent → Decimal
moved negative d e =
    if e.is_negative
    then record { is_negative = negative; top = d.value; bottom = 10 ^ (d.after_point + e.size) }
    else record { is_negative = negative; top = d.value * 10 ^ e.size; bottom = 10 ^ d.after_point }

-- at least one digit, and an exponent
abbrev pub with_exponent : Bool → Digits → Option Exponent → Option Decimal
with_exponent negative d None = None
with_exponent negative d (Some e) = if nat_le 1 d.count then Some (moved negative d e) else None

-- the number that the bytes after a sign write
abbrev pub unsigned_of : Bool → List ℕ → Option Decimal
unsigned_of negative bytes =
    with_exponent negative (mantissa_from no_digits bytes).digits (exponent_of (mantissa_from no_digits bytes).rest)

-- the number that a text writes, if it writes one: a sign or none, digits with a point or none, an exponent or none
abbrev pub decimal_of : List ℕ → Option Decimal
decimal_of [] = None
decimal_of (b ∷ bytes) =
    if b == 43 then unsigned_of false bytes else if b == 45 then unsigned_of true bytes else unsigned_of false (b ∷ bytes)

-- ---- its value

-- it is below 10^15 on either side of 0, and a whole number of parts of 10^18
abbrev pub is_in_range : Decimal → Bool
is_in_range d = nat_lt d.top (10 ^ 15 * d.bottom) && ((d.top * 10 ^ 18) % d.bottom == 0)

-- n, or -n
abbrev pub signed : Bool → ℕ → ℤ
signed true n = neg_ℤ (pos n)
signed false n = pos n

-- the value of a number that is written
abbrev pub value_of : Decimal → Fraction
value_of d = lowest (record { num = signed d.is_negative d.top; den = pos d.bottom })

-- the value of what is written, where it is in range
abbrev pub number_of : Option Decimal → Result Fraction NumFault
number_of None = Err Form
number_of (Some d) = if is_in_range d then Ok (value_of d) else Err Range

-- the exact value of a cell or a time, in lowest terms
abbrev pub read_number : List ℕ → Result Fraction NumFault
read_number text = number_of (decimal_of text)

-- a number that a log may hold: in lowest terms, below 10^15 on either side of 0, over a divisor of 10^18
pub record IsLogNumber (v : Fraction) : Type 0 where
  pub lowest_terms : IsLowest v
  pub small : unsigned_abs v.num < 10 ^ 15 * unsigned_abs v.den
  pub few_decimals : unsigned_abs v.den ∣ 10 ^ 18
