-- What is kept of the digits of a text while it is read.
use Rattle.std.specs.Prelude.{◌≡◌, ◌↔◌, ℕ, ◌*◌, ◌%◌, ◌^◌, ◌<◌, ◌≤◌, Bool, true, false, ◌&&◌, ◌||◌, not, ◌==◌, nat_le, if◌then◌else◌, List, Option, Some, None}
use Rattle.number_specs.specs.Digits.{is_digit, Numeral}
use Rattle.number_specs.specs.LogNumbers.{with_digit, Mantissa, mantissa_from}
use Rattle.number_specs.specs.LogNumbers as log
use Rattle.frac128.specs.declared.read.Digits.{Digits}
use Rattle.frac128.specs.declared.read.Exponent.{Exponent}

-- ---- digits alone

-- of digits with this number and count: the value itself up to nine digits, and behind them whether it is 0
pub record KeepsValue (number count value : ℕ) : Type 0 where
  pub exact : count ≤ 9 → (value ≡ number) × (number < 10 ^ count)
  pub zero : value ≡ 0 ↔ number ≡ 0
  pub small : value < 10 ^ 9

-- the same, with the bytes behind the digits
pub record IsNumeralOf (n : Numeral) (value count : ℕ) (rest : List ℕ) : Type 0 where
  pub kept : KeepsValue n.value n.count value
  pub counted : count ≡ n.count
  pub behind : rest ≡ n.rest

-- ---- digits with a point among them

-- 0, or a number that 10 does not divide
abbrev pub IsStripped : ℕ → Type 0
IsStripped m = m % 10 ≡ 0 → m ≡ 0

-- the number is m with this many zeros behind it, and m has none at its end
pub record HasZeros (number m zeros : ℕ) : Type 0 where
  pub stripped : IsStripped m
  pub same : number ≡ m * 10 ^ zeros

-- the number without the zeros at its end is kept, or is 10^33 or more
abbrev pub KeepsStripped : ℕ → Option ℕ → ℕ → Type 0
KeepsStripped number (Some m) count = HasZeros number m count
KeepsStripped number None count = (m : ℕ) × (more : ℕ) × HasZeros number m more × (10 ^ 33 ≤ m)

-- what is kept of digits
pub record IsDigitsOf (d : log.Digits) (digits : Digits) : Type 0 where
  pub number : KeepsStripped d.value digits.kept digits.zeros
  pub some : digits.has_digit ≡ nat_le 1 d.count
  pub point : digits.has_point ≡ d.has_point
  pub after_point : digits.after_point ≡ d.after_point

-- the same, with the bytes behind the digits
pub record IsMantissaOf (m : Mantissa) (digits : Digits) (rest : List ℕ) : Type 0 where
  pub kept : IsDigitsOf m.digits digits
  pub behind : rest ≡ m.rest

-- the byte goes on with the digits
abbrev pub goes_on : log.Digits → ℕ → Bool
goes_on d b = is_digit b || (b == 46) && not d.has_point

-- the digits with it
abbrev pub with_byte : log.Digits → ℕ → log.Digits
with_byte d b = if is_digit b then with_digit d b else record d { has_point = true }

-- what is kept of them, or none where the byte does not go on with them
abbrev pub StepsTo : log.Digits → ℕ → Option Digits → Type 0
StepsTo d b None = goes_on d b ≡ false
StepsTo d b (Some digits) = (goes_on d b ≡ true) × IsDigitsOf (with_byte d b) digits

-- ---- an exponent

-- it as the definitions have it
abbrev pub same_exponent : Exponent → log.Exponent
same_exponent e = record { is_negative = e.is_negative; size = e.size }
