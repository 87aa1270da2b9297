-- The literals of a model: `D`, `D/D` or `D.D`, where D is one or more digits.
use Rattle.std.specs.Prelude.{ℕ, ◌+◌, ◌*◌, ◌^◌, ◌<◌, List, [], ◌∷◌, Bool, true, false, ◌&&◌, not, ◌==◌, nat_le, if◌then◌else◌, pos, ◌≤ℤ◌, unsigned_abs, Result, Ok, Err}
use Rattle.poly_specs.specs.Fractions.{Fraction}
use Rattle.poly_specs.specs.Arithmetic.{lowest}
use Rattle.poly_specs.specs.LowestTerms.{IsLowest}
use Rattle.number_specs.specs.Digits.{Numeral, numeral_of}
use Rattle.number_specs.specs.declared.NumFault.{NumFault}
use Rattle.number_specs.specs.declared.NumFault.TheVariants.{Form, Range}

-- top over bottom
abbrev pub ratio : ℕ → ℕ → Fraction
ratio top bottom = lowest (record { num = pos top; den = pos bottom })

-- no byte is left
abbrev pub is_empty : List ℕ → Bool
is_empty [] = true
is_empty (b ∷ bytes) = false

-- one or more digits, and nothing behind them
abbrev pub is_numeral : Numeral → Bool
is_numeral n = nat_le 1 n.count && is_empty n.rest

-- `D`: at most nine digits
abbrev pub whole_literal : Numeral → Result Fraction NumFault
whole_literal n = if nat_le n.count 9 then Ok (ratio n.value 1) else Err Range

-- `D/D`: at most nine digits on either side, and the second number is not 0
abbrev pub divided_literal : Numeral → Numeral → Result Fraction NumFault
divided_literal n d =
    if is_numeral d && not (d.value == 0)
    then if nat_le n.count 9 && nat_le d.count 9 then Ok (ratio n.value d.value) else Err Range
    else Err Form

-- `D.D`: at most nine digits in all
abbrev pub decimal_literal : Numeral → Numeral → Result Fraction NumFault
decimal_literal n d =
    if is_numeral d
    then if nat_le (n.count + d.count) 9 then Ok (ratio (n.value * 10 ^ d.count + d.value) (10 ^ d.count)) else Err Range
    else Err Form

-- the literal that begins with these digits, by the bytes behind them
abbrev pub literal_with : Numeral → List ℕ → Result Fraction NumFault
literal_with n [] = whole_literal n
literal_with n (b ∷ bytes) =
    if b == 47 then divided_literal n (numeral_of bytes) else if b == 46 then decimal_literal n (numeral_of bytes) else Err Form

-- the same; there is at least one digit
abbrev pub literal_after : Numeral → Result Fraction NumFault
literal_after n = if nat_le 1 n.count then literal_with n n.rest else Err Form

-- the exact value of a literal, in lowest terms
abbrev pub read_literal : List ℕ → Result Fraction NumFault
read_literal text = literal_after (numeral_of text)

-- a number that a literal may write: in lowest terms, at least 0, and both of its numbers have at most nine digits
pub record IsLiteralNumber (v : Fraction) : Type 0 where
  pub lowest_terms : IsLowest v
  pub at_least_zero : pos 0 ≤ℤ v.num
  pub small_num : unsigned_abs v.num < 10 ^ 9
  pub small_den : unsigned_abs v.den < 10 ^ 9
