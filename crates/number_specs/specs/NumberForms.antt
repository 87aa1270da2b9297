-- How a number of a log is written, part by part, and what it is worth.
use Rattle.std.specs.Prelude.{◌≡◌, ◌⊎◌, ℕ, suc, ◌≤◌, ◌^◌, List, [], ◌∷◌, ◌++◌, length, Bool, true, false, ℤ, pos, negsuc, ◌*ℤ◌, ◌-ℤ◌, codes}
use Rattle.std.specs.Str.Parse.{AllDigits, digits_value}
use Rattle.poly_specs.specs.Fractions.{Fraction}
use Rattle.number_specs.specs.LogNumbers.{signed}

-- a sign or none
abbrev pub IsSign : List ℕ → Bool → Type 0
IsSign sign true = sign ≡ codes "-"
IsSign sign false = (sign ≡ []) ⊎ (sign ≡ codes "+")

-- what follows the whole digits: a point and the decimals, which may be none; or no point
abbrev pub IsPoint : List ℕ → List ℕ → Type 0
IsPoint tail decimals = (tail ≡ codes "." ++ decimals) ⊎ ((tail ≡ []) × (decimals ≡ []))

-- `e` or `E`, a sign or none, and one to four digits
pub record HasExponent (text : List ℕ) (exponent : ℤ) : Type 0 where
  pub letter : List ℕ
  pub sign : List ℕ
  pub digits : List ℕ
  pub is_negative : Bool
  pub parts : text ≡ letter ++ (sign ++ digits)
  pub is_letter : (letter ≡ codes "e") ⊎ (letter ≡ codes "E")
  pub is_sign : IsSign sign is_negative
  pub are_digits : AllDigits 10 digits
  pub some : 1 ≤ length digits
  pub few : length digits ≤ 4
  pub value : exponent ≡ signed is_negative (digits_value 10 digits)

-- an exponent, or none, which is 0
abbrev pub IsExponent : List ℕ → ℤ → Type 0
IsExponent text exponent = HasExponent text exponent ⊎ ((text ≡ []) × (exponent ≡ pos 0))

-- what is written: a sign, digits before the point and behind it, and an exponent
pub record Writing : Type 0 where
  pub is_negative : Bool
  pub whole : List ℕ
  pub decimals : List ℕ
  pub exponent : ℤ

-- the text writes this, with at least one digit
pub record IsWriting (text : List ℕ) (w : Writing) : Type 0 where
  pub sign : List ℕ
  pub tail : List ℕ
  pub end : List ℕ
  pub parts : text ≡ sign ++ (w.whole ++ (tail ++ end))
  pub is_sign : IsSign sign w.is_negative
  pub whole_digits : AllDigits 10 w.whole
  pub is_point : IsPoint tail w.decimals
  pub decimal_digits : AllDigits 10 w.decimals
  pub some : (1 ≤ length w.whole) ⊎ (1 ≤ length w.decimals)
  pub is_exponent : IsExponent end w.exponent

-- n times 10 to the power e
abbrev pub shifted : ℤ → ℤ → Fraction
shifted n (pos e) = record { num = n *ℤ pos (10 ^ e); den = pos 1 }
shifted n (negsuc e) = record { num = n; den = pos (10 ^ suc e) }

-- the sign and all digits, times 10 to the power of the exponent less the count of decimals
abbrev pub worth : Writing → Fraction
worth w = shifted (signed w.is_negative (digits_value 10 (w.whole ++ w.decimals))) (w.exponent -ℤ pos (length w.decimals))
