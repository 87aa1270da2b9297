-- Digits in a text.
use Rattle.std.specs.Prelude.{ℕ, ◌+◌, ◌-◌, ◌*◌, List, [], ◌∷◌, Bool, ◌&&◌, nat_le, if◌then◌else◌}

-- 0 to 9
abbrev pub is_digit : ℕ → Bool
is_digit b = nat_le 48 b && nat_le b 57

-- the digits that a text begins with: the number that they write, how many they are, and the bytes after them
pub record Numeral : Type 0 where
  pub value : ℕ
  pub count : ℕ
  pub rest : List ℕ

-- the same, after digits that were read
abbrev pub numeral_from : ℕ → ℕ → List ℕ → Numeral
numeral_from value count [] = record { value = value; count = count; rest = [] }
numeral_from value count (b ∷ bytes) =
    if is_digit b
    then numeral_from (value * 10 + (b - 48)) (count + 1) bytes
    else record { value = value; count = count; rest = b ∷ bytes }

-- the digits that a text begins with
abbrev pub numeral_of : List ℕ → Numeral
numeral_of text = numeral_from 0 0 text
