-- The digits that a text begins with.
use Rattle.std.proofs.Common.{◌≡◌, ℕ, ◌+◌, ◌-◌, ◌*◌, ◌^◌, ◌<◌, Bool, true, false, ◌&&◌, if◌then◌else◌, List, [], ◌∷◌, ◌++◌, length, refl, sym, ◌∙◌, ap, ap₂, arith, append-nil}
use Rattle.std.specs.Prelude.{decimal}
use Rattle.std.specs.Char.{digit_value}
use Rattle.std.specs.Str.Parse.{AllDigits, digits_value_after}
use Rattle.std.proofs.lemmas.Bool.{le-leb, leb-true}
use Rattle.std.proofs.lemmas.Fmt.{decimal_is_IsNumeral_wide}
use Rattle.std.proofs.lemmas.Nat.{pow-add}
use Rattle.std.proofs.lemmas.Str.{digit_value_digit}
use Rattle.std.proofs.lemmas.Str.Parse.{digit_from_value}
use Rattle.number_specs.specs.Digits.{is_digit, Numeral, numeral_from, numeral_of}

-- ---- one digit

pub digit_is : (b : ℕ) → digit_value b < 10 → is_digit b ≡ true
digit_is b h = let k = digit_from_value b h in λ i. le-leb 48 b k.0 i && le-leb b 57 k.1 i

pub digit_worth : (b : ℕ) → digit_value b < 10 → b - 48 ≡ digit_value b
digit_worth b h = omega (arith, digit_value_digit b (digit_from_value b h))

and_right : (a b : Bool) → a && b ≡ true → b ≡ true
and_right true b e = e
and_right false b e = absurd (let f : ⊥ = cc in f)

pub digit_small : (b : ℕ) → is_digit b ≡ true → b - 48 < 10
digit_small b e = omega (arith, leb-true b 57 (and_right _ _ e))

-- ---- digits in front of other bytes

pub numeral-append : (ds : List ℕ) (v c : ℕ) (rest : List ℕ) → AllDigits 10 ds →
    numeral_from v c (ds ++ rest) ≡ numeral_from (digits_value_after 10 v ds) (c + length ds) rest
numeral-append [] v c rest h = ap (λ k. numeral_from v k rest) (omega arith)
numeral-append (b ∷ ds) v c rest h =
    let worth : v * 10 + (b - 48) ≡ v * 10 + digit_value b = ap (λ d. v * 10 + d) (digit_worth b h.0) in
    let more : c + 1 + length ds ≡ c + length (b ∷ ds) = omega arith in
    ap (λ t. if t then numeral_from (v * 10 + (b - 48)) (c + 1) (ds ++ rest) else record { value = v; count = c; rest = b ∷ (ds ++ rest) }) (digit_is b h.0)
    ∙ numeral-append ds (v * 10 + (b - 48)) (c + 1) rest h.1
    ∙ ap₂ (λ w k. numeral_from (digits_value_after 10 w ds) k rest) worth more

-- the digits of a number, before other bytes
pub numeral-decimal : (n : ℕ) (rest : List ℕ) → n < 10 ^ 64 → numeral_of (decimal n ++ rest) ≡ numeral_from n (length (decimal n)) rest
numeral-decimal n rest h =
    let is = decimal_is_IsNumeral_wide n h in
    numeral-append (decimal n) 0 0 rest is.0.1 ∙ ap₂ (λ v k. numeral_from v k rest) is.1 (omega arith)

-- the digits of a number alone
pub numeral-decimal_alone : (n : ℕ) → n < 10 ^ 64 → numeral_of (decimal n) ≡ record { value = n; count = length (decimal n); rest = [] }
numeral-decimal_alone n h = ap numeral_of (sym (append-nil (decimal n))) ∙ numeral-decimal n [] h

-- ---- a number is below 10 to the count of its digits

-- it is so of these
abbrev pub IsBelowCount : Numeral → Type 0
IsBelowCount n = n.value < 10 ^ n.count

next_below : (v c d : ℕ) → v < 10 ^ c → d < 10 → v * 10 + d < 10 ^ (c + 1)
next_below v c d h k = omega (arith, pow-add 10 c 1, h, k)

one_below : (t : Bool) (x y : Numeral) → (t ≡ true → IsBelowCount x) → IsBelowCount y → IsBelowCount (if t then x else y)
one_below true x y f g = f refl
one_below false x y f g = g

pub numeral-below : (text : List ℕ) (v c : ℕ) → v < 10 ^ c → IsBelowCount (numeral_from v c text)
numeral-below [] v c h = h
numeral-below (b ∷ bytes) v c h =
    one_below (is_digit b) (numeral_from (v * 10 + (b - 48)) (c + 1) bytes) (record { value = v; count = c; rest = b ∷ bytes })
    (λ e. numeral-below bytes (v * 10 + (b - 48)) (c + 1) (next_below v c (b - 48) h (digit_small b e))) h
