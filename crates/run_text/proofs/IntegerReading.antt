-- What std's `parse` says of an integer of any size.
use Rattle.std.proofs.Common.{◌≡◌, ℕ, zero, suc, ◌^◌, ◌<◌, true, false, List, [], ◌∷◌, get_or, Result, Err, refl, sym, ◌∙◌, ap, subst, arith, ℤ, pos, unsigned_abs, ◌==◌}
use Rattle.std.specs.Int.{w128}
use Rattle.std.specs.Prelude.{neg_ℤ, not}
use Rattle.std.specs.Str.{IsUtf8}
use Rattle.std.specs.Str.Parse.{AllDigits, digits_value, signed_digits_value, ParsesSigned}
use Rattle.std.proofs.lemmas.Bool.{lt-ltb, ne_eqb}
use Rattle.std.proofs.lemmas.Fmt.{IsAscii-from_digits}
use Rattle.std.proofs.lemmas.Str.{IsUtf8-from_ascii}
use Rattle.std.specs.Str.{IsAscii}
use Rattle.std.proofs.lemmas.Str.Parse.{IsNumeralModel, numerals_by_value, tells_digits, parse_signed_digits, parse_signed_minus}
use Rattle.poly_specs.specs.Bits.{FitsBits}
use Rattle.replay_specs.proofs.IntegerTexts.{IsCounting, Written, Plain, Zero, Minus, written, integer_value, plain_integer, minus_integer, zero_integer, some_is, abs_minus, positive_value}
use Rattle.replay_specs.specs.RunTextFaults.{is_integer, integer_of, is_positive}

own : IsNumeralModel (AllDigits 10) (digits_value 10)
own = numerals_by_value (AllDigits 10) tells_digits

-- ---- the value

plain_value : (text : List ℕ) → is_integer text ≡ true → IsCounting text → signed_digits_value 10 text ≡ pos (digits_value 10 text)
plain_value text h is = some_is _ _ (sym (integer_value text h) ∙ plain_integer text is)

zero_value : (text : List ℕ) → is_integer text ≡ true → text ≡ 48 ∷ [] → signed_digits_value 10 text ≡ pos 0
zero_value text h is = some_is _ _ (sym (integer_value text h) ∙ ap integer_of is ∙ zero_integer)

minus_value : (text ds : List ℕ) → is_integer text ≡ true → text ≡ 45 ∷ ds → IsCounting ds → signed_digits_value 10 text ≡ neg_ℤ (pos (digits_value 10 ds))
minus_value text ds h is counting = some_is _ _ (sym (integer_value text h) ∙ ap integer_of is ∙ minus_integer ds counting)

-- ---- its sign

sign_of : (text : List ℕ) → is_integer text ≡ true → Written text → get_or text 0 0 == 45 ≡ false → not (get_or text 0 0 == 48) ≡ is_positive (signed_digits_value 10 text)
sign_of text h (Plain is) e =
    ap not (ne_eqb (get_or text 0 0) 48 is.first)
    ∙ sym (lt-ltb 0 (digits_value 10 text) (positive_value text is)) ∙ ap is_positive (sym (plain_value text h is))
sign_of text h (Zero is) e = ap (λ t. not (get_or t 0 0 == 48)) is ∙ ap is_positive (sym (zero_value text h is))
sign_of text h (Minus ds is counting) e = let f : get_or (45 ∷ ds) 0 0 == 45 ≡ false = subst (λ t. get_or t 0 0 == 45 ≡ false) is e in absurd (let g : ⊥ = cc in g)

pub positive_by_sign : (text : List ℕ) → is_integer text ≡ true → get_or text 0 0 == 45 ≡ false → not (get_or text 0 0 == 48) ≡ is_positive (signed_digits_value 10 text)
positive_by_sign text h e = sign_of text h (written text h) e

-- ---- what `parse` refuses

digits_ascii : (text : List ℕ) → Written text → IsAscii text
digits_ascii text (Plain is) = IsAscii-from_digits text is.digits
digits_ascii text (Zero is) = subst IsAscii (sym is) (IsAscii-from_digits (48 ∷ []) (omega arith, tt))
digits_ascii text (Minus ds is counting) = subst IsAscii (sym is) behind
  where
    behind : IsAscii (45 ∷ ds)
    behind zero = omega arith
    behind (suc i) = IsAscii-from_digits ds counting.digits i

pub integer_is_utf8 : (text : List ℕ) → is_integer text ≡ true → IsUtf8 text
integer_is_utf8 text h = IsUtf8-from_ascii text (digits_ascii text (written text h))

refused_of : {E : Type 0} (text : List ℕ) (e : E) → is_integer text ≡ true → Written text → ParsesSigned w128 10 text (Err e) → FitsBits (signed_digits_value 10 text) → ⊥
refused_of {E} text e h (Plain is) p fits =
    let r : Result ℤ E = Err e in
    let small : digits_value 10 text < 2 ^ 127 = subst FitsBits (plain_value text h is) fits in
    parse_signed_digits own w128 text r p is.digits (is.some, small)
refused_of {E} text e h (Zero is) p fits =
    let r : Result ℤ E = Err e in
    let q : ParsesSigned w128 10 (48 ∷ []) r = subst (λ t. ParsesSigned w128 10 t r) is p in
    parse_signed_digits own w128 (48 ∷ []) r q (omega arith, tt) (omega arith, omega arith)
refused_of {E} text e h (Minus ds is counting) p fits =
    let r : Result ℤ E = Err e in
    let q : ParsesSigned w128 10 (45 ∷ ds) r = subst (λ t. ParsesSigned w128 10 t r) is p in
    let small : unsigned_abs (neg_ℤ (pos (digits_value 10 ds))) < 2 ^ 127 = subst FitsBits (minus_value text ds h is counting) fits in
    parse_signed_minus own w128 (45 ∷ ds) r q refl (counting.digits, counting.some, omega (arith, small, abs_minus (digits_value 10 ds)))

pub refused_passes : {E : Type 0} (text : List ℕ) (r : Result ℤ E) (e : E) → is_integer text ≡ true → r ≡ Err e → ParsesSigned w128 10 text r → FitsBits (signed_digits_value 10 text) → ⊥
refused_passes text r e h is p fits = refused_of text e h (written text h) (subst (λ x. ParsesSigned w128 10 text x) is p) fits
