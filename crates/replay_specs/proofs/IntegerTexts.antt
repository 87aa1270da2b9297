-- Integers and their texts.
use Rattle.std.proofs.Common.{◌≡◌, ◌≢◌, ℕ, zero, suc, ◌+◌, ◌*◌, ◌/◌, ◌%◌, ◌^◌, ◌<◌, ◌≤◌, Bool, true, false, cond, ◌&&◌, ◌||◌, ◌==◌, List, [], ◌∷◌, ◌++◌, length, drop, get_or, Some, None, refl, sym, ◌∙◌, ap, subst, arith, ℤ, pos, negsuc, unsigned_abs, append-nil, append_assoc, All, length-append, rules}
use lib.ListN.{get_or-append}
use Rattle.std.specs.Prelude.{decimal, not, neg_ℤ, bytes_eq, codes}
use Rattle.std.specs.Fmt.{signed_decimal}
use Rattle.std.specs.Char.{digit_value}
use Rattle.std.specs.List.{list_all}
use Rattle.std.specs.Str.Parse.{AllDigits, digits_value, digits_value_after, signed_digits_value}
use Rattle.std.proofs.lemmas.Bool.{ne_eqb, eqb-true, eq-eqb}
use Rattle.std.proofs.lemmas.Fmt.{decimal_is_IsNumeral_wide, decimal_digit, decimal_step_wide, decimal_by_steps_wide}
use Rattle.std.proofs.lemmas.Str.{digit_value_digit}
use Rattle.std.proofs.lemmas.Str.Parse.{IsNumeralModel, numerals_by_value, digit_from_value}
use Rattle.number_specs.specs.Digits.{is_digit}
use Rattle.replay_specs.specs.RunTextFaults.{is_counting, is_integer, integer_of}

-- digits of our own are std's
own : IsNumeralModel (λ ds. list_all is_digit ds ≡ true) (digits_value 10)
own = numerals_by_value (λ ds. list_all is_digit ds ≡ true) (search rules)

-- ---- digits, the first no `0`

pub record IsCounting (bytes : List ℕ) : Type 0 where
  pub digits : AllDigits 10 bytes
  pub some : 0 < length bytes
  pub first : get_or bytes 0 0 ≢ 48

pub both_true : (a b : Bool) → a && b ≡ true → (a ≡ true) × (b ≡ true)
both_true true b h = (refl, h)
both_true false b h = cc

pub not_true : (a : Bool) → not a ≡ true → a ≡ false
not_true true h = sym h
not_true false h = refl

pub counting_is : (bytes : List ℕ) → is_counting bytes ≡ true → IsCounting bytes
counting_is [] h = absurd (let f : ⊥ = cc in f)
counting_is (b ∷ bytes) h =
    let parts = both_true (list_all is_digit (b ∷ bytes)) (not (b == 48)) h in
    let other = not_true (b == 48) parts.1 in
    record { digits = own.to (b ∷ bytes) parts.0; some = omega arith; first = λ e. let f : b == 48 ≡ true = eq-eqb b 48 e in cc }

pub is_counting-from : (bytes : List ℕ) → IsCounting bytes → is_counting bytes ≡ true
is_counting-from [] h = absurd (omega (arith, h.some))
is_counting-from (b ∷ bytes) h = λ i. own.from (b ∷ bytes) h.digits i && not (ne_eqb b 48 h.first i)

digits_more : (ds : List ℕ) (d : ℕ) → AllDigits 10 ds → digit_value d < 10 → AllDigits 10 (ds ++ d ∷ [])
digits_more [] d h k = (k, tt)
digits_more (b ∷ ds) d h k = (h.0, digits_more ds d h.1 k)

last_digit : (n : ℕ) → digit_value (48 + n % 10) < 10
last_digit n = omega (arith, digit_value_digit (48 + n % 10) (omega arith, omega arith))

-- a number above 0 is written so
pub counting_decimal : (n : ℕ) → 0 < n → n < 10 ^ 64 → IsCounting (decimal n)
counting_decimal n some small =
    decimal_by_steps_wide (λ m ds. 0 < m → IsCounting ds)
    (λ m l a. record { digits = (omega (arith, digit_value_digit (48 + m) (omega arith, omega arith)), tt); some = omega arith; first = λ e. omega arith })
    (λ m ds l h a.
    let was : IsCounting ds = h (omega arith) in
    record {
      digits = digits_more ds (48 + m % 10) was.digits (last_digit m);
      some = omega (arith, length-append ds ((48 + m % 10) ∷ []));
      first = λ e. was.first (sym (get_or-append ds ((48 + m % 10) ∷ []) 0 0 was.some) ∙ e);
    })
    n small some

-- ---- digits are those of their value

grows : (n : ℕ) (ds : List ℕ) → n ≤ digits_value_after 10 n ds
grows n [] = omega arith
grows n (b ∷ ds) = omega (arith, grows (n * 10 + digit_value b) ds)

spelled_on : (n : ℕ) (ds : List ℕ) → 0 < n → AllDigits 10 ds → digits_value_after 10 n ds < 10 ^ 64 → decimal n ++ ds ≡ decimal (digits_value_after 10 n ds)
spelled_on n [] some h small = append-nil (decimal n)
spelled_on n (b ∷ ds) some h small =
    let next : ℕ = n * 10 + digit_value b in
    let worth = digit_value_digit b (digit_from_value b h.0) in
    let front : next / 10 ≡ n = omega (arith, h.0) in
    let back : 48 + next % 10 ≡ b = omega (arith, h.0, worth) in
    let step = decimal_step_wide next (omega arith) (omega (arith, grows next ds, small)) in
    sym (append_assoc (decimal n) (b ∷ []) ds)
    ∙ ap (λ t. t ++ ds) ((λ i. decimal (sym front i) ++ (sym back i) ∷ []) ∙ sym step)
    ∙ spelled_on next ds (omega arith) h.1 small

pub spelled : (ds : List ℕ) → IsCounting ds → digits_value 10 ds < 10 ^ 64 → ds ≡ decimal (digits_value 10 ds)
spelled [] h small = absurd (omega (arith, h.some))
spelled (b ∷ ds) h small =
    let worth = digit_value_digit b (digit_from_value b h.digits.0) in
    let other : b ≢ 48 = h.first in
    let is : 48 + (0 * 10 + digit_value b) ≡ b = omega (arith, worth) in
    ap (λ t. t ++ ds) (ap (λ d. d ∷ []) (sym is) ∙ sym (decimal_digit (0 * 10 + digit_value b) (omega (arith, h.digits.0))))
    ∙ spelled_on (0 * 10 + digit_value b) ds (omega (arith, other, worth)) h.digits.1 small

pub positive_value : (ds : List ℕ) → IsCounting ds → 0 < digits_value 10 ds
positive_value [] h = absurd (omega (arith, h.some))
positive_value (b ∷ ds) h =
    let worth = digit_value_digit b (digit_from_value b h.digits.0) in
    let other : b ≢ 48 = h.first in
    omega (arith, other, worth, grows (0 * 10 + digit_value b) ds)

-- ---- integers

signed_plain : (b : ℕ) (bytes : List ℕ) → digit_value b < 10 → signed_digits_value 10 (b ∷ bytes) ≡ pos (digits_value 10 (b ∷ bytes))
signed_plain b bytes h =
    let k = digit_from_value b h in
    let no_minus : b == 45 ≡ false = ne_eqb b 45 (λ e. omega (arith, k.0, e)) in
    let no_plus : b == 43 ≡ false = ne_eqb b 43 (λ e. omega (arith, k.0, e)) in
    ap (λ t. cond t (neg_ℤ (pos (digits_value 10 (cond t bytes (drop (cond (b == 43) 1 0) (b ∷ bytes)))))) (pos (digits_value 10 (cond t bytes (drop (cond (b == 43) 1 0) (b ∷ bytes)))))) no_minus
    ∙ ap (λ t. pos (digits_value 10 (drop (cond t 1 0) (b ∷ bytes)))) no_plus

pub plain_integer : (ds : List ℕ) → IsCounting ds → integer_of ds ≡ Some (pos (digits_value 10 ds))
unfolding integer_of
plain_integer [] h = absurd (omega (arith, h.some))
plain_integer (b ∷ ds) h =
    let k = digit_from_value b h.digits.0 in
    let no_minus : b == 45 ≡ false = ne_eqb b 45 (λ e. omega (arith, k.0, e)) in
    let z : ℤ = signed_digits_value 10 (b ∷ ds) in
    ap (λ t. cond (cond t (is_counting ds) (is_counting (b ∷ ds) || bytes_eq (b ∷ ds) (codes "0"))) (Some z) None) no_minus
    ∙ ap (λ t. cond (t || bytes_eq (b ∷ ds) (codes "0")) (Some z) None) (is_counting-from (b ∷ ds) h)
    ∙ ap Some (signed_plain b ds h.digits.0)

pub minus_integer : (ds : List ℕ) → IsCounting ds → integer_of (45 ∷ ds) ≡ Some (neg_ℤ (pos (digits_value 10 ds)))
unfolding integer_of
minus_integer ds h = ap (λ t. cond t (Some (neg_ℤ (pos (digits_value 10 ds)))) None) (is_counting-from ds h)

pub zero_integer : integer_of (48 ∷ []) ≡ Some (pos 0)
unfolding integer_of
zero_integer = refl

-- the text of an integer is read as that integer
pub integer_written : (z : ℤ) → unsigned_abs z < 10 ^ 64 → integer_of (signed_decimal z) ≡ Some z
integer_written (pos zero) h = ap integer_of (decimal_digit 0 (omega arith)) ∙ zero_integer
integer_written (pos (suc n)) h =
    plain_integer (decimal (suc n)) (counting_decimal (suc n) (omega arith) h)
    ∙ ap (λ k. Some (pos k)) (decimal_is_IsNumeral_wide (suc n) h).1
integer_written (negsuc n) h =
    minus_integer (decimal (suc n)) (counting_decimal (suc n) (omega arith) h)
    ∙ ap (λ k. Some (neg_ℤ (pos k))) (decimal_is_IsNumeral_wide (suc n) h).1

-- the same of a number that has no sign
pub number_written : (n : ℕ) → n < 10 ^ 64 → integer_of (decimal n) ≡ Some (pos n)
number_written n h = integer_written (pos n) h

-- ---- and back

-- how a text writes an integer
pub data Written (text : List ℕ) : Type 0 where
  Plain : IsCounting text → Written text
  Zero : text ≡ 48 ∷ [] → Written text
  Minus : (ds : List ℕ) → text ≡ 45 ∷ ds → IsCounting ds → Written text

zero_text : (b : ℕ) (ds : List ℕ) → bytes_eq (b ∷ ds) (codes "0") ≡ true → b ∷ ds ≡ 48 ∷ []
zero_text b [] h = let parts = both_true (b == 48) true h in ap (λ d. d ∷ []) (eqb-true b 48 parts.0)
zero_text b (d ∷ ds) h = let parts = both_true (b == 48) false h in absurd (let f : ⊥ = cc in f)

written_case : (b : ℕ) (ds : List ℕ) (minus counting is_zero : Bool) → b == 45 ≡ minus → is_counting (b ∷ ds) ≡ counting → bytes_eq (b ∷ ds) (codes "0") ≡ is_zero →
    cond minus (is_counting ds) (counting || is_zero) ≡ true → Written (b ∷ ds)
written_case b ds true counting is_zero m c z h = Minus ds (ap (λ x. x ∷ ds) (eqb-true b 45 m)) (counting_is ds h)
written_case b ds false true is_zero m c z h = Plain (counting_is (b ∷ ds) c)
written_case b ds false false is_zero m c z h = Zero (zero_text b ds (z ∙ h))

pub written : (text : List ℕ) → is_integer text ≡ true → Written text
written [] h = absurd (let f : ⊥ = cc in f)
written (b ∷ ds) h = written_case b ds (b == 45) (is_counting (b ∷ ds)) (bytes_eq (b ∷ ds) (codes "0")) refl refl refl h

integer_form : (t : Bool) (x z : ℤ) → cond t (Some x) None ≡ Some z → t ≡ true
integer_form true x z h = refl
integer_form false x z h = absurd (let f : ⊥ = cc in f)

pub integer_is : (text : List ℕ) (z : ℤ) → integer_of text ≡ Some z → is_integer text ≡ true
unfolding integer_of
integer_is text z h = integer_form (is_integer text) (signed_digits_value 10 text) z h

pub integer_value : (text : List ℕ) → is_integer text ≡ true → integer_of text ≡ Some (signed_digits_value 10 text)
unfolding integer_of
integer_value text h = ap (λ t. cond t (Some (signed_digits_value 10 text)) None) h

pub no_integer : (text : List ℕ) → is_integer text ≡ false → integer_of text ≡ None
unfolding integer_of
no_integer text h = ap (λ t. cond t (Some (signed_digits_value 10 text)) None) h

pub some_is : {A : Type 0} (x y : A) → Some x ≡ Some y → x ≡ y
some_is x y h = cc

minus_text : (n : ℕ) → 0 < n → 45 ∷ decimal n ≡ signed_decimal (neg_ℤ (pos n))
minus_text zero h = absurd (omega (arith, h))
minus_text (suc n) h = refl

pub abs_minus : (n : ℕ) → unsigned_abs (neg_ℤ (pos n)) ≡ n
abs_minus zero = refl
abs_minus (suc n) = refl

-- an integer within 64 digits is written in one way
pub written_back : (text : List ℕ) (z : ℤ) → Written text → integer_of text ≡ Some z → unsigned_abs z < 10 ^ 64 → text ≡ signed_decimal z
written_back text z (Plain is) h small =
    let value : pos (digits_value 10 text) ≡ z = some_is _ _ (sym (plain_integer text is) ∙ h) in
    spelled text is (subst (λ k. unsigned_abs k < 10 ^ 64) (sym value) small) ∙ ap signed_decimal value
written_back text z (Zero is) h small =
    let value : pos 0 ≡ z = some_is _ _ (sym zero_integer ∙ ap integer_of (sym is) ∙ h) in
    is ∙ sym (decimal_digit 0 (omega arith)) ∙ ap signed_decimal value
written_back text z (Minus ds is counting) h small =
    let value : neg_ℤ (pos (digits_value 10 ds)) ≡ z = some_is _ _ (sym (minus_integer ds counting) ∙ ap integer_of (sym is) ∙ h) in
    let few : digits_value 10 ds < 10 ^ 64 = subst (λ k. k < 10 ^ 64) (abs_minus (digits_value 10 ds)) (subst (λ k. unsigned_abs k < 10 ^ 64) (sym value) small) in
    is ∙ ap (λ t. 45 ∷ t) (spelled ds counting few) ∙ minus_text (digits_value 10 ds) (positive_value ds counting) ∙ ap signed_decimal value

pub integer_text : (text : List ℕ) (z : ℤ) → integer_of text ≡ Some z → unsigned_abs z < 10 ^ 64 → text ≡ signed_decimal z
integer_text text z h small = written_back text z (written text (integer_is text z h)) h small

-- ---- bytes that are in no integer

-- the byte is neither a digit nor `-`
pub record IsForeign (c : ℕ) : Type 0 where
  pub no_digit : (b : ℕ) → digit_value b < 10 → b ≢ c
  pub no_minus : 45 ≢ c

lacks_digits : (c : ℕ) (ds : List ℕ) → IsForeign c → AllDigits 10 ds → All (λ b. b == c ≡ false) ds
lacks_digits c ds f h k d lt = ne_eqb (get_or ds k d) c (f.no_digit (get_or ds k d) (digit_in ds h k d lt))
  where
    digit_in : (es : List ℕ) → AllDigits 10 es → (k d : ℕ) → k < length es → digit_value (get_or es k d) < 10
    digit_in [] h k d lt = absurd (omega (arith, lt))
    digit_in (e ∷ es) h zero d lt = h.0
    digit_in (e ∷ es) h (suc k) d lt = digit_in es h.1 k d (omega (arith, lt))

pub lacks_foreign : (c : ℕ) (text : List ℕ) → IsForeign c → Written text → All (λ b. b == c ≡ false) text
lacks_foreign c text f (Plain is) = lacks_digits c text f is.digits
lacks_foreign c text f (Zero is) = subst (All (λ b. b == c ≡ false)) (sym is) (lacks_digits c (48 ∷ []) f (omega arith, tt))
lacks_foreign c text f (Minus ds is counting) = subst (All (λ b. b == c ≡ false)) (sym is) (behind (lacks_digits c ds f counting.digits))
  where
    behind : All (λ b. b == c ≡ false) ds → All (λ b. b == c ≡ false) (45 ∷ ds)
    behind h zero d lt = ne_eqb 45 c f.no_minus
    behind h (suc k) d lt = h k d (omega (arith, lt))

pub space_is_foreign : IsForeign 32
space_is_foreign = record { no_digit = λ b h e. omega (arith, (digit_from_value b h).0, e); no_minus = λ e. omega (arith, e) }

pub feed_is_foreign : IsForeign 10
feed_is_foreign = record { no_digit = λ b h e. omega (arith, (digit_from_value b h).0, e); no_minus = λ e. omega (arith, e) }

pub integer_lacks : (c : ℕ) (text : List ℕ) (z : ℤ) → IsForeign c → integer_of text ≡ Some z → All (λ b. b == c ≡ false) text
integer_lacks c text z f h = lacks_foreign c text f (written text (integer_is text z h))
