-- A number that is written is read as what it is worth.
use Rattle.std.proofs.Common.{◌≡◌, ◌⊎◌, ◌↔◌, inl, inr, ℕ, zero, suc, ◌+◌, ◌-◌, ◌*◌, ◌%◌, ◌^◌, ◌<◌, ◌≤◌, Bool, true, false, ◌&&◌, ◌||◌, if◌then◌else◌, List, [], ◌∷◌, ◌++◌, length, Option, Some, None, Result, Ok, Err, refl, sym, ◌∙◌, ap, ap₂, subst, append_assoc, append-nil, arith, ℤ, pos, negsuc, ◌-ℤ◌, ◌*ℤ◌, neg_ℤ, unsigned_abs, codes}
use Rattle.std.specs.Prelude.{nat_lt, nat_le, ◌==◌}
use Rattle.std.specs.Char.{digit_value}
use Rattle.std.specs.Int.{◌∣◌}
use Rattle.std.specs.Str.Parse.{AllDigits, digits_value, digits_value_after}
use Rattle.std.proofs.Math.Nat.{mul-lt-mul_of_pos_left, mul-dvd-mul_left, dvd-mul_left_of_dvd, add-sub_of_le}
use Rattle.std.proofs.lemmas.Bool.{le-leb, lt-ltb, eq-eqb, ne_eqb, leb-true, leb-false}
use Rattle.std.proofs.lemmas.Int.{ints}
use Rattle.std.proofs.lemmas.Nat.{pow-add}
use Rattle.std.proofs.lemmas.Nat.Gcd.{mod-eq-zero_of_dvd}
use Rattle.std.proofs.lemmas.Str.Parse.{digit_from_value}
use Rattle.poly_specs.proofs.FractionLemmas.{same-trans}
use Rattle.poly_specs.proofs.GcdLemmas.{gcd-positive}
use Rattle.poly_specs.proofs.IntLemmas.{mul_assoc_int, mul_comm_int, neg_mul}
use Rattle.poly_specs.proofs.LowestLemmas.{shared, lowest-num, lowest-den, lowest-IsFraction, lowest-same, scaled-same, same-lowest}
use Rattle.poly_specs.specs.Arithmetic.{lowest}
use Rattle.poly_specs.specs.Fractions.{Fraction, IsFraction, SameFraction}
use Rattle.number_specs.proofs.LogNumberLemmas.{power-positive, signed_size, size_of, turned, moved_bottom, numbers_are}
use Rattle.number_specs.proofs.NumeralLemmas.{digit_is, digit_worth}
use Rattle.number_specs.proofs.TextLemmas.{whole_digits, mantissa-append}
use Rattle.number_specs.specs.LogNumbers.{Digits, no_digits, with_digit, Mantissa, mantissa_from, small_from, Exponent, with_size, exponent_behind, exponent_of, Decimal, moved, with_exponent, unsigned_of, decimal_of, is_in_range, signed, value_of, number_of, read_number, IsLogNumber}
use Rattle.number_specs.specs.NumberForms.{IsSign, IsPoint, HasExponent, IsExponent, Writing, IsWriting, shifted, worth}
use Rattle.number_specs.specs.declared.NumFault.{NumFault}
use Rattle.number_specs.specs.declared.NumFault.TheVariants.{Form, Range}

-- ---- digits

-- digits of which so many stand behind a point
abbrev behind_point : ℕ → ℕ → ℕ → Digits
behind_point v c a = record { value = v; count = c; has_point = true; after_point = a }

decimals-append : (ds : List ℕ) (v c a : ℕ) (rest : List ℕ) → AllDigits 10 ds →
    mantissa_from (behind_point v c a) (ds ++ rest) ≡ mantissa_from (behind_point (digits_value_after 10 v ds) (c + length ds) (a + length ds)) rest
decimals-append [] v c a rest h = ap₂ (λ k l. mantissa_from (behind_point v k l) rest) (omega arith) (omega arith)
decimals-append (b ∷ ds) v c a rest h =
    let value : v * 10 + (b - 48) ≡ v * 10 + digit_value b = ap (λ d. v * 10 + d) (digit_worth b h.0) in
    let more : c + 1 + length ds ≡ c + length (b ∷ ds) = omega arith in
    let behind : a + 1 + length ds ≡ a + length (b ∷ ds) = omega arith in
    let d = behind_point v c a in
    ap (λ t. if t || (b == 46) && false then mantissa_from (if t then with_digit d b else record d { has_point = true }) (ds ++ rest) else record { digits = d; rest = b ∷ (ds ++ rest) })
    (digit_is b h.0)
    ∙ decimals-append ds (v * 10 + (b - 48)) (c + 1) (a + 1) rest h.1
    ∙ ap (λ w. mantissa_from (behind_point (digits_value_after 10 w ds) (c + 1 + length ds) (a + 1 + length ds)) rest) value
    ∙ ap₂ (λ k l. mantissa_from (behind_point (digits_value_after 10 (v * 10 + digit_value b) ds) k l) rest) more behind

after_append : (v : ℕ) (ds es : List ℕ) → digits_value_after 10 v (ds ++ es) ≡ digits_value_after 10 (digits_value_after 10 v ds) es
after_append v [] es = refl
after_append v (d ∷ ds) es = after_append (v * 10 + digit_value d) ds es

-- ---- an exponent

small-append : (ds : List ℕ) (v c : ℕ) → AllDigits 10 ds → 1 ≤ c + length ds → c + length ds ≤ 4 → small_from v c ds ≡ Some (digits_value_after 10 v ds)
small-append [] v c h some few =
    ap (λ t. if t then Some v else None) (λ i. le-leb 1 c (omega (arith, some)) i && le-leb c 4 (omega (arith, few)) i)
small-append (b ∷ ds) v c h some few =
    ap (λ t. if t then small_from (v * 10 + (b - 48)) (c + 1) ds else None) (digit_is b h.0)
    ∙ small-append ds (v * 10 + (b - 48)) (c + 1) h.1 (omega (arith, some)) (omega (arith, few))
    ∙ ap (λ w. Some (digits_value_after 10 w ds)) (ap (λ d. v * 10 + d) (digit_worth b h.0))

-- digits that no sign stands before
unsigned_behind : (ds : List ℕ) → AllDigits 10 ds → 1 ≤ length ds → exponent_behind ds ≡ with_size false (small_from 0 0 ds)
unsigned_behind [] h some = absurd (omega (arith, some))
unsigned_behind (b ∷ ds) h some =
    let k = digit_from_value b h.0 in
    ap (λ t. if t then with_size false (small_from 0 0 ds) else (if b == 45 then with_size true (small_from 0 0 ds) else with_size false (small_from 0 0 (b ∷ ds))))
    (ne_eqb b 43 (λ e. omega (arith, k.0, e)))
    ∙ ap (λ t. if t then with_size true (small_from 0 0 ds) else with_size false (small_from 0 0 (b ∷ ds))) (ne_eqb b 45 (λ e. omega (arith, k.0, e)))

behind_sign : (negative : Bool) (sign ds : List ℕ) → IsSign sign negative → AllDigits 10 ds → 1 ≤ length ds →
    exponent_behind (sign ++ ds) ≡ with_size negative (small_from 0 0 ds)
behind_sign true sign ds e h some = ap (λ s. exponent_behind (s ++ ds)) e
behind_sign false sign ds (inl e) h some = ap (λ s. exponent_behind (s ++ ds)) e ∙ unsigned_behind ds h some
behind_sign false sign ds (inr e) h some = ap (λ s. exponent_behind (s ++ ds)) e

at_letter : (letter rest : List ℕ) → (letter ≡ codes "e") ⊎ (letter ≡ codes "E") → exponent_of (letter ++ rest) ≡ exponent_behind rest
at_letter letter rest (inl e) = ap (λ l. exponent_of (l ++ rest)) e
at_letter letter rest (inr e) = ap (λ l. exponent_of (l ++ rest)) e

-- an exponent that is read
record Reads (text : List ℕ) (exponent : ℤ) : Type 0 where
  is_negative : Bool
  size : ℕ
  reads : exponent_of text ≡ Some (record { is_negative = is_negative; size = size })
  value : exponent ≡ signed is_negative size

exponent_reads : (text : List ℕ) (exponent : ℤ) → IsExponent text exponent → Reads text exponent
exponent_reads text exponent (inl h) = record {
  is_negative = h.is_negative;
  size = digits_value 10 h.digits;
  reads = ap exponent_of h.parts ∙ at_letter h.letter (h.sign ++ h.digits) h.is_letter
      ∙ behind_sign h.is_negative h.sign h.digits h.is_sign h.are_digits h.some
      ∙ ap (with_size h.is_negative) (small-append h.digits 0 0 h.are_digits (omega (arith, h.some)) (omega (arith, h.few)));
  value = h.value;
}
exponent_reads text exponent (inr (e, f)) = record { is_negative = false; size = 0; reads = ap exponent_of e; value = f }

-- no digit and no point begins an exponent
letter_stops : (d : Digits) (letter rest : List ℕ) → (letter ≡ codes "e") ⊎ (letter ≡ codes "E") →
    mantissa_from d (letter ++ rest) ≡ record { digits = d; rest = letter ++ rest }
letter_stops d letter rest (inl e) = subst (λ l. mantissa_from d (l ++ rest) ≡ record { digits = d; rest = l ++ rest }) (sym e) refl
letter_stops d letter rest (inr e) = subst (λ l. mantissa_from d (l ++ rest) ≡ record { digits = d; rest = l ++ rest }) (sym e) refl

exponent_stops : (d : Digits) (text : List ℕ) (exponent : ℤ) → IsExponent text exponent → mantissa_from d text ≡ record { digits = d; rest = text }
exponent_stops d text exponent (inl h) =
    subst (λ z. mantissa_from d z ≡ record { digits = d; rest = z }) (sym h.parts) (letter_stops d h.letter (h.sign ++ h.digits) h.is_letter)
exponent_stops d text exponent (inr (e, f)) = subst (λ z. mantissa_from d z ≡ record { digits = d; rest = z }) (sym e) refl

-- ---- the digits and their point

-- the digits of a writing, as they are read
record ReadsDigits (w : Writing) (body end : List ℕ) : Type 0 where
  digits : Digits
  reads : mantissa_from no_digits body ≡ record { digits = digits; rest = end }
  value : digits.value ≡ digits_value 10 (w.whole ++ w.decimals)
  count : digits.count ≡ length w.whole + length w.decimals
  after_point : digits.after_point ≡ length w.decimals

whole_reads : (w : Writing) (tail end : List ℕ) (exponent : ℤ) → AllDigits 10 w.whole → AllDigits 10 w.decimals → IsExponent end exponent →
    IsPoint tail w.decimals → ReadsDigits w (w.whole ++ (tail ++ end)) end
whole_reads w tail end exponent h k e (inl p) =
    let v : ℕ = digits_value_after 10 0 w.whole in
    let c : ℕ = 0 + length w.whole in
    let d = behind_point (digits_value_after 10 v w.decimals) (c + length w.decimals) (0 + length w.decimals) in record {
      digits = d;
      reads = mantissa-append w.whole 0 0 (tail ++ end) h ∙ ap (λ z. mantissa_from (whole_digits v c) (z ++ end)) p
          ∙ decimals-append w.decimals v c 0 end k ∙ exponent_stops d end exponent e;
      value = sym (after_append 0 w.whole w.decimals);
      count = omega arith;
      after_point = omega arith;
    }
whole_reads w tail end exponent h k e (inr (p, q)) =
    let v : ℕ = digits_value_after 10 0 w.whole in
    let c : ℕ = 0 + length w.whole in
    let d = whole_digits v c in
    let none : length w.decimals ≡ 0 = ap length q in record {
      digits = d;
      reads = mantissa-append w.whole 0 0 (tail ++ end) h ∙ ap (λ z. mantissa_from d (z ++ end)) p ∙ exponent_stops d end exponent e;
      value = ap (digits_value 10) (sym (append-nil w.whole)) ∙ ap (λ z. digits_value 10 (w.whole ++ z)) (sym q);
      count = omega (arith, none);
      after_point = sym none;
    }

-- ---- the sign

-- a first byte that is no sign
record HasNoSign (body : List ℕ) : Type 0 where
  first : ℕ
  rest : List ℕ
  parts : body ≡ first ∷ rest
  no_plus : first == 43 ≡ false
  no_minus : first == 45 ≡ false

digit_no_sign : (b : ℕ) (rest : List ℕ) → digit_value b < 10 → HasNoSign (b ∷ rest)
digit_no_sign b rest h =
    let k = digit_from_value b h in record {
      first = b;
      rest = rest;
      parts = refl;
      no_plus = ne_eqb b 43 (λ e. omega (arith, k.0, e));
      no_minus = ne_eqb b 45 (λ e. omega (arith, k.0, e));
    }

no_sign_first : (whole tail end decimals : List ℕ) → AllDigits 10 whole → IsPoint tail decimals → (1 ≤ length whole) ⊎ (1 ≤ length decimals) →
    HasNoSign (whole ++ (tail ++ end))
no_sign_first (b ∷ whole) tail end decimals h p some = digit_no_sign b (whole ++ (tail ++ end)) h.0
no_sign_first [] tail end decimals h (inl p) some =
    record { first = 46; rest = decimals ++ end; parts = ap (λ z. z ++ end) p; no_plus = refl; no_minus = refl }
no_sign_first [] tail end decimals h (inr p) (inl some) = absurd (omega (arith, some))
no_sign_first [] tail end decimals h (inr p) (inr some) =
    let none : length decimals ≡ 0 = ap length p.1 in absurd (omega (arith, some, none))

without_sign : (body : List ℕ) → HasNoSign body → decimal_of body ≡ unsigned_of false body
without_sign body h =
    ap decimal_of h.parts
    ∙ ap (λ t. if t then unsigned_of false h.rest else (if h.first == 45 then unsigned_of true h.rest else unsigned_of false (h.first ∷ h.rest))) h.no_plus
    ∙ ap (λ t. if t then unsigned_of true h.rest else unsigned_of false (h.first ∷ h.rest)) h.no_minus ∙ ap (unsigned_of false) (sym h.parts)

with_sign : (negative : Bool) (sign body : List ℕ) → IsSign sign negative → HasNoSign body → decimal_of (sign ++ body) ≡ unsigned_of negative body
with_sign true sign body e h = ap (λ s. decimal_of (s ++ body)) e
with_sign false sign body (inl e) h = ap (λ s. decimal_of (s ++ body)) e ∙ without_sign body h
with_sign false sign body (inr e) h = ap (λ s. decimal_of (s ++ body)) e

-- ---- what is written is scanned

-- a writing that is read as this number
record Scans (text : List ℕ) (w : Writing) : Type 0 where
  digits : Digits
  is_negative : Bool
  size : ℕ
  reads : decimal_of text ≡ Some (moved w.is_negative digits (record { is_negative = is_negative; size = size }))
  value : digits.value ≡ digits_value 10 (w.whole ++ w.decimals)
  after_point : digits.after_point ≡ length w.decimals
  exponent : w.exponent ≡ signed is_negative size

some_count : (a b c : ℕ) → c ≡ a + b → (1 ≤ a) ⊎ (1 ≤ b) → nat_le 1 c ≡ true
some_count a b c e (inl h) = le-leb 1 c (omega (arith, e, h))
some_count a b c e (inr h) = le-leb 1 c (omega (arith, e, h))

scans : (text : List ℕ) (w : Writing) → IsWriting text w → Scans text w
scans text w h =
    let body : List ℕ = w.whole ++ (h.tail ++ h.end) in
    let d = whole_reads w h.tail h.end w.exponent h.whole_digits h.decimal_digits h.is_exponent h.is_point in
    let e = exponent_reads h.end w.exponent h.is_exponent in record {
      digits = d.digits;
      is_negative = e.is_negative;
      size = e.size;
      reads = ap decimal_of h.parts
          ∙ with_sign w.is_negative h.sign body h.is_sign (no_sign_first w.whole h.tail h.end w.decimals h.whole_digits h.is_point h.some)
          ∙ ap (λ (m : Mantissa). with_exponent w.is_negative m.digits (exponent_of m.rest)) d.reads
          ∙ ap (with_exponent w.is_negative d.digits) e.reads
          ∙ ap (λ t. if t then Some (moved w.is_negative d.digits (record { is_negative = e.is_negative; size = e.size })) else None)
          (some_count (length w.whole) (length w.decimals) d.digits.count d.count h.some);
      value = d.value;
      after_point = d.after_point;
      exponent = e.value;
    }

-- ---- what it is worth

-- a number that is written, as a fraction
abbrev pub fraction_of : Decimal → Fraction
fraction_of d = record { num = signed d.is_negative d.top; den = pos d.bottom }

pos_times : (n m : ℕ) → pos (n * m) ≡ pos n *ℤ pos m
pos_times n m = omega (arith, ints)

signed_times : (negative : Bool) (n m : ℕ) → signed negative (n * m) ≡ signed negative n *ℤ pos m
signed_times true n m = ap neg_ℤ (pos_times n m) ∙ sym (neg_mul (pos n) (pos m))
signed_times false n m = pos_times n m

same_back : (x y : Fraction) → SameFraction x y → SameFraction y x
same_back x y e = sym e

-- n times 10^s over 10^a
abbrev raised : ℤ → ℕ → ℕ → Fraction
raised n s a = record { num = n *ℤ pos (10 ^ s); den = pos (10 ^ a) }

up_by : (n : ℤ) (k a : ℕ) → SameFraction (raised n (a + k) a) (shifted n (pos k))
up_by n k a =
    let power : pos (10 ^ (a + k)) ≡ pos (10 ^ a) *ℤ pos (10 ^ k) = ap pos (pow-add 10 a k) ∙ pos_times (10 ^ a) (10 ^ k) in
    let num : pos (10 ^ a) *ℤ (n *ℤ pos (10 ^ k)) ≡ n *ℤ pos (10 ^ (a + k)) =
    sym (mul_assoc_int (pos (10 ^ a)) n (pos (10 ^ k))) ∙ ap (λ z. z *ℤ pos (10 ^ k)) (mul_comm_int (pos (10 ^ a)) n)
    ∙ mul_assoc_int n (pos (10 ^ a)) (pos (10 ^ k)) ∙ ap (λ z. n *ℤ z) (sym power) in
    same_back (shifted n (pos k)) (raised n (a + k) a)
    (scaled-same (pos (10 ^ a)) (shifted n (pos k)) (raised n (a + k) a) num (sym (pos_times (10 ^ a) 1) ∙ ap pos (omega arith)))

down_by : (n : ℤ) (k s : ℕ) → SameFraction (raised n s (s + suc k)) (shifted n (negsuc k))
down_by n k s =
    let power : pos (10 ^ s) *ℤ pos (10 ^ suc k) ≡ pos (10 ^ (s + suc k)) = sym (pos_times (10 ^ s) (10 ^ suc k)) ∙ ap pos (sym (pow-add 10 s (suc k))) in
    same_back (shifted n (negsuc k)) (raised n s (s + suc k))
    (scaled-same (pos (10 ^ s)) (shifted n (negsuc k)) (raised n s (s + suc k)) (mul_comm_int (pos (10 ^ s)) n) power)

moved_by : (n : ℤ) (s a : ℕ) (b : Bool) → nat_le a s ≡ b → SameFraction (raised n s a) (shifted n (pos s -ℤ pos a))
moved_by n s a true e =
    let sum : a + (s - a) ≡ s = add-sub_of_le (leb-true a s e) in
    let away : pos (s - a) ≡ pos s -ℤ pos a = omega (arith, ints, sum) in
    subst (λ z. SameFraction (raised n s a) (shifted n z)) away (subst (λ z. SameFraction (raised n z a) (shifted n (pos (s - a)))) sum (up_by n (s - a) a))
moved_by n s a false e =
    let less : suc s ≤ a = omega (arith, leb-false a s e) in
    let parts : suc s + (a - suc s) ≡ a = add-sub_of_le less in
    let sum : s + suc (a - suc s) ≡ a = omega (arith, parts) in
    let away : negsuc (a - suc s) ≡ pos s -ℤ pos a = omega (arith, ints, parts) in
    subst (λ z. SameFraction (raised n s a) (shifted n z)) away
    (subst (λ z. SameFraction (raised n s z) (shifted n (negsuc (a - suc s)))) sum (down_by n (a - suc s) s))

same_worth : (negative : Bool) (d : Digits) (down : Bool) (size : ℕ) →
    SameFraction (fraction_of (moved negative d (record { is_negative = down; size = size }))) (shifted (signed negative d.value) (signed down size -ℤ pos d.after_point))
same_worth negative d false size =
    subst (λ z. SameFraction (record { num = z; den = pos (10 ^ d.after_point) }) (shifted (signed negative d.value) (pos size -ℤ pos d.after_point)))
    (sym (signed_times negative d.value (10 ^ size)))
    (moved_by (signed negative d.value) size d.after_point (nat_le d.after_point size) refl)
same_worth negative d true size =
    let n : ℤ = signed negative d.value in
    let a : ℕ = d.after_point + size in
    let away : pos 0 -ℤ pos a ≡ neg_ℤ (pos size) -ℤ pos d.after_point = omega (arith, ints) in
    let one : n *ℤ pos (10 ^ 0) ≡ n = omega (arith, ints) in
    subst (λ z. SameFraction (record { num = n; den = pos (10 ^ a) }) (shifted n z)) away
    (subst (λ z. SameFraction (record { num = z; den = pos (10 ^ a) }) (shifted n (pos 0 -ℤ pos a))) one (moved_by n 0 a (nat_le a 0) refl))

-- ---- the range

in_range : (d : Decimal) → 0 < d.bottom → IsLogNumber (value_of d) → is_in_range d ≡ true
in_range d h is =
    let x = fraction_of d in
    let g = shared x in
    let n : ℕ = unsigned_abs (lowest x).num in
    let m : ℕ = unsigned_abs (lowest x).den in
    let some : 0 < g = gcd-positive (unsigned_abs x.num) (unsigned_abs x.den) h in
    let top : g * n ≡ d.top = size_of g (lowest x).num x.num (lowest-num x) ∙ signed_size d.is_negative d.top in
    let bottom : g * m ≡ d.bottom = size_of g (lowest x).den x.den (lowest-den x) in
    let less : g * n < g * (10 ^ 15 * m) = mul-lt-mul_of_pos_left is.small some in
    let small : d.top < 10 ^ 15 * d.bottom = subst (λ z. z < 10 ^ 15 * d.bottom) top (subst (λ z. g * n < 10 ^ 15 * z) bottom (subst (λ z. g * n < z) (sym (turned (10 ^ 15) g m)) less)) in
    let divides : g * m ∣ g * (n * 10 ^ 18) = mul-dvd-mul_left m g (dvd-mul_left_of_dvd m is.few_decimals n) in
    let whole : d.bottom ∣ d.top * 10 ^ 18 =
    subst (λ z. z ∣ d.top * 10 ^ 18) bottom (subst (λ z. g * m ∣ z * 10 ^ 18) top (subst (λ z. g * m ∣ z) (assoc g n (10 ^ 18)) divides)) in
    λ i. lt-ltb d.top (10 ^ 15 * d.bottom) small i && eq-eqb ((d.top * 10 ^ 18) % d.bottom) 0 (mod-eq-zero_of_dvd d.bottom whole) i
  where
    assoc : (g n p : ℕ) → g * (n * p) ≡ (g * n) * p
    assoc g n p = omega arith

-- ---- the law

abbrev IsRead : List ℕ → Writing → Fraction → Type 0
IsRead text w v = IsLogNumber v × SameFraction v (worth w)

ok_value : (b : Bool) (x v : Fraction) → (if b then Ok x else Err Range) ≡ Ok v → x ≡ v
ok_value true x v e = ap (λ (r : Result Fraction NumFault). value_in r) e
  where
    value_in : Result Fraction NumFault → Fraction
    value_in (Ok v) = v
    value_in (Err e) = x
ok_value false x v e = absurd (let f : ⊥ = cc in f)

shifted_is : (n e : ℤ) → IsFraction (shifted n e)
shifted_is n (pos e) = omega (arith, ints)
shifted_is n (negsuc e) = let h = power-positive (suc e) in omega (arith, ints, h)

-- what is read of a writing, and what it is worth
pub record Means (text : List ℕ) (w : Writing) : Type 0 where
  pub decimal : Decimal
  pub reads : read_number text ≡ number_of (Some decimal)
  pub positive : 0 < decimal.bottom
  pub same : SameFraction (fraction_of decimal) (worth w)

pub means : (text : List ℕ) (w : Writing) → IsWriting text w → Means text w
means text w h =
    let s = scans text w h in
    let e : Exponent = record { is_negative = s.is_negative; size = s.size } in record {
      decimal = moved w.is_negative s.digits e;
      reads = ap number_of s.reads;
      positive = moved_bottom w.is_negative s.digits e;
      same = subst (λ (z : ℤ). SameFraction (fraction_of (moved w.is_negative s.digits e)) (shifted (signed w.is_negative (digits_value 10 (w.whole ++ w.decimals))) (z -ℤ pos (length w.decimals))))
          (sym s.exponent)
          (subst (λ z. SameFraction (fraction_of (moved w.is_negative s.digits e)) (shifted (signed w.is_negative (digits_value 10 (w.whole ++ w.decimals))) (signed s.is_negative s.size -ℤ pos z)))
          s.after_point
          (subst (λ z. SameFraction (fraction_of (moved w.is_negative s.digits e)) (shifted (signed w.is_negative z) (signed s.is_negative s.size -ℤ pos s.digits.after_point)))
          s.value (same_worth w.is_negative s.digits s.is_negative s.size)));
    }

-- a log number of this worth is the one that is read
is_value : (text : List ℕ) (w : Writing) (m : Means text w) (v : Fraction) → IsRead text w v → value_of m.decimal ≡ v
is_value text w m v (is, same) =
    let x = fraction_of m.decimal in
    let fraction : IsFraction x = omega (arith, ints, m.positive) in
    let there = shifted_is (signed w.is_negative (digits_value 10 (w.whole ++ w.decimals))) (w.exponent -ℤ pos (length w.decimals)) in
    same-lowest x (worth w) fraction there m.same ∙ sym (same-lowest v (worth w) is.lowest_terms.positive there same) ∙ is.lowest_terms.lowest_terms

pub forward : (text : List ℕ) (w : Writing) → IsWriting text w → (v : Fraction) → read_number text ≡ Ok v → IsRead text w v
forward text w h v e =
    let m = means text w h in
    let x = fraction_of m.decimal in
    let fraction : IsFraction x = omega (arith, ints, m.positive) in
    let there = shifted_is (signed w.is_negative (digits_value 10 (w.whole ++ w.decimals))) (w.exponent -ℤ pos (length w.decimals)) in
    let value : value_of m.decimal ≡ v = ok_value (is_in_range m.decimal) (value_of m.decimal) v (sym m.reads ∙ e) in
    (numbers_are text v e, subst (λ (z : Fraction). SameFraction z (worth w)) value (same-trans (lowest x) x (worth w) (lowest-IsFraction x fraction) fraction there (lowest-same x) m.same))

pub backward : (text : List ℕ) (w : Writing) → IsWriting text w → (v : Fraction) → IsRead text w v → read_number text ≡ Ok v
backward text w h v r =
    let m = means text w h in
    let value = is_value text w m v r in
    let range = in_range m.decimal m.positive (subst IsLogNumber (sym value) r.0) in
    m.reads ∙ ap (λ t. if t then Ok (value_of m.decimal) else Err Range) range ∙ ap Ok value

pub written_is_read : (text : List ℕ) (w : Writing) → IsWriting text w → (v : Fraction) → (read_number text ≡ Ok v) ↔ (IsLogNumber v × SameFraction v (worth w))
written_is_read text w h v = (forward text w h v, backward text w h v)

other : (d : Decimal) (text : List ℕ) → read_number text ≡ number_of (Some d) → ((v : Fraction) → read_number text ≡ Ok v → ⊥) → (b : Bool) →
    is_in_range d ≡ b → read_number text ≡ Err Range
other d text reads none true e = absurd (none (value_of d) (reads ∙ ap (λ t. if t then Ok (value_of d) else Err Range) e))
other d text reads none false e = reads ∙ ap (λ t. if t then Ok (value_of d) else Err Range) e

ok_no_err : (r : Result Fraction NumFault) (v : Fraction) (e : NumFault) → r ≡ Err e → r ≡ Ok v → ⊥
ok_no_err r v e a b = let c : Err e ≡ Ok v = sym a ∙ b in let f : ⊥ = cc in f

pub other_is_out : (text : List ℕ) (w : Writing) → IsWriting text w →
    (read_number text ≡ Err Range) ↔ ((v : Fraction) → IsLogNumber v → SameFraction v (worth w) → ⊥)
other_is_out text w h = (
  λ e v is same. ok_no_err (read_number text) v Range e (backward text w h v (is, same)),
  λ none. let m = means text w h in
      other m.decimal text m.reads (λ v e. let r = forward text w h v e in none v r.0 r.1) (is_in_range m.decimal) refl,
)
