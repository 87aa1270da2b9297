-- The literals of a model are small, and are read back.
use Rattle.std.proofs.Common.{◌≡◌, ℕ, zero, suc, ◌+◌, ◌*◌, ◌^◌, ◌<◌, ◌≤◌, Bool, true, false, ◌&&◌, not, if◌then◌else◌, List, [], ◌∷◌, ◌++◌, length, Result, Ok, Err, refl, sym, ◌∙◌, ap, subst, arith, ℤ, pos, negsuc}
use Rattle.std.specs.Prelude.{decimal, IfOk, nat_le, ◌==◌}
use Rattle.std.proofs.Math.Nat.{pow-le-pow_right, mul-le-mul_right}
use Rattle.std.proofs.lemmas.Bool.{le-leb, leb-true, ne_eqb, eqb-true}
use Rattle.std.proofs.lemmas.Fmt.{decimal_nonempty, length-decimal-le}
use Rattle.std.proofs.lemmas.Int.{ints}
use Rattle.std.proofs.lemmas.Nat.{pow-add}
use Rattle.poly_specs.proofs.LowestLemmas.{lowest-IsFraction, lowest-stays, lowest-no_larger}
use Rattle.poly_specs.specs.Fractions.{Fraction, IsFraction}
use Rattle.number_specs.proofs.LogNumberLemmas.{power-positive}
use Rattle.number_specs.proofs.NumeralLemmas.{IsBelowCount, numeral-below, numeral-decimal, numeral-decimal_alone}
use Rattle.number_specs.specs.Digits.{Numeral, numeral_of}
use Rattle.number_specs.specs.declared.NumFault.{NumFault}
use Rattle.number_specs.specs.declared.NumFault.TheVariants.{Form, Range}
use Rattle.number_specs.specs.FractionTexts.{fraction_text}
use Rattle.number_specs.specs.Literals.{ratio, is_numeral, whole_literal, divided_literal, decimal_literal, literal_with, literal_after, read_literal, IsLiteralNumber}

-- ---- what is read is small

pub ratio_is : (top bottom : ℕ) → 0 < bottom → top < 10 ^ 9 → bottom < 10 ^ 9 → IsLiteralNumber (ratio top bottom)
ratio_is top bottom some less few =
    let x : Fraction = record { num = pos top; den = pos bottom } in
    let is : IsFraction x = omega (arith, ints, some) in
    let small = lowest-no_larger x is in record {
      lowest_terms = record { positive = lowest-IsFraction x is; lowest_terms = lowest-stays x is };
      at_least_zero = omega (arith, ints);
      small_num = omega (arith, small.0, less);
      small_den = omega (arith, small.1, few);
    }

ok_where : (b : Bool) (v : Fraction) (e : NumFault) → (b ≡ true → IsLiteralNumber v) → IfOk (if b then Ok v else Err e) IsLiteralNumber
ok_where true v e h = h refl
ok_where false v e h = tt

guarded : (b : Bool) (r : Result Fraction NumFault) (e : NumFault) → (b ≡ true → IfOk r IsLiteralNumber) → IfOk (if b then r else Err e) IsLiteralNumber
guarded true r e h = h refl
guarded false r e h = tt

one_of : (b : Bool) (x y : Result Fraction NumFault) → IfOk x IsLiteralNumber → IfOk y IsLiteralNumber → IfOk (if b then x else y) IsLiteralNumber
one_of true x y h k = h
one_of false x y h k = k

both : (a b : Bool) → a && b ≡ true → (a ≡ true) × (b ≡ true)
both true b e = (refl, e)
both false b e = absurd (let f : ⊥ = cc in f)

-- a number of at most nine digits
nine : (n : Numeral) → IsBelowCount n → n.count ≤ 9 → n.value < 10 ^ 9
nine n h le = let most : 10 ^ n.count ≤ 10 ^ 9 = pow-le-pow_right {n = 10} (omega arith) le in omega (arith, h, most)

whole_is : (n : Numeral) → IsBelowCount n → IfOk (whole_literal n) IsLiteralNumber
whole_is n h = ok_where (nat_le n.count 9) (ratio n.value 1) Range (λ e. ratio_is n.value 1 (omega arith) (nine n h (leb-true n.count 9 e)) (omega arith))

some_value : (n : ℕ) → not (n == 0) ≡ true → 0 < n
some_value zero e = absurd (let f : ⊥ = cc in f)
some_value (suc n) e = omega arith

divided_is : (n d : Numeral) → IsBelowCount n → IsBelowCount d → IfOk (divided_literal n d) IsLiteralNumber
divided_is n d h k =
    guarded (is_numeral d && not (d.value == 0)) (if nat_le n.count 9 && nat_le d.count 9 then Ok (ratio n.value d.value) else Err Range) Form
    (λ e. ok_where (nat_le n.count 9 && nat_le d.count 9) (ratio n.value d.value) Range
    (λ f. let few = both (nat_le n.count 9) (nat_le d.count 9) f in
    ratio_is n.value d.value (some_value d.value (both (is_numeral d) (not (d.value == 0)) e).1)
    (nine n h (leb-true n.count 9 few.0)) (nine d k (leb-true d.count 9 few.1))))

next_times : (n x : ℕ) → (n + 1) * x ≡ n * x + x
next_times n x = omega arith

joined_below : (n d a b : ℕ) → n < 10 ^ a → d < 10 ^ b → a + b ≤ 9 → n * 10 ^ b + d < 10 ^ 9
joined_below n d a b hn hd l =
    let up : (n + 1) * 10 ^ b ≤ 10 ^ a * 10 ^ b = mul-le-mul_right (10 ^ b) (omega (arith, hn)) in
    let whole : 10 ^ a * 10 ^ b ≡ 10 ^ (a + b) = sym (pow-add 10 a b) in
    let most : 10 ^ (a + b) ≤ 10 ^ 9 = pow-le-pow_right {n = 10} (omega arith) l in
    omega (arith, up, whole, most, next_times n (10 ^ b), hd)

bottom_below : (b : ℕ) → b ≤ 8 → 10 ^ b < 10 ^ 9
bottom_below b l = let most : 10 ^ b ≤ 10 ^ 8 = pow-le-pow_right {n = 10} (omega arith) l in omega (arith, most)

decimal_is : (n d : Numeral) → 1 ≤ n.count → IsBelowCount n → IsBelowCount d → IfOk (decimal_literal n d) IsLiteralNumber
decimal_is n d some h k =
    guarded (is_numeral d) (if nat_le (n.count + d.count) 9 then Ok (ratio (n.value * 10 ^ d.count + d.value) (10 ^ d.count)) else Err Range) Form
    (λ e. ok_where (nat_le (n.count + d.count) 9) (ratio (n.value * 10 ^ d.count + d.value) (10 ^ d.count)) Range
    (λ f. let few = leb-true (n.count + d.count) 9 f in
    ratio_is (n.value * 10 ^ d.count + d.value) (10 ^ d.count) (power-positive d.count)
    (joined_below n.value d.value n.count d.count h k few) (bottom_below d.count (omega (arith, few, some)))))

with_is : (n : Numeral) (rest : List ℕ) → 1 ≤ n.count → IsBelowCount n → IfOk (literal_with n rest) IsLiteralNumber
with_is n [] some h = whole_is n h
with_is n (b ∷ bytes) some h =
    let d : IsBelowCount (numeral_of bytes) = numeral-below bytes 0 0 (omega arith) in
    one_of (b == 47) (divided_literal n (numeral_of bytes)) (if b == 46 then decimal_literal n (numeral_of bytes) else Err Form)
    (divided_is n (numeral_of bytes) h d)
    (one_of (b == 46) (decimal_literal n (numeral_of bytes)) (Err Form) (decimal_is n (numeral_of bytes) some h d) tt)

-- a literal that is read is small
pub literal_is : (text : List ℕ) → IfOk (read_literal text) IsLiteralNumber
literal_is text =
    let n = numeral_of text in
    guarded (nat_le 1 n.count) (literal_with n n.rest) Form (λ e. with_is n n.rest (leb-true 1 n.count e) (numeral-below text 0 0 (omega arith)))

ok_is : (r : Result Fraction NumFault) (v : Fraction) → r ≡ Ok v → IfOk r IsLiteralNumber → IsLiteralNumber v
ok_is r v e h = subst (λ s. IfOk s IsLiteralNumber) e h

pub literals_are : (text : List ℕ) (v : Fraction) → read_literal text ≡ Ok v → IsLiteralNumber v
literals_are text v e = ok_is (read_literal text) v e (literal_is text)

-- ---- what is written is read back

-- the two ends of a case
if_true : {A : Type 0} (b : Bool) (x y : A) → b ≡ true → (if b then x else y) ≡ x
if_true b x y e = ap (λ t. if t then x else y) e

-- a numeral alone
written_alone : (m c : ℕ) → 1 ≤ c → c ≤ 9 → literal_after (record { value = m; count = c; rest = [] }) ≡ Ok (ratio m 1)
written_alone m c some few = if_true (nat_le 1 c) _ _ (le-leb 1 c some) ∙ if_true (nat_le c 9) _ _ (le-leb c 9 few)

-- a numeral, `/` and a numeral
written_over : (m c d k : ℕ) (bytes : List ℕ) → 1 ≤ c → c ≤ 9 → 1 ≤ k → k ≤ 9 → 0 < d → numeral_of bytes ≡ record { value = d; count = k; rest = [] } →
    literal_after (record { value = m; count = c; rest = 47 ∷ bytes }) ≡ Ok (ratio m d)
written_over m c d k bytes some few some_too few_too dp is =
    let nonzero : not (d == 0) ≡ true = ap not (ne_eqb d 0 (λ e. omega arith)) in
    if_true (nat_le 1 c) _ _ (le-leb 1 c some)
    ∙ ap (divided_literal (record { value = m; count = c; rest = 47 ∷ bytes })) is
    ∙ if_true _ _ _ (λ i. (le-leb 1 k some_too i && true) && nonzero i)
    ∙ if_true _ _ _ (λ i. le-leb c 9 few i && le-leb k 9 few_too i)

length_nine : (n : ℕ) → n < 10 ^ 9 → (1 ≤ length (decimal n)) × (length (decimal n) ≤ 9)
length_nine n h = (omega (arith, decimal_nonempty n (omega (arith, h))), length-decimal-le 9 n (omega arith) h (omega (arith, h)))

ratio_back : (m d : ℕ) → m < 10 ^ 9 → d < 10 ^ 9 → 0 < d → (b : Bool) → d == 1 ≡ b → read_literal (decimal m ++ (if b then [] else 47 ∷ decimal d)) ≡ Ok (ratio m d)
ratio_back m d hm hd dp true e =
    let lm = length_nine m hm in
    let one : d ≡ 1 = eqb-true d 1 e in
    ap literal_after (numeral-decimal m [] (omega (arith, hm))) ∙ written_alone m (length (decimal m)) lm.0 lm.1 ∙ ap (λ z. Ok (ratio m z)) (sym one)
ratio_back m d hm hd dp false e =
    let lm = length_nine m hm in
    let ld = length_nine d hd in
    ap literal_after (numeral-decimal m (47 ∷ decimal d) (omega (arith, hm)))
    ∙ written_over m (length (decimal m)) d (length (decimal d)) (decimal d) lm.0 lm.1 ld.0 ld.1 dp (numeral-decimal_alone d (omega (arith, hd)))

back_at : (n d : ℤ) → IsLiteralNumber (record { num = n; den = d }) → read_literal (fraction_text (record { num = n; den = d })) ≡ Ok (record { num = n; den = d })
back_at (pos m) (pos d) h =
    let dp : 0 < d = omega (arith, ints, h.lowest_terms.positive) in
    ratio_back m d h.small_num h.small_den dp (d == 1) refl ∙ ap Ok h.lowest_terms.lowest_terms
back_at (pos m) (negsuc d) h = absurd (omega (arith, ints, h.lowest_terms.positive))
back_at (negsuc n) d h = absurd (omega (arith, ints, h.at_least_zero))

pub literals_back : (x : Fraction) → IsLiteralNumber x → read_literal (fraction_text x) ≡ Ok x
literals_back x h = back_at x.num x.den h
