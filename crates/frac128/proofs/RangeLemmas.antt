-- The value of a decimal number, and whether it is in range: a common factor does not matter, and zeros at the end tell the decimals.
use Rattle.std.proofs.Common.{◌≡◌, ⊎_elim, ℕ, zero, suc, ◌+◌, ◌-◌, ◌*◌, ◌/◌, ◌%◌, ◌^◌, ◌<◌, ◌≤◌, Bool, true, false, ◌&&◌, if◌then◌else◌, Some, Ok, Err, refl, sym, ◌∙◌, ap, ap₂, subst, arith, pos, neg_ℤ, ◌*ℤ◌, mod-lt, div-add-mod', mul-lt-mul_of_pos_right, zero-mul, one-mul, mul-le-mul_right}
use Rattle.std.specs.Prelude.{nat_lt, ◌==◌}
use Rattle.std.proofs.Math.Nat.{mul-add-mod_self_right, mod-eq_of_lt, mul-mod_left, pow-le-pow_right, lt_of_mul-lt-mul_right}
use Rattle.std.proofs.lemmas.Bool.{cases_Bool, lt-ltb, ltb-true, eq-eqb, eqb-true}
use Rattle.std.proofs.lemmas.Int.{ints}
use Rattle.std.proofs.lemmas.Nat.{pow-add}
use Rattle.poly_specs.proofs.LowestLemmas.{same-lowest, scaled-same}
use Rattle.poly_specs.specs.Arithmetic.{lowest}
use Rattle.poly_specs.specs.Fractions.{Fraction, IsFraction}
use Rattle.number_specs.specs.LogNumbers.{Decimal, is_in_range, signed, value_of, number_of}
use Rattle.number_specs.specs.declared.NumFault.TheVariants.{Range}
use Rattle.frac128.specs.Readings.{IsStripped}

-- ---- powers of ten

pub power-positive : (n : ℕ) → 0 < 10 ^ n
power-positive zero = omega arith
power-positive (suc n) = let h = power-positive n in omega (arith, h)

pub powers : (i j : ℕ) → i ≤ j → 10 ^ i ≤ 10 ^ j
powers i j h = pow-le-pow_right {n = 10} (omega arith) h

-- a greater power, split
split_power : (a b n : ℕ) → a + b ≡ n → 10 ^ n ≡ 10 ^ a * 10 ^ b
split_power a b n e = ap (λ k. 10 ^ k) (sym e) ∙ pow-add 10 a b

assoc : (a b c : ℕ) → a * b * c ≡ a * (b * c)
assoc a b c = omega arith

swapped : (a b c : ℕ) → a * b * c ≡ a * c * b
swapped a b c = omega arith

-- ---- tests

same_test : (x y : Bool) → (x ≡ true → y ≡ true) → (y ≡ true → x ≡ true) → x ≡ y
same_test true y f g = sym (f refl)
same_test false true f g = g refl
same_test false false f g = refl

less_scaled : (a b c : ℕ) → 0 < c → nat_lt (a * c) (b * c) ≡ nat_lt a b
less_scaled a b c h = same_test (nat_lt (a * c) (b * c)) (nat_lt a b)
    (λ e. lt-ltb a b (lt_of_mul-lt-mul_right c (ltb-true (a * c) (b * c) e)))
    (λ e. lt-ltb (a * c) (b * c) (mul-lt-mul_of_pos_right (ltb-true a b e) h))

zero_product : (x c : ℕ) → 0 < c → x * c ≡ 0 → x ≡ 0
zero_product zero c h e = refl
zero_product (suc x) c h e = absurd (omega (arith, h, e))

zero_scaled : (x c : ℕ) → 0 < c → (x * c == 0) ≡ (x == 0)
zero_scaled x c h = same_test (x * c == 0) (x == 0)
    (λ e. eq-eqb x 0 (zero_product x c h (eqb-true (x * c) 0 e)))
    (λ e. eq-eqb (x * c) 0 (ap (λ z. z * c) (eqb-true x 0 e) ∙ zero-mul c))

scaled_mod : (a b c : ℕ) → 0 < b → 0 < c → (a * c) % (b * c) ≡ (a % b) * c
scaled_mod a b c bp cp =
    let split : (a / b) * (b * c) + (a % b) * c ≡ a * c = regroup (a / b) b c (a % b) (ap (λ x. x * c) (div-add-mod' a b)) in
    let small : (a % b) * c < b * c = mul-lt-mul_of_pos_right (mod-lt a bp) cp in
    ap (λ x. x % (b * c)) (sym split) ∙ mul-add-mod_self_right (a / b) (b * c) ((a % b) * c) ∙ mod-eq_of_lt small
  where
    regroup : (q b c r : ℕ) {s : ℕ} → (q * b + r) * c ≡ s → q * (b * c) + r * c ≡ s
    regroup q b c r e = omega arith

-- ---- a common factor

times_signed : (negative : Bool) (c t : ℕ) → pos c *ℤ signed negative t ≡ signed negative (t * c)
times_signed false c t = omega (arith, ints)
times_signed true c zero = let none : c * 0 ≡ 0 = omega arith in let same : 0 * c ≡ 0 = zero-mul c in ap pos none ∙ ap (λ n. neg_ℤ (pos n)) (sym same)
times_signed true c (suc t) = omega (arith, ints)

value_common : (negative : Bool) (t b c : ℕ) → 0 < b → 0 < c →
    value_of (record { is_negative = negative; top = t * c; bottom = b * c }) ≡ value_of (record { is_negative = negative; top = t; bottom = b })
value_common negative t b c bp cp =
    let x : Fraction = record { num = signed negative t; den = pos b } in
    let y : Fraction = record { num = signed negative (t * c); den = pos (b * c) } in
    let some : 0 * c < b * c = mul-lt-mul_of_pos_right bp cp in
    let hx : IsFraction x = omega (arith, ints, bp) in
    let hy : IsFraction y = omega (arith, ints, some) in
    sym (same-lowest x y hx hy (scaled-same (pos c) x y (times_signed negative c t) (times_signed false c b)))

pub number_common : (negative : Bool) (t b c : ℕ) → 0 < b → 0 < c →
    number_of (Some (record { is_negative = negative; top = t * c; bottom = b * c })) ≡ number_of (Some (record { is_negative = negative; top = t; bottom = b }))
number_common negative t b c bp cp =
    let less : nat_lt (t * c) (10 ^ 15 * (b * c)) ≡ nat_lt t (10 ^ 15 * b) =
    ap (λ z. nat_lt (t * c) z) (sym (assoc (10 ^ 15) b c)) ∙ less_scaled t (10 ^ 15 * b) c cp in
    let whole : ((t * c * 10 ^ 18) % (b * c) == 0) ≡ ((t * 10 ^ 18) % b == 0) =
    ap (λ z. z % (b * c) == 0) (swapped t c (10 ^ 18)) ∙ ap (λ z. z == 0) (scaled_mod (t * 10 ^ 18) b c bp cp) ∙ zero_scaled ((t * 10 ^ 18) % b) c cp in
    let value = value_common negative t b c bp cp in
    λ i. if less i && whole i then Ok (value i) else Err Range

-- ---- the tests decide

in_range : (d : Decimal) → is_in_range d ≡ true → number_of (Some d) ≡ Ok (value_of d)
in_range d e = ap (λ t. if t then Ok (value_of d) else Err Range) e

out_of_range : (d : Decimal) → (is_in_range d ≡ true → ⊥) → number_of (Some d) ≡ Err Range
out_of_range d h = ⊎_elim (λ e. absurd (h e)) (λ e. ap (λ t. if t then Ok (value_of d) else Err Range) e) (cases_Bool (is_in_range d))

both : (a b : Bool) → a && b ≡ true → (a ≡ true) × (b ≡ true)
both true b e = (refl, e)
both false b e = absurd (let f : ⊥ = cc in f)

is_small : (d : Decimal) → is_in_range d ≡ true → d.top < 10 ^ 15 * d.bottom
is_small d e = ltb-true d.top (10 ^ 15 * d.bottom) (both (nat_lt d.top (10 ^ 15 * d.bottom)) ((d.top * 10 ^ 18) % d.bottom == 0) e).0

is_whole : (d : Decimal) → is_in_range d ≡ true → (d.top * 10 ^ 18) % d.bottom ≡ 0
is_whole d e = eqb-true ((d.top * 10 ^ 18) % d.bottom) 0 (both (nat_lt d.top (10 ^ 15 * d.bottom)) ((d.top * 10 ^ 18) % d.bottom == 0) e).1

ranged : (d : Decimal) → d.top < 10 ^ 15 * d.bottom → (d.top * 10 ^ 18) % d.bottom ≡ 0 → number_of (Some d) ≡ Ok (value_of d)
ranged d h e = in_range d (λ i. lt-ltb d.top (10 ^ 15 * d.bottom) h i && eq-eqb ((d.top * 10 ^ 18) % d.bottom) 0 e i)

-- ---- 0

pub number_zero : (negative : Bool) (up down : ℕ) →
    number_of (Some (record { is_negative = negative; top = 0 * 10 ^ up; bottom = 10 ^ down })) ≡ Ok (lowest (record { num = pos 0; den = pos 1 }))
number_zero negative up down =
    let some = power-positive down in
    ap (λ t. number_of (Some (record { is_negative = negative; top = t; bottom = 10 ^ down }))) (zero-mul (10 ^ up))
    ∙ ranged (record { is_negative = negative; top = 0; bottom = 10 ^ down }) (omega (arith, some)) (mod-eq_of_lt some)
    ∙ ap Ok (value negative)
  where
    value : (negative : Bool) → value_of (record { is_negative = negative; top = 0; bottom = 10 ^ down }) ≡ lowest (record { num = pos 0; den = pos 1 })
    value true = let h = power-positive down in
        same-lowest (record { num = pos 0; den = pos (10 ^ down) }) (record { num = pos 0; den = pos 1 }) (omega (arith, ints, h)) (omega (arith, ints)) (omega (arith, ints))
    value false = let h = power-positive down in
        same-lowest (record { num = pos 0; den = pos (10 ^ down) }) (record { num = pos 0; den = pos 1 }) (omega (arith, ints, h)) (omega (arith, ints)) (omega (arith, ints))

-- ---- a whole number

pub whole_small : (m zeros : ℕ) → zeros < 15 → m < 10 ^ (15 - zeros) → m * 10 ^ zeros < 10 ^ 15
whole_small m zeros le h =
    let e : 10 ^ 15 ≡ 10 ^ (15 - zeros) * 10 ^ zeros = split_power (15 - zeros) zeros 15 (omega arith) in
    subst (λ z. m * 10 ^ zeros < z) (sym e) (mul-lt-mul_of_pos_right h (power-positive zeros))

pub whole_ranged : (negative : Bool) (m zeros : ℕ) → zeros < 15 → m < 10 ^ (15 - zeros) →
    number_of (Some (record { is_negative = negative; top = m * 10 ^ zeros; bottom = 1 })) ≡ Ok (lowest (record { num = signed negative (m * 10 ^ zeros); den = pos 1 }))
whole_ranged negative m zeros le h =
    let small = whole_small m zeros le h in
    ranged (record { is_negative = negative; top = m * 10 ^ zeros; bottom = 1 }) (omega (arith, small)) (omega arith)

whole_out : (negative : Bool) (t : ℕ) → 10 ^ 15 ≤ t → number_of (Some (record { is_negative = negative; top = t; bottom = 1 })) ≡ Err Range
whole_out negative t h =
    let d : Decimal = record { is_negative = negative; top = t; bottom = 1 } in
    out_of_range d (λ e. let less = is_small d e in omega (arith, less, h))

pub whole_large : (negative : Bool) (m zeros : ℕ) → zeros < 15 → 10 ^ (15 - zeros) ≤ m →
    number_of (Some (record { is_negative = negative; top = m * 10 ^ zeros; bottom = 1 })) ≡ Err Range
whole_large negative m zeros le h =
    let e : 10 ^ 15 ≡ 10 ^ (15 - zeros) * 10 ^ zeros = split_power (15 - zeros) zeros 15 (omega arith) in
    whole_out negative (m * 10 ^ zeros) (subst (λ z. z ≤ m * 10 ^ zeros) (sym e) (mul-le-mul_right (10 ^ zeros) h))

pub whole_long : (negative : Bool) (m zeros : ℕ) → 15 ≤ zeros → 0 < m →
    number_of (Some (record { is_negative = negative; top = m * 10 ^ zeros; bottom = 1 })) ≡ Err Range
whole_long negative m zeros lt some =
    let most : 10 ^ 15 ≤ 10 ^ zeros = pow-le-pow_right {n = 10} (omega arith) lt in
    let more : 1 * 10 ^ zeros ≤ m * 10 ^ zeros = mul-le-mul_right (10 ^ zeros) some in
    whole_out negative (m * 10 ^ zeros) (omega (arith, most, more))

-- ---- decimals

ends_in_zero : (m r : ℕ) → m % 10 ^ suc r ≡ 0 → m % 10 ≡ 0
ends_in_zero m r e =
    let p : 10 ^ suc r ≡ 10 ^ r * 10 = omega arith in
    let back : (m / 10 ^ suc r) * 10 ^ suc r ≡ m = let d = div-add-mod' m (10 ^ suc r) in omega (arith, d, e) in
    ap (λ z. z % 10) (sym back ∙ ap (λ z. (m / 10 ^ suc r) * z) p ∙ sym (assoc (m / 10 ^ suc r) (10 ^ r) 10))
    ∙ mul-mod_left ((m / 10 ^ suc r) * 10 ^ r) 10

not_whole : (m i r : ℕ) → IsStripped m → 0 < m → (m * 10 ^ i) % 10 ^ (suc r + i) ≡ 0 → ⊥
not_whole m i r stripped some e =
    let scaled : (m % 10 ^ suc r) * 10 ^ i ≡ 0 =
    sym (ap (λ z. (m * 10 ^ i) % z) (pow-add 10 (suc r) i) ∙ scaled_mod m (10 ^ suc r) (10 ^ i) (power-positive (suc r)) (power-positive i)) ∙ e in
    let none : m ≡ 0 = stripped (ends_in_zero m r (zero_product (m % 10 ^ suc r) (10 ^ i) (power-positive i) scaled)) in
    omega (arith, none, some)

-- a number without a zero at its end needs each of its decimals
few_decimals : (m i q : ℕ) → IsStripped m → 0 < m → (m * 10 ^ i) % 10 ^ q ≡ 0 → q ≤ i
few_decimals m i q stripped some e = by (q - i) refl
  where
    by : (r : ℕ) → q - i ≡ r → q ≤ i
    by zero f = omega (arith, f)
    by (suc r) f =
        let same : q ≡ suc r + i = omega (arith, f) in
        absurd (not_whole m i r stripped some (subst (λ z. (m * 10 ^ i) % 10 ^ z ≡ 0) same e))

pub decimal_ranged : (negative : Bool) (m decimals : ℕ) → decimals ≤ 18 → m < 10 ^ (15 + decimals) →
    number_of (Some (record { is_negative = negative; top = m; bottom = 10 ^ decimals })) ≡ Ok (lowest (record { num = signed negative m; den = pos (10 ^ decimals) }))
decimal_ranged negative m decimals le h =
    let e : 10 ^ 18 ≡ 10 ^ (18 - decimals) * 10 ^ decimals = split_power (18 - decimals) decimals 18 (omega arith) in
    ranged (record { is_negative = negative; top = m; bottom = 10 ^ decimals }) (subst (λ z. m < z) (pow-add 10 15 decimals) h)
    (ap (λ z. z % 10 ^ decimals) (ap (λ z. m * z) e ∙ sym (assoc m (10 ^ (18 - decimals)) (10 ^ decimals))) ∙ mul-mod_left (m * 10 ^ (18 - decimals)) (10 ^ decimals))

pub decimal_large : (negative : Bool) (m decimals : ℕ) → 10 ^ (15 + decimals) ≤ m →
    number_of (Some (record { is_negative = negative; top = m; bottom = 10 ^ decimals })) ≡ Err Range
decimal_large negative m decimals h =
    let d : Decimal = record { is_negative = negative; top = m; bottom = 10 ^ decimals } in
    let e : 10 ^ (15 + decimals) ≡ 10 ^ 15 * 10 ^ decimals = pow-add 10 15 decimals in
    out_of_range d (λ f. let less : m < 10 ^ 15 * 10 ^ decimals = is_small d f in omega (arith, less, h, e))

pub decimal_fine : (negative : Bool) (m decimals : ℕ) → IsStripped m → 0 < m → 18 < decimals →
    number_of (Some (record { is_negative = negative; top = m; bottom = 10 ^ decimals })) ≡ Err Range
decimal_fine negative m decimals stripped some h =
    let d : Decimal = record { is_negative = negative; top = m; bottom = 10 ^ decimals } in
    out_of_range d (λ f. let few = few_decimals m 18 decimals stripped some (is_whole d f) in omega (arith, few, h))

-- ---- a number with too many digits

too_large : (m p q : ℕ) → 10 ^ 33 ≤ m → q ≤ p + 18 → m * 10 ^ p < 10 ^ 15 * 10 ^ q → ⊥
too_large m p q big le less =
    let up : 10 ^ q ≤ 10 ^ (p + 18) = pow-le-pow_right {n = 10} (omega arith) le in
    let split : 10 ^ (p + 18) ≡ 10 ^ p * 10 ^ 18 = pow-add 10 p 18 in
    let most : 10 ^ 33 * 10 ^ p ≤ m * 10 ^ p = mul-le-mul_right (10 ^ p) big in
    omega (arith, up, split, most, less)

pub number_long : (negative : Bool) (m p q : ℕ) → IsStripped m → 10 ^ 33 ≤ m →
    number_of (Some (record { is_negative = negative; top = m * 10 ^ p; bottom = 10 ^ q })) ≡ Err Range
number_long negative m p q stripped big =
    let d : Decimal = record { is_negative = negative; top = m * 10 ^ p; bottom = 10 ^ q } in
    let joined : m * 10 ^ p * 10 ^ 18 ≡ m * 10 ^ (p + 18) = assoc m (10 ^ p) (10 ^ 18) ∙ ap (λ z. m * z) (sym (pow-add 10 p 18)) in
    out_of_range d (λ f. too_large m p q big (few_decimals m (p + 18) q stripped (omega (arith, big)) (ap (λ z. z % 10 ^ q) (sym joined) ∙ is_whole d f)) (is_small d f))

-- ---- the point moves to one side

pub number_up : (negative : Bool) (m up down : ℕ) → down ≤ up →
    number_of (Some (record { is_negative = negative; top = m * 10 ^ (up - down); bottom = 1 })) ≡ number_of (Some (record { is_negative = negative; top = m * 10 ^ up; bottom = 10 ^ down }))
number_up negative m up down le =
    let top : m * 10 ^ (up - down) * 10 ^ down ≡ m * 10 ^ up =
    assoc m (10 ^ (up - down)) (10 ^ down) ∙ ap (λ z. m * z) (sym (split_power (up - down) down up (omega arith))) in
    sym (number_common negative (m * 10 ^ (up - down)) 1 (10 ^ down) (omega arith) (power-positive down))
    ∙ ap₂ (λ t b. number_of (Some (record { is_negative = negative; top = t; bottom = b }))) top (one-mul (10 ^ down))

pub number_down : (negative : Bool) (m up down : ℕ) → up ≤ down →
    number_of (Some (record { is_negative = negative; top = m; bottom = 10 ^ (down - up) })) ≡ number_of (Some (record { is_negative = negative; top = m * 10 ^ up; bottom = 10 ^ down }))
number_down negative m up down le =
    sym (number_common negative m (10 ^ (down - up)) (10 ^ up) (power-positive (down - up)) (power-positive up))
    ∙ ap (λ b. number_of (Some (record { is_negative = negative; top = m * 10 ^ up; bottom = b }))) (sym (split_power (down - up) up down (omega arith)))
