-- The combination of two rows, divided.
use Rattle.std.proofs.Common.{◌||◌, ◌-ℤ◌, get_or, ◌≡◌, ℕ, zero, suc, ◌*◌, ◌/◌, ◌%◌, ◌<◌, ◌≤◌, max, List, [], ◌∷◌, ◌++◌, length, map, fold, refl, sym, ◌∙◌, ap, subst, arith, ℤ, pos, negsuc, ◌+ℤ◌, ◌*ℤ◌, ◌<ℤ◌, neg_ℤ, unsigned_abs, ◌↔◌}
use Rattle.std.proofs.Math.Nat.{one-dvd, mul-div_cancel'}
use Rattle.std.specs.Int.{IsGcd, ◌∣◌}
use Rattle.std.specs.Prelude.{int_div}
use Rattle.std.specs.List.{AllByRecursion}
use Rattle.std.proofs.lemmas.Int.{ints}
use Rattle.std.proofs.lemmas.Nat.Gcd.{IsGcd-from_zero, IsGcd-from_mod, dvd_trans, dvd_refl}
use Rattle.poly_specs.proofs.IntLemmas.{products, expand, mul_neg}
use Rattle.poly_specs.proofs.LinearLemmas.{Allows-scaled}
use Rattle.poly_specs.proofs.ProjectionLemmas.{value-mix, Holds-times, Holds-mix, rest}
use Rattle.poly_specs.specs.Elimination.{gcd_steps, gcd, numbers, divisor, divided, times, lower_factor, upper_factor, raw_combination, combination}
use Rattle.poly_specs.specs.Rows.{Point, Row, row_value, Allows, Holds, coef_at}

gcd_steps-IsGcd : (n a b : ℕ) → b ≤ n → IsGcd a b (gcd_steps n a b)
gcd_steps-IsGcd zero a b h = IsGcd-from_zero a b (omega arith)
gcd_steps-IsGcd (suc n) a zero h = IsGcd-from_zero a zero refl
gcd_steps-IsGcd (suc n) a (suc b) h =
    IsGcd-from_mod a (suc b) _ (gcd_steps-IsGcd n (suc b) (a % suc b) (omega arith))

pub gcd-IsGcd : (a b : ℕ) → IsGcd a b (gcd a b)
unfolding gcd
gcd-IsGcd a b = gcd_steps-IsGcd b a b (omega arith)

-- it computes
gcd_small : gcd 1180591620717411303424 3072 ≡ 1024
unfolding gcd
gcd_small = refl

pub fold_divides : (g : ℕ) (zs : List ℤ) →
    (fold (λ h z. gcd h (unsigned_abs z)) g zs ∣ g) × AllByRecursion (λ z. fold (λ h y. gcd h (unsigned_abs y)) g zs ∣ unsigned_abs z) zs
fold_divides g [] = (dvd_refl g, tt)
fold_divides g (z ∷ zs) =
    let rest = fold_divides (gcd g (unsigned_abs z)) zs in
    let this = gcd-IsGcd g (unsigned_abs z) in
    (dvd_trans _ rest.0 this.0, (dvd_trans _ rest.0 this.1, rest.1))

-- the divisor divides each number, and is positive
divides_each : (g : ℕ) (zs : List ℤ) → AllByRecursion (λ z. g ∣ unsigned_abs z) zs → AllByRecursion (λ z. max 1 g ∣ unsigned_abs z) zs
divides_each g [] h = tt
divides_each zero (z ∷ zs) h = (one-dvd (unsigned_abs z), divides_each zero zs h.1)
divides_each (suc g) (z ∷ zs) h =
    let e : max 1 (suc g) ≡ suc g = omega arith in (subst (λ k. k ∣ unsigned_abs z) (sym e) h.0, divides_each (suc g) zs h.1)

pub divisor-pos : (r : Row) → 0 < divisor r
unfolding divisor
divisor-pos r = omega arith

pub divisor-divides : (r : Row) → AllByRecursion (λ z. divisor r ∣ unsigned_abs z) (numbers r)
unfolding divisor
divisor-divides r = divides_each _ (numbers r) (fold_divides 0 (numbers r)).1

-- an exact division
pub exact : (g : ℕ) (z : ℤ) → g ∣ unsigned_abs z → pos g *ℤ int_div z (pos g) ≡ z
exact g (pos n) h = let e : g * (n / g) ≡ n = mul-div_cancel' g h in ap pos e
exact g (negsuc n) h = let e : g * (suc n / g) ≡ suc n = mul-div_cancel' g h in mul_neg (pos g) (pos (suc n / g)) ∙ ap (λ (m : ℕ). neg_ℤ (pos m)) e

exact_all : (g : ℕ) (zs : List ℤ) (y : ℤ) → AllByRecursion (λ z. g ∣ unsigned_abs z) (zs ++ y ∷ []) →
    (map (λ z. pos g *ℤ z) (map (λ z. int_div z (pos g)) zs) ≡ zs) × (pos g *ℤ int_div y (pos g) ≡ y)
exact_all g [] y h = (refl, exact g y h.0)
exact_all g (z ∷ zs) y h =
    let rest = exact_all g zs y h.1 in
    let here = exact g z h.0 in
    let all : map (λ z. pos g *ℤ z) (map (λ z. int_div z (pos g)) zs) ≡ zs = rest.0 in
    (ap (λ x. x ∷ map (λ z. pos g *ℤ z) (map (λ z. int_div z (pos g)) zs)) here ∙ ap (λ xs. z ∷ xs) all, rest.1)

pub times-divided : (r : Row) → times (pos (divisor r)) (divided r) ≡ r
unfolding divided
times-divided r =
    let e = exact_all (divisor r) r.coef r.cst (divisor-divides r) in
    λ i. record { coef = e.0 i; cst = e.1 i; strict = r.strict }

-- a row and the divided row hold alike
pub Holds-divided : (r : Row) (p : Point) → Holds r p ↔ Holds (divided r) p
Holds-divided r p =
    let both = Holds-times (divisor r) (divided r) p (divisor-pos r) in (
      λ h. both.1 (subst (λ s. Holds s p) (sym (times-divided r)) h),
      λ h. subst (λ s. Holds s p) (times-divided r) (both.0 h),
    )

-- ---- the factors

abs_below : (z : ℤ) → z <ℤ pos 0 → 0 < unsigned_abs z
abs_below (pos n) h = absurd (omega (arith, ints))
abs_below (negsuc n) h = omega arith

abs_above : (z : ℤ) → pos 0 <ℤ z → 0 < unsigned_abs z
abs_above (pos n) h = omega (arith, ints)
abs_above (negsuc n) h = absurd (omega (arith, ints))

pub negative : (z : ℤ) → z <ℤ pos 0 → z ≡ neg_ℤ (pos (unsigned_abs z))
negative (pos n) h = absurd (omega (arith, ints))
negative (negsuc n) h = refl

pub positive : (z : ℤ) → pos 0 <ℤ z → z ≡ pos (unsigned_abs z)
positive (pos n) h = refl
positive (negsuc n) h = absurd (omega (arith, ints))

pub abs_lower : (x : ℕ) (r : Row) → coef_at x r <ℤ pos 0 → 0 < unsigned_abs (coef_at x r)
abs_lower x r h = abs_below (coef_at x r) h

pub abs_upper : (x : ℕ) (r : Row) → pos 0 <ℤ coef_at x r → 0 < unsigned_abs (coef_at x r)
abs_upper x r h = abs_above (coef_at x r) h

second_factor : (g k b : ℕ) → g * k ≡ b → 0 < b → 0 < k
second_factor g zero b e h = absurd (omega (arith, e))
second_factor g (suc k) b e h = omega arith

first_factor : (g k b : ℕ) → g * k ≡ b → 0 < b → 0 < g
first_factor zero k b e h = absurd (omega (arith, e))
first_factor (suc g) k b e h = omega arith

-- the combination holds where both rows do
pub combination_sound : (x : ℕ) (lower upper : Row) (p : Point) → length lower.coef ≡ length upper.coef →
    coef_at x lower <ℤ pos 0 → pos 0 <ℤ coef_at x upper → Holds lower p → Holds upper p → Holds (combination x lower upper) p
combination_sound x lower upper p e l u h g =
    let a : ℕ = unsigned_abs (coef_at x lower) in
    let b : ℕ = unsigned_abs (coef_at x upper) in
    let d = gcd-IsGcd a b in
    let hk : 0 < lower_factor x lower upper = second_factor (gcd a b) _ b (mul-div_cancel' (gcd a b) d.1) (abs_upper x upper u) in
    let hm : 0 < upper_factor x lower upper = second_factor (gcd a b) _ a (mul-div_cancel' (gcd a b) d.0) (abs_lower x lower l) in
    (Holds-divided (raw_combination x lower upper) p).0
    (Holds-mix (lower_factor x lower upper) (upper_factor x lower upper) lower upper p e hk hm h g)

without_n : (a b v u n : ℤ) → b *ℤ v +ℤ a *ℤ u ≡ b *ℤ (v -ℤ neg_ℤ a *ℤ n) +ℤ a *ℤ (u -ℤ b *ℤ n)
without_n a b v u n = simp expand (omega (arith, products))

divided_mix : (a b g k m : ℕ) (v u : ℤ) → g * m ≡ a → g * k ≡ b → pos g *ℤ (pos k *ℤ v +ℤ pos m *ℤ u) ≡ pos b *ℤ v +ℤ pos a *ℤ u
divided_mix a b g k m v u ea eb = rw (← ea, ← eb) (simp expand (omega (arith, products)))

mixed_rest : (a b g k m : ℕ) (c d v u n : ℤ) → c ≡ neg_ℤ (pos a) → d ≡ pos b → g * m ≡ a → g * k ≡ b →
    pos g *ℤ (pos k *ℤ v +ℤ pos m *ℤ u) ≡ pos b *ℤ (v -ℤ c *ℤ n) +ℤ pos a *ℤ (u -ℤ d *ℤ n)
mixed_rest a b g k m c d v u n ec ed ea eb = divided_mix a b g k m v u ea eb ∙ rw (ec, ed) (without_n (pos a) (pos b) v u n)

-- what the combination says of the two rows without x
pub combination_rest : (x : ℕ) (lower upper : Row) (p : Point) → length lower.coef ≡ length upper.coef →
    coef_at x lower <ℤ pos 0 → pos 0 <ℤ coef_at x upper → Holds (combination x lower upper) p →
    Allows (lower.strict || upper.strict)
    (pos (unsigned_abs (coef_at x upper)) *ℤ rest x lower p +ℤ pos (unsigned_abs (coef_at x lower)) *ℤ rest x upper p)
combination_rest x lower upper p e l u h =
    let a : ℕ = unsigned_abs (coef_at x lower) in
    let b : ℕ = unsigned_abs (coef_at x upper) in
    let k : ℕ = lower_factor x lower upper in
    let m : ℕ = upper_factor x lower upper in
    let d = gcd-IsGcd a b in
    let ea : gcd a b * m ≡ a = mul-div_cancel' (gcd a b) d.0 in
    let eb : gcd a b * k ≡ b = mul-div_cancel' (gcd a b) d.1 in
    let raw : Allows (lower.strict || upper.strict) (pos k *ℤ row_value lower p +ℤ pos m *ℤ row_value upper p) =
    subst (Allows (lower.strict || upper.strict)) (value-mix k m lower upper p e) ((Holds-divided (raw_combination x lower upper) p).1 h) in
    subst (Allows (lower.strict || upper.strict))
    (mixed_rest a b (gcd a b) k m (coef_at x lower) (coef_at x upper) (row_value lower p) (row_value upper p) (get_or p.num x (pos 0))
    (negative (coef_at x lower) l) (positive (coef_at x upper) u) ea eb)
    (Allows-scaled (lower.strict || upper.strict) (gcd a b) _ (first_factor (gcd a b) m a ea (abs_lower x lower l)) raw)
