-- The greatest common divisor: the steps of Euclid's algorithm, multiples, and numbers that share no factor.
use Rattle.std.proofs.Common.{◌≡◌, ℕ, zero, suc, ◌+◌, ◌*◌, ◌/◌, ◌%◌, ◌<◌, refl, sym, ap, ◌∙◌, subst, arith, mod-lt, div-add-mod', one-mul, zero-mul, mul-lt-mul_of_pos_right}
use Rattle.std.proofs.Math.Nat.{dvd-mul_right, dvd-mod_iff, mul-add-mod_self_right, mod-eq_of_lt, eq_of_mul-eq-mul_right, pos_of_dvd_of_pos}
use Rattle.std.proofs.lemmas.Nat.Gcd.{same_from_IsGcd, IsGcd-from_mod, IsGcd-from_zero, IsGcd-swap}
use Rattle.std.specs.Int.{IsGcd, ◌∣◌}
use Rattle.poly_specs.proofs.CombinationLemmas.{gcd-IsGcd}
use Rattle.poly_specs.specs.Elimination.{gcd}

pub gcd-is : (a b g : ℕ) → IsGcd a b g → gcd a b ≡ g
gcd-is a b g h = same_from_IsGcd a b (gcd a b) g (gcd-IsGcd a b) h

pub gcd-zero : (a b : ℕ) → b ≡ 0 → gcd a b ≡ a
gcd-zero a b e = gcd-is a b a (IsGcd-from_zero a b e)

-- one step
pub gcd-mod : (a b : ℕ) → gcd b (a % b) ≡ gcd a b
gcd-mod a b = sym (gcd-is a b _ (IsGcd-from_mod a b _ (gcd-IsGcd b (a % b))))

pub gcd-swap : (a b : ℕ) → gcd a b ≡ gcd b a
gcd-swap a b = gcd-is a b _ (IsGcd-swap b a _ (gcd-IsGcd b a))

pub gcd-positive : (a b : ℕ) → 0 < b → 0 < gcd a b
gcd-positive a b h = pos_of_dvd_of_pos (gcd-IsGcd a b).1 h

-- one step back
IsGcd-to_mod : (a b g : ℕ) → IsGcd a b g → IsGcd b (a % b) g
IsGcd-to_mod a b g h = (h.1, (dvd-mod_iff g h.1).1 h.0, λ d p q. h.2 d ((dvd-mod_iff d p).0 q) p)

scaled_mod : (a b c : ℕ) → 0 < b → 0 < c → (a * c) % (b * c) ≡ (a % b) * c
scaled_mod a b c bp cp =
    let q = a / b in
    let r = a % b in
    let split : q * (b * c) + r * c ≡ a * c = let e = ap (λ x. x * c) (div-add-mod' a b) in regroup q b c r e in
    let small : r * c < b * c = mul-lt-mul_of_pos_right (mod-lt a bp) cp in
    ap (λ x. x % (b * c)) (sym split) ∙ mul-add-mod_self_right q (b * c) (r * c) ∙ mod-eq_of_lt small
  where
    regroup : (q b c r : ℕ) {s : ℕ} → (q * b + r) * c ≡ s → q * (b * c) + r * c ≡ s
    regroup q b c r e = omega arith

IsGcd-scaled : (n a b g c : ℕ) → b < n → 0 < c → IsGcd a b g → IsGcd (a * c) (b * c) (g * c)
IsGcd-scaled zero a b g c less cp h = absurd (omega arith)
IsGcd-scaled (suc n) a zero g c less cp h =
    let same : a ≡ g = same_from_IsGcd a zero a g (IsGcd-from_zero a zero refl) h in
    subst (λ x. IsGcd (a * c) (zero * c) (x * c)) same (IsGcd-from_zero (a * c) (zero * c) (zero-mul c))
IsGcd-scaled (suc n) a (suc b) g c less cp h =
    let m = suc b in
    let rest : a % m < m = mod-lt a (omega arith) in
    let ih = IsGcd-scaled n m (a % m) g c (omega arith) cp (IsGcd-to_mod a m g h) in
    IsGcd-from_mod (a * c) (m * c) (g * c) (subst (λ x. IsGcd (m * c) x (g * c)) (sym (scaled_mod a m c (omega arith) cp)) ih)

-- the greatest common divisor of two multiples
pub gcd-scaled : (a b c : ℕ) → 0 < c → gcd (a * c) (b * c) ≡ gcd a b * c
gcd-scaled a b c cp =
    gcd-is (a * c) (b * c) (gcd a b * c) (IsGcd-scaled (suc b) a b (gcd a b) c (omega arith) cp (gcd-IsGcd a b))

-- two numbers without their greatest common divisor share no factor
pub gcd-parts : (a b g : ℕ) → 0 < g → gcd (a * g) (b * g) ≡ g → gcd a b ≡ 1
gcd-parts a b g some e = eq_of_mul-eq-mul_right g some (gcd a b) 1 (sym (gcd-scaled a b g some) ∙ e ∙ sym (one-mul g))

-- a number that shares no factor with b and divides b * c divides c
pub dvd-coprime : (a b c : ℕ) → gcd a b ≡ 1 → a ∣ b * c → 0 < c → a ∣ c
dvd-coprime a b c e d cp =
    subst (λ x. a ∣ x) (gcd-scaled a b c cp ∙ ap (λ x. x * c) e ∙ one-mul c) ((gcd-IsGcd (a * c) (b * c)).2 a (dvd-mul_right a c) d)
