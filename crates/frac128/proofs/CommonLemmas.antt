-- Least common denominators, and the numerators over one.
use Rattle.std.proofs.Common.{◌≡◌, ℕ, zero, suc, ◌+◌, ◌*◌, ◌/◌, ◌<◌, ◌≤◌, get_or, List, [], ◌∷◌, ◌++◌, map, length, take, drop, fold, sym, ◌∙◌, ap, subst, arith, ℤ, pos, ◌<ℤ◌, unsigned_abs, Option, Some, None}
use Rattle.std.specs.Prelude.{SomeIff, IfSome, MatchOption, All}
use Rattle.std.specs.Int.{◌∣◌}
use Rattle.std.specs.List.{AllByRecursion}
use Rattle.std.proofs.Math.Nat.{dvd-mul_right, mul-div_cancel', le_of_dvd}
use Rattle.std.proofs.lemmas.Int.{ints}
use Rattle.std.proofs.lemmas.Nat.Gcd.{dvd_trans, dvd_refl}
use Rattle.std.proofs.lemmas.List.{take_more, take-append-drop, map-append}
use Rattle.std.proofs.lemmas.List.Elements.{recursion_from_All, All-cons, All-head, All-tail, All-push}
use Rattle.std.proofs.lemmas.List.Sums.{fold-append}
use Rattle.poly_specs.proofs.CombinationLemmas.{gcd-IsGcd}
use Rattle.poly_specs.proofs.LowestLemmas.{size-positive, lowest-IsFraction}
use Rattle.poly_specs.specs.Arithmetic.{lowest, IsKept}
use Rattle.poly_specs.specs.Bits.{FitsBits, NonePasses}
use Rattle.poly_specs.specs.Denominators.{lcm, common_den, common_nums, common_numbers, num_over}
use Rattle.poly_specs.specs.Elimination.{gcd}
use Rattle.poly_specs.specs.Fractions.{Fraction, IsFraction}

-- ---- the least common multiple

lcm-positive : (a b : ℕ) → 0 < a → 0 < b → 0 < lcm a b
lcm-positive a b ha hb = product a (b / gcd a b) ha (some (gcd a b) (b / gcd a b) (mul-div_cancel' (gcd a b) (gcd-IsGcd a b).1))
  where
    some : (m n : ℕ) → m * n ≡ b → 0 < n
    some m zero e = absurd (omega (arith, e, hb))
    some m (suc n) e = omega arith

    product : (m n : ℕ) → 0 < m → 0 < n → 0 < m * n
    product zero n h g = absurd (omega arith)
    product (suc m) n h g = omega arith

lcm-left : (a b : ℕ) → a ∣ lcm a b
lcm-left a b = dvd-mul_right a (b / gcd a b)

-- b is g * (b / g), and g divides a
pub lcm-right : (a b : ℕ) → b ∣ lcm a b
lcm-right a b =
    let g : ℕ = gcd a b in
    let ea : g * (a / g) ≡ a = mul-div_cancel' g (gcd-IsGcd a b).0 in
    let eb : g * (b / g) ≡ b = mul-div_cancel' g (gcd-IsGcd a b).1 in
    let e : b * (a / g) ≡ a * (b / g) = regroup g (a / g) (b / g) a b ea eb in
    subst (λ n. b ∣ n) e (dvd-mul_right b (a / g))
  where
    regroup : (g s t a b : ℕ) → g * s ≡ a → g * t ≡ b → b * s ≡ a * t
    regroup g s t a b e f = let u = ap (λ n. n * s) f in let v = ap (λ n. n * t) e in omega (arith, u, v)

-- ---- the denominator of a list

abbrev pub den_of : Fraction → ℕ
den_of x = unsigned_abs (lowest x).den

abbrev all_dens : ℕ → List Fraction → ℕ
all_dens d xs = fold (λ e x. lcm e (den_of x)) d xs

den_positive : (x : Fraction) → IsFraction x → 0 < den_of x
den_positive x h = size-positive (lowest x).den (lowest-IsFraction x h)

dens-positive : (d : ℕ) (xs : List Fraction) → 0 < d → AllByRecursion IsFraction xs → 0 < all_dens d xs
dens-positive d [] hd h = hd
dens-positive d (x ∷ xs) hd h = dens-positive (lcm d (den_of x)) xs (lcm-positive d (den_of x) hd (den_positive x h.0)) h.1

dens-first : (d : ℕ) (xs : List Fraction) → d ∣ all_dens d xs
dens-first d [] = dvd_refl d
dens-first d (x ∷ xs) = dvd_trans _ (lcm-left d (den_of x)) (dens-first (lcm d (den_of x)) xs)

-- each denominator divides it
dens-each : (d : ℕ) (xs : List Fraction) → AllByRecursion (λ x. den_of x ∣ all_dens d xs) xs
dens-each d [] = tt
dens-each d (x ∷ xs) = (dvd_trans _ (lcm-right d (den_of x)) (dens-first (lcm d (den_of x)) xs), dens-each (lcm d (den_of x)) xs)

pub each_divides : (xs : List Fraction) → AllByRecursion (λ x. den_of x ∣ common_den xs) xs
each_divides xs = dens-each 1 xs

pub common_positive : (xs : List Fraction) → AllByRecursion IsFraction xs → 0 < common_den xs
common_positive xs h = dens-positive 1 xs (omega arith) h

-- that of the first ones is no larger
pub common_more : (xs ys : List Fraction) → AllByRecursion IsFraction (xs ++ ys) → common_den xs ≤ common_den (xs ++ ys)
common_more xs ys h =
    let e : common_den (xs ++ ys) ≡ all_dens (common_den xs) ys = fold-append (λ d x. lcm d (den_of x)) 1 xs ys in
    le_of_dvd (common_positive (xs ++ ys) h) (subst (λ n. common_den xs ∣ n) (sym e) (dens-first (common_den xs) ys))

pub common_push : (xs : List Fraction) (x : Fraction) → common_den (xs ++ x ∷ []) ≡ lcm (common_den xs) (den_of x)
common_push xs x = fold-append (λ d y. lcm d (den_of y)) 1 xs (x ∷ [])

pub multiple_positive : (a b : ℤ) (o : Option ℤ) → pos 0 <ℤ a → pos 0 <ℤ b →
    SomeIff o (FitsBits (pos (lcm (unsigned_abs a) (unsigned_abs b)))) (pos (lcm (unsigned_abs a) (unsigned_abs b))) → IfSome o (λ m. pos 0 <ℤ m)
multiple_positive a b None ha hb said = tt
multiple_positive a b (Some m) ha hb said =
    let h = lcm-positive (unsigned_abs a) (unsigned_abs b) (size-positive a ha) (size-positive b hb) in
    subst (λ z. pos 0 <ℤ z) (sym said.1) (omega (arith, ints, h))

-- where the denominator of the first ones passes, that of all does
pub common_passes : (xs : List Fraction) (i : ℕ) (x : Fraction) → All IsKept xs → i < length xs → x ≡ get_or xs i x →
    (FitsBits (pos (common_den (take i xs ++ x ∷ []))) → ⊥) → FitsBits (pos (common_den xs)) → ⊥
common_passes xs i x kept h is passes fits =
    let first : take (i + 1) xs ≡ take i xs ++ x ∷ [] = take_more xs i x h ∙ ap (λ y. take i xs ++ y ∷ []) (sym is) in
    let whole : take (i + 1) xs ++ drop (i + 1) xs ≡ xs = take-append-drop (i + 1) xs in
    let positive = recursion_from_All IsFraction xs (λ k d l. (kept k d l).positive) in
    let le = common_more (take (i + 1) xs) (drop (i + 1) xs) (subst (λ ys. AllByRecursion IsFraction ys) (sym whole) positive) in
    let le' : common_den (take (i + 1) xs) ≤ common_den xs = subst (λ ys. common_den (take (i + 1) xs) ≤ common_den ys) whole le in
    passes (subst (λ ys. FitsBits (pos (common_den ys))) first (less (common_den (take (i + 1) xs)) (common_den xs) le' fits))
  where
    less : (m n : ℕ) → m ≤ n → FitsBits (pos n) → FitsBits (pos m)
    less m n le h = omega (arith, le, h)

-- ---- numerators

pub mapped : (f : Fraction → ℤ) (xs : List Fraction) (i : ℕ) (x : Fraction) (items new : List ℤ) → i < length xs → x ≡ get_or xs i x →
    items ≡ map f (take i xs) → new ≡ items ++ f x ∷ [] → new ≡ map f (take (i + 1) xs)
mapped f xs i x items new h is e more =
    let next : take (i + 1) xs ≡ take i xs ++ x ∷ [] = take_more xs i x h ∙ ap (λ y. take i xs ++ y ∷ []) (sym is) in
    more ∙ ap (λ ys. ys ++ f x ∷ []) e ∙ sym (map-append f (take i xs) (x ∷ [])) ∙ ap (map f) (sym next)

pub numerator_passes : (f : Fraction → ℤ) (xs : List Fraction) (i : ℕ) (x : Fraction) → i < length xs → x ≡ get_or xs i x →
    (FitsBits (f x) → ⊥) → NonePasses (map f xs) → ⊥
numerator_passes f xs i x h is passes all = passes (subst (λ y. FitsBits (f y)) (sym is) (All-at xs i x h all))
  where
    All-at : (xs : List Fraction) (i : ℕ) (d : Fraction) → i < length xs → NonePasses (map f xs) → FitsBits (f (get_or xs i d))
    All-at [] i d h all = absurd (omega arith)
    All-at (y ∷ ys) zero d h all = All-head FitsBits (f y) (map f ys) all
    All-at (y ∷ ys) (suc i) d h all = All-at ys i d (omega arith) (All-tail FitsBits (f y) (map f ys) all)

-- the least common denominator, and the numerators over it
pub numbers_of : (xs : List Fraction) → FitsBits (pos (common_den xs)) → NonePasses (common_nums xs) → NonePasses (common_numbers xs)
numbers_of xs d ns = All-cons FitsBits (pos (common_den xs)) (common_nums xs) d ns

pub nums_of : (xs : List Fraction) → NonePasses (common_numbers xs) → NonePasses (common_nums xs)
nums_of xs all = All-tail FitsBits (pos (common_den xs)) (common_nums xs) all

pub den_of_all : (xs : List Fraction) → NonePasses (common_numbers xs) → FitsBits (pos (common_den xs))
den_of_all xs all = All-head FitsBits (pos (common_den xs)) (common_nums xs) all

pub fits_more : (f : Fraction → ℤ) (xs : List Fraction) (i : ℕ) (x : Fraction) → i < length xs → x ≡ get_or xs i x → FitsBits (f x) →
    NonePasses (map f (take i xs)) → NonePasses (map f (take (i + 1) xs))
fits_more f xs i x h is fits all =
    let next : take (i + 1) xs ≡ take i xs ++ x ∷ [] = take_more xs i x h ∙ ap (λ y. take i xs ++ y ∷ []) (sym is) in
    subst (λ zs. NonePasses zs) (sym (map-append f (take i xs) (x ∷ [])) ∙ ap (map f) (sym next)) (All-push FitsBits (map f (take i xs)) (f x) all fits)

pub none_case : {V : Type 0} → (o : Option V) (P : Type 0) (Q : V → Type 0) → o ≡ None → P → MatchOption o P Q
none_case o P Q e p = subst (λ x. MatchOption x P Q) (sym e) p
