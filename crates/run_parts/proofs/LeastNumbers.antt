-- Numbers over their least denominator are their fractions over the least common denominator.
use Rattle.std.proofs.Common.{◌≡◌, ℕ, zero, suc, ◌*◌, ◌/◌, ◌<◌, List, [], ◌∷◌, map, fold, refl, sym, ◌∙◌, ap, ap₂, subst, arith, ℤ, pos, ◌*ℤ◌, ◌<ℤ◌, unsigned_abs}
use Rattle.std.specs.Prelude.{int_div, All}
use Rattle.std.specs.Int.{◌∣◌}
use Rattle.std.specs.List.{AllByRecursion, AllZip}
use Rattle.std.proofs.Math.Nat.{dvd-mul_left, dvd-mul_right, mul-div_cancel', mul-dvd-mul_left, dvd_of_mul-dvd-mul_left}
use Rattle.std.proofs.lemmas.Int.{ints, unsigned_abs-mul}
use Rattle.std.proofs.lemmas.Nat.Gcd.{dvd_trans, dvd_refl}
use Rattle.std.proofs.lemmas.List.Elements.{All-from_recursion, recursion_from_All}
use Rattle.poly_specs.proofs.ColumnLemmas.{abs_is}
use Rattle.poly_specs.proofs.CombinationLemmas.{gcd-IsGcd, exact}
use Rattle.poly_specs.proofs.FractionLemmas.{same-trans}
use Rattle.poly_specs.proofs.GcdLemmas.{gcd-positive, gcd-scaled}
use Rattle.poly_specs.proofs.IntLemmas.{products, same_cancel, mul_comm_int}
use Rattle.poly_specs.proofs.LowestLemmas.{shared, size-positive, lowest-IsFraction, lowest-same, lowest-den, same-lowest}
use Rattle.poly_specs.proofs.PrimitiveLemmas.{IsPrimitive}
use Rattle.poly_specs.specs.Arithmetic.{lowest}
use Rattle.poly_specs.specs.Denominators.{lcm, common_den, common_nums, common_numbers, num_over}
use Rattle.poly_specs.specs.Elimination.{gcd}
use Rattle.poly_specs.specs.Fractions.{Fraction, IsFraction, SameFraction, fractions}

-- ---- the least common multiple

some_factor : (m n : ℕ) → 0 < m * n → 0 < n
some_factor m zero h = absurd (omega (arith, h))
some_factor m (suc n) h = omega arith

both_positive : (m n : ℕ) → 0 < m → 0 < n → 0 < m * n
both_positive zero n h g = absurd (omega arith)
both_positive (suc m) n h g = omega arith

-- a * b is the greatest common divisor times the least common multiple
times_gcd : (a b : ℕ) → gcd a b * lcm a b ≡ a * b
times_gcd a b = go (gcd a b) (b / gcd a b) (mul-div_cancel' (gcd a b) (gcd-IsGcd a b).1)
  where
    go : (g t : ℕ) → g * t ≡ b → g * (a * t) ≡ a * b
    go g t e = let f = ap (λ n. a * n) e in omega (arith, f)

lcm-positive : (a b : ℕ) → 0 < a → 0 < b → 0 < lcm a b
lcm-positive a b ha hb = some_factor (gcd a b) (lcm a b) (subst (λ n. 0 < n) (sym (times_gcd a b)) (both_positive a b ha hb))

lcm-left : (a b : ℕ) → a ∣ lcm a b
lcm-left a b = dvd-mul_right a (b / gcd a b)

lcm-right : (a b : ℕ) → b ∣ lcm a b
lcm-right a b =
    let g : ℕ = gcd a b in
    regroup g (a / g) (b / g) (mul-div_cancel' g (gcd-IsGcd a b).0) (mul-div_cancel' g (gcd-IsGcd a b).1)
  where
    regroup : (g s t : ℕ) → g * s ≡ a → g * t ≡ b → b ∣ a * t
    regroup g s t e f = let u = ap (λ n. n * s) f in let v = ap (λ n. n * t) e in let w : b * s ≡ a * t = omega (arith, u, v) in subst (λ n. b ∣ n) w (dvd-mul_right b s)

-- what both divide, it divides
lcm-least : (a b m : ℕ) → 0 < b → 0 < m → a ∣ m → b ∣ m → lcm a b ∣ m
lcm-least a b m hb hm ha hb' =
    let g : ℕ = gcd a b in
    let one : (a * b) ∣ (a * m) = mul-dvd-mul_left b a hb' in
    let two : (a * b) ∣ (b * m) = subst (λ n. n ∣ (b * m)) (let e : b * a ≡ a * b = omega arith in e) (mul-dvd-mul_left a b ha) in
    let both : (a * b) ∣ gcd (a * m) (b * m) = (gcd-IsGcd (a * m) (b * m)).2 (a * b) one two in
    let all : (g * lcm a b) ∣ (g * m) = subst (λ n. n ∣ (g * m)) (sym (times_gcd a b)) (subst (λ n. (a * b) ∣ n) (gcd-scaled a b m hm) both) in
    dvd_of_mul-dvd-mul_left (lcm a b) (gcd-positive a b hb) all

-- ---- the denominator of a list

abbrev den_of : Fraction → ℕ
den_of x = unsigned_abs (lowest x).den

abbrev all_dens : ℕ → List Fraction → ℕ
all_dens d xs = fold (λ e x. lcm e (den_of x)) d xs

den_positive : (x : Fraction) → IsFraction x → 0 < den_of x
den_positive x h = size-positive (lowest x).den (lowest-IsFraction x h)

dens-first : (d : ℕ) (xs : List Fraction) → d ∣ all_dens d xs
dens-first d [] = dvd_refl d
dens-first d (x ∷ xs) = dvd_trans _ (lcm-left d (den_of x)) (dens-first (lcm d (den_of x)) xs)

-- the denominator in lowest terms divides the denominator
den_divides : (n d : ℤ) → den_of (record { num = n; den = d }) ∣ unsigned_abs d
den_divides n d =
    let x : Fraction = record { num = n; den = d } in
    let e : shared x * den_of x ≡ unsigned_abs d = sym (unsigned_abs-mul (pos (shared x)) (lowest x).den) ∙ ap unsigned_abs (lowest-den x) in
    subst (λ m. den_of x ∣ m) e (dvd-mul_left (den_of x) (shared x))

dens-positive : (b : ℕ) (d : ℤ) (ns : List ℤ) → pos 0 <ℤ d → 0 < b → 0 < all_dens b (fractions d ns)
dens-positive b d [] hd hb = hb
dens-positive b d (n ∷ ns) hd hb =
    let x : Fraction = record { num = n; den = d } in dens-positive (lcm b (den_of x)) d ns hd (lcm-positive b (den_of x) hb (den_positive x hd))

-- the least common denominator of numbers over d divides d
dens-least : (b : ℕ) (d : ℤ) (ns : List ℤ) → pos 0 <ℤ d → b ∣ unsigned_abs d → all_dens b (fractions d ns) ∣ unsigned_abs d
dens-least b d [] hd h = h
dens-least b d (n ∷ ns) hd h =
    let x : Fraction = record { num = n; den = d } in
    dens-least (lcm b (den_of x)) d ns hd (lcm-least b (den_of x) (unsigned_abs d) (den_positive x hd) (size-positive d hd) h (den_divides n d))

-- ---- numerators

-- a fraction over a multiple of its least denominator is the same fraction
over_same : (x : Fraction) (d : ℕ) → IsFraction x → 0 < d → den_of x ∣ d → SameFraction (record { num = num_over d x; den = pos d }) x
over_same x d hx hd h =
    let y : Fraction = lowest x in
    let hy : IsFraction y = lowest-IsFraction x hx in
    let whole : pos (den_of x) *ℤ int_div (pos d) (pos (den_of x)) ≡ pos d = exact (den_of x) (pos d) h in
    let at : y.den *ℤ int_div (pos d) y.den ≡ pos d = subst (λ z. z *ℤ int_div (pos d) z ≡ pos d) (abs_is y.den hy) whole in
    same-trans (record { num = num_over d x; den = pos d }) y x (omega (arith, ints)) hy hx (moved y.num y.den (int_div (pos d) y.den) at) (lowest-same x)
  where
    moved : (n m k : ℤ) → m *ℤ k ≡ pos d → (n *ℤ k) *ℤ m ≡ n *ℤ pos d
    moved n m k e = let f : (n *ℤ k) *ℤ m ≡ n *ℤ (m *ℤ k) = omega (arith, products) in f ∙ ap (λ z. n *ℤ z) e

-- where d is k times the common denominator c, each number is k times its numerator over c
number_is : (c k : ℕ) (n d u : ℤ) → 0 < c → pos c *ℤ pos k ≡ d → u *ℤ d ≡ n *ℤ pos c → u *ℤ pos k ≡ n
number_is c k n d u hc e same =
    same_cancel (pos c) (u *ℤ pos k) n (omega (arith, ints, hc))
    (turned u (pos c) (pos k) ∙ ap (λ z. u *ℤ z) e ∙ same ∙ mul_comm_int n (pos c))
  where
    turned : (u c k : ℤ) → c *ℤ (u *ℤ k) ≡ u *ℤ (c *ℤ k)
    turned u c k = omega (arith, products)

numbers_are : (c k : ℕ) (d : ℤ) (ns : List ℤ) (b : ℕ) → 0 < c → pos 0 <ℤ d → pos c *ℤ pos k ≡ d → c ≡ all_dens b (fractions d ns) →
    AllByRecursion (λ n. num_over c (record { num = n; den = d }) *ℤ pos k ≡ n) ns
numbers_are c k d [] b hc hd e is = tt
numbers_are c k d (n ∷ ns) b hc hd e is =
    let x : Fraction = record { num = n; den = d } in
    let divides : den_of x ∣ c = subst (λ m. den_of x ∣ m) (sym is) (dvd_trans _ (lcm-right b (den_of x)) (dens-first (lcm b (den_of x)) (fractions d ns))) in
    (number_is c k n d (num_over c x) hc e (over_same x c hd hc divides), numbers_are c k d ns (lcm b (den_of x)) hc hd e is)

divided_by : (c k : ℕ) (d : ℤ) (ns : List ℤ) → AllByRecursion (λ n. num_over c (record { num = n; den = d }) *ℤ pos k ≡ n) ns → AllByRecursion (λ n. k ∣ unsigned_abs n) ns
divided_by c k d [] h = tt
divided_by c k d (n ∷ ns) h =
    let u : ℤ = num_over c (record { num = n; den = d }) in
    let e : unsigned_abs u * k ≡ unsigned_abs n = sym (unsigned_abs-mul u (pos k)) ∙ ap unsigned_abs h.0 in
    (subst (λ m. k ∣ m) e (dvd-mul_left k (unsigned_abs u)), divided_by c k d ns h.1)

numerators_are : (c : ℕ) (d : ℤ) (ns : List ℤ) → AllByRecursion (λ n. num_over c (record { num = n; den = d }) *ℤ pos 1 ≡ n) ns → map (num_over c) (fractions d ns) ≡ ns
numerators_are c d [] h = refl
numerators_are c d (n ∷ ns) h =
    let one : num_over c (record { num = n; den = d }) *ℤ pos 1 ≡ num_over c (record { num = n; den = d }) = omega (arith, ints) in
    ap₂ (λ (x : ℤ) (xs : List ℤ). x ∷ xs) (sym one ∙ h.0) (numerators_are c d ns h.1)

pub least_numbers : (d : ℤ) (ns : List ℤ) → pos 0 <ℤ d → IsPrimitive d ns → common_numbers (fractions d ns) ≡ d ∷ ns
least_numbers d ns hd primitive =
    let c : ℕ = common_den (fractions d ns) in
    let hc : 0 < c = dens-positive 1 d ns hd (omega arith) in
    let divides : c ∣ unsigned_abs d = dens-least 1 d ns hd (one_divides (unsigned_abs d)) in
    let k : ℕ = unsigned_abs d / c in
    let size : c * k ≡ unsigned_abs d = mul-div_cancel' c divides in
    let whole : pos c *ℤ pos k ≡ d = ap pos size ∙ abs_is d hd in
    let numbers = numbers_are c k d ns 1 hc hd whole refl in
    let one : k ≡ 1 = primitive k (subst (λ m. k ∣ m) size (dvd-mul_left k c)) (All-from_recursion (λ n. k ∣ unsigned_abs n) ns (divided_by c k d ns numbers)) in
    let den : pos c ≡ d = (let e : c ≡ c * k = omega (arith, ap (λ m. c * m) one) in ap pos e ∙ whole) in
    ap₂ (λ (x : ℤ) (xs : List ℤ). x ∷ xs) den
    (numerators_are c d ns (subst (λ m. AllByRecursion (λ n. num_over c (record { num = n; den = d }) *ℤ pos m ≡ n) ns) one numbers))
  where
    one_divides : (m : ℕ) → 1 ∣ m
    one_divides m = subst (λ n. 1 ∣ n) (let e : 1 * m ≡ m = omega arith in e) (dvd-mul_right 1 m)

-- ---- equal fractions

lowest_alike : (xs ys : List Fraction) → AllByRecursion IsFraction xs → AllByRecursion IsFraction ys → AllZip SameFraction xs ys → map lowest xs ≡ map lowest ys
lowest_alike [] [] h g same = refl
lowest_alike [] (y ∷ ys) h g same = absurd same
lowest_alike (x ∷ xs) [] h g same = absurd same
lowest_alike (x ∷ xs) (y ∷ ys) h g same = ap₂ (λ (z : Fraction) (zs : List Fraction). z ∷ zs) (same-lowest x y h.0 g.0 same.0) (lowest_alike xs ys h.1 g.1 same.1)

-- the numbers are those of the fractions in lowest terms
abbrev dens_lowest : ℕ → List Fraction → ℕ
dens_lowest d zs = fold (λ e z. lcm e (unsigned_abs z.den)) d zs

dens_by_lowest : (d : ℕ) (xs : List Fraction) → all_dens d xs ≡ dens_lowest d (map lowest xs)
dens_by_lowest d [] = refl
dens_by_lowest d (x ∷ xs) = dens_by_lowest (lcm d (den_of x)) xs

nums_by_lowest : (d : ℕ) (xs : List Fraction) → map (num_over d) xs ≡ map (λ z. z.num *ℤ int_div (pos d) z.den) (map lowest xs)
nums_by_lowest d [] = refl
nums_by_lowest d (x ∷ xs) = ap (λ ns. num_over d x ∷ ns) (nums_by_lowest d xs)

pub equal_numbers : (xs ys : List Fraction) → All IsFraction xs → All IsFraction ys → AllZip SameFraction xs ys → common_numbers xs ≡ common_numbers ys
equal_numbers xs ys h g same =
    let alike = lowest_alike xs ys (recursion_from_All IsFraction xs h) (recursion_from_All IsFraction ys g) same in
    let dens : common_den xs ≡ common_den ys = dens_by_lowest 1 xs ∙ ap (dens_lowest 1) alike ∙ sym (dens_by_lowest 1 ys) in
    let nums : common_nums xs ≡ common_nums ys =
    nums_by_lowest (common_den xs) xs ∙ ap (map (λ z. z.num *ℤ int_div (pos (common_den xs)) z.den)) alike
    ∙ sym (nums_by_lowest (common_den xs) ys) ∙ ap (λ (d : ℕ). map (num_over d) ys) dens in
    ap₂ (λ (d : ℕ) (ns : List ℤ). pos d ∷ ns) dens nums
