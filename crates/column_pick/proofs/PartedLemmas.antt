-- A fraction divided by a whole number, and the middle of two fractions: what is formed is their lowest terms.
use Rattle.std.proofs.Common.{◌≡◌, ℕ, zero, suc, ◌*◌, ◌<◌, List, [], ◌∷◌, ◌++◌, refl, sym, ap, ap₂, ◌∙◌, subst, arith, ℤ, pos, ◌*ℤ◌, ◌<ℤ◌, unsigned_abs, Option, Some, None}
use Rattle.std.specs.Prelude.{SomeIff}
use Rattle.std.specs.Int.{◌∣◌}
use Rattle.std.specs.List.{AllByRecursion}
use Rattle.std.proofs.Math.Nat.{eq-one_of_dvd-one, dvd-mul_right, mul_comm}
use Rattle.std.proofs.lemmas.Int.{ints, unsigned_abs-mul}
use Rattle.std.proofs.lemmas.Nat.Gcd.{dvd_trans}
use Rattle.std.proofs.lemmas.List.Elements.{All-append, All-from_recursion, recursion_from_All}
use Rattle.poly_specs.proofs.IntLemmas.{products, product_positive}
use Rattle.poly_specs.proofs.CombinationLemmas.{gcd-IsGcd, exact}
use Rattle.poly_specs.proofs.GcdLemmas.{gcd-positive, gcd-parts, gcd-swap, dvd-coprime}
use Rattle.poly_specs.proofs.LowestLemmas.{shared, size-positive, lowest-IsFraction, lowest-same, lowest-coprime, coprime-unique, same-lowest, least_sum-IsFraction, lowest-least_sum, crossed_product, crossed_product-IsFraction, lowest-crossed_product}
use Rattle.poly_specs.specs.Arithmetic.{lowest, crossed_num, crossed_den, product_numbers, least_sum, sum_numbers}
use Rattle.poly_specs.specs.Bits.{FitsBits, NonePasses}
use Rattle.poly_specs.specs.Elimination.{gcd}
use Rattle.poly_specs.specs.Fractions.{Fraction, IsFraction, SameFraction, sum_of, product_of}
use Rattle.poly_specs.specs.Pickings.{half, lowest_numbers, middle_numbers}
use Rattle.column_pick.specs.Ranges.{parted, least_middle}

-- ---- numbers that share no factor

coprime_parts : (m n a b : ℕ) → m ∣ a → n ∣ b → gcd a b ≡ 1 → gcd m n ≡ 1
coprime_parts m n a b hm hn e =
    let g = gcd-IsGcd m n in
    eq-one_of_dvd-one (subst (λ k. gcd m n ∣ k) e ((gcd-IsGcd a b).2 (gcd m n) (dvd_trans _ g.0 hm) (dvd_trans _ g.1 hn)))

coprime_product : (m n k : ℕ) → gcd m n ≡ 1 → gcd m k ≡ 1 → 0 < k → gcd m (n * k) ≡ 1
coprime_product m n k e f some =
    let g = gcd-IsGcd m (n * k) in
    let d : ℕ = gcd m (n * k) in
    let apart : gcd d n ≡ 1 = coprime_parts d n m n g.0 (dvd-itself n) e in
    let over : d ∣ k = dvd-coprime d n k apart g.1 some in
    eq-one_of_dvd-one (subst (λ j. d ∣ j) f ((gcd-IsGcd m k).2 d g.0 over))
  where
    dvd-itself : (n : ℕ) → n ∣ n
    dvd-itself n = subst (λ k. n ∣ k) (let e : n * 1 ≡ n = omega arith in e) (dvd-mul_right n 1)

-- ---- the parts of a product

size_part : (g : ℕ) (t z : ℤ) → pos g *ℤ t ≡ z → unsigned_abs t * g ≡ unsigned_abs z
size_part g t z e = mul_comm (unsigned_abs t) g ∙ sym (unsigned_abs-mul (pos g) t) ∙ ap unsigned_abs e

part_divides : (g : ℕ) (t z : ℤ) → pos g *ℤ t ≡ z → unsigned_abs t ∣ unsigned_abs z
part_divides g t z e = subst (λ n. unsigned_abs t ∣ n) (size_part g t z e) (dvd-mul_right (unsigned_abs t) g)

parts_apart : (a b : ℤ) (g : ℕ) (s t : ℤ) → g ≡ gcd (unsigned_abs a) (unsigned_abs b) → pos 0 <ℤ b → pos g *ℤ s ≡ a → pos g *ℤ t ≡ b →
    gcd (unsigned_abs s) (unsigned_abs t) ≡ 1
parts_apart a b g s t is hb ea eb =
    gcd-parts (unsigned_abs s) (unsigned_abs t) g
    (subst (λ n. 0 < n) (sym is) (gcd-positive (unsigned_abs a) (unsigned_abs b) (size-positive b hb)))
    (ap₂ gcd (size_part g s a ea) (size_part g t b eb) ∙ sym is)

-- a product of two fractions in lowest terms, without what is shared crosswise, is in lowest terms
crossed_apart : (x y : Fraction) → IsFraction x → IsFraction y → shared x ≡ 1 → shared y ≡ 1 → shared (crossed_product x y) ≡ 1
crossed_apart x y hx hy ex ey =
    let g : ℕ = gcd (unsigned_abs x.num) (unsigned_abs y.den) in
    let h : ℕ = gcd (unsigned_abs y.num) (unsigned_abs x.den) in
    let a = exact g x.num (gcd-IsGcd (unsigned_abs x.num) (unsigned_abs y.den)).0 in
    let d = exact g y.den (gcd-IsGcd (unsigned_abs x.num) (unsigned_abs y.den)).1 in
    let c = exact h y.num (gcd-IsGcd (unsigned_abs y.num) (unsigned_abs x.den)).0 in
    let b = exact h x.den (gcd-IsGcd (unsigned_abs y.num) (unsigned_abs x.den)).1 in
    let a' : ℕ = unsigned_abs (crossed_num x y) in
    let c' : ℕ = unsigned_abs (crossed_num y x) in
    let b' : ℕ = unsigned_abs (crossed_den x y) in
    let d' : ℕ = unsigned_abs (crossed_den y x) in
    let some_d : 0 < d' = some_part g (crossed_den y x) y.den d hy in
    let ab : gcd a' b' ≡ 1 = coprime_parts a' b' (unsigned_abs x.num) (unsigned_abs x.den) (part_divides g (crossed_num x y) x.num a) (part_divides h (crossed_den x y) x.den b) ex in
    let ad : gcd a' d' ≡ 1 = parts_apart x.num y.den g (crossed_num x y) (crossed_den y x) refl hy a d in
    let cb : gcd c' b' ≡ 1 = parts_apart y.num x.den h (crossed_num y x) (crossed_den x y) refl hx c b in
    let cd : gcd c' d' ≡ 1 = coprime_parts c' d' (unsigned_abs y.num) (unsigned_abs y.den) (part_divides h (crossed_num y x) y.num c) (part_divides g (crossed_den y x) y.den d) ey in
    let a_both = coprime_product a' b' d' ab ad some_d in
    let c_both = coprime_product c' b' d' cb cd some_d in
    go a' c' (b' * d') a_both c_both
    (unsigned_abs-mul (crossed_num x y) (crossed_num y x)) (unsigned_abs-mul (crossed_den x y) (crossed_den y x))
  where
    some_part : (g : ℕ) (t z : ℤ) → pos g *ℤ t ≡ z → pos 0 <ℤ z → 0 < unsigned_abs t
    some_part g t z e hz = positive (unsigned_abs t) (size_part g t z e) (size-positive z hz)
      where
        positive : (n : ℕ) {m : ℕ} → n * g ≡ m → 0 < m → 0 < n
        positive zero e h = absurd (omega (arith, e, h))
        positive (suc n) e h = omega arith

    go : (m n k : ℕ) {s t : ℕ} → gcd m k ≡ 1 → gcd n k ≡ 1 → s ≡ m * n → t ≡ k → gcd s t ≡ 1
    go m n k e f es et = ap₂ gcd es et ∙ joined m n k e f
      where
        joined : (m n k : ℕ) → gcd m k ≡ 1 → gcd n k ≡ 1 → gcd (m * n) k ≡ 1
        joined m zero k e f = ap (λ j. gcd j k) (let z : m * zero ≡ zero = omega arith in z) ∙ f
        joined m (suc n) k e f =
            gcd-swap (m * suc n) k ∙ coprime_product k m (suc n) (gcd-swap k m ∙ e) (gcd-swap k (suc n) ∙ f) (omega arith)

-- the numbers of the product are those of its lowest terms
pub product_lowest : (x y : Fraction) → IsFraction x → IsFraction y → lowest x ≡ x → lowest y ≡ y → product_numbers x y ≡ lowest_numbers (product_of x y)
product_lowest x y hx hy lx ly =
    let z : Fraction = crossed_product x y in
    let hz : IsFraction z = crossed_product-IsFraction x y hx hy in
    let ex : shared x ≡ 1 = subst (λ v. shared v ≡ 1) lx (lowest-coprime x hx) in
    let ey : shared y ≡ 1 = subst (λ v. shared v ≡ 1) ly (lowest-coprime y hy) in
    let own : lowest z ≡ z =
    coprime-unique (lowest z) z (lowest-IsFraction z hz) hz (lowest-coprime z hz) (crossed_apart x y hx hy ex ey) (lowest-same z) in
    let is : z ≡ lowest (product_of x y) = sym own ∙ lowest-crossed_product x y hx hy in
    ap (λ v. v.num ∷ v.den ∷ []) is

-- ---- one over a whole number

abbrev one_over : ℤ → Fraction
one_over d = record { num = pos 1; den = d }

one_over_lowest : (d : ℤ) → pos 0 <ℤ d → lowest (one_over d) ≡ one_over d
one_over_lowest d h =
    coprime-unique (lowest (one_over d)) (one_over d) (lowest-IsFraction (one_over d) h) h (lowest-coprime (one_over d) h)
    (eq-one_of_dvd-one (gcd-IsGcd 1 (unsigned_abs d)).0) (lowest-same (one_over d))

-- what `mul` by it ensures is said of the divided fraction
pub product_parted : (o : Option Fraction) (x y : Fraction) (d : ℤ) → IsFraction x → lowest x ≡ x → pos 0 <ℤ d → y ≡ lowest (one_over d) →
    SomeIff o (NonePasses (product_numbers x y)) (lowest (product_of x y)) → SomeIff o (NonePasses (lowest_numbers (parted d x))) (lowest (parted d x))
product_parted o x y d hx lx hd e said =
    let at : y ≡ one_over d = e ∙ one_over_lowest d hd in
    let here : SomeIff o (NonePasses (product_numbers x (one_over d))) (lowest (product_of x (one_over d))) =
    subst (λ v. SomeIff o (NonePasses (product_numbers x v)) (lowest (product_of x v))) at said in
    let numbers : product_numbers x (one_over d) ≡ lowest_numbers (product_of x (one_over d)) = product_lowest x (one_over d) hx hd lx (one_over_lowest d hd) in
    let there : SomeIff o (NonePasses (lowest_numbers (product_of x (one_over d)))) (lowest (product_of x (one_over d))) =
    subst (λ ns. SomeIff o (NonePasses ns) (lowest (product_of x (one_over d)))) numbers here in
    let same : product_of x (one_over d) ≡ parted d x = ap (λ n. record { num = n; den = x.den *ℤ d }) (let z : x.num *ℤ pos 1 ≡ x.num = omega (arith, ints) in z) in
    subst (λ v. SomeIff o (NonePasses (lowest_numbers v)) (lowest v)) same there

-- ---- the half of a sum, and the middle

half_same : (x y : Fraction) → SameFraction x y → SameFraction (half x) (half y)
half_same x y e = twice x.num y.num x.den y.den e
  where
    twice : (n m p q : ℤ) → n *ℤ q ≡ m *ℤ p → n *ℤ (q *ℤ pos 2) ≡ m *ℤ (p *ℤ pos 2)
    twice n m p q e = omega (arith, products, e)

all_split : (ms ns : List ℤ) → NonePasses (ms ++ ns) → NonePasses ms × NonePasses ns
all_split ms ns h = let k = go ms (recursion_from_All FitsBits (ms ++ ns) h) in (All-from_recursion FitsBits ms k.0, All-from_recursion FitsBits ns k.1)
  where
    go : (ms : List ℤ) → AllByRecursion FitsBits (ms ++ ns) → AllByRecursion FitsBits ms × AllByRecursion FitsBits ns
    go [] h = (tt, h)
    go (m ∷ ms) h = let k = go ms h.1 in ((h.0, k.0), k.1)

-- what is formed first is there, or not, and then the rest
none_first : (ms ns : List ℤ) (v : Fraction) (o : Option Fraction) → o ≡ None → (NonePasses ms → ⊥) → SomeIff o (NonePasses (ms ++ ns)) v
none_first ms ns v o e none = subst (λ a. SomeIff a (NonePasses (ms ++ ns)) v) (sym e) (λ all. none (all_split ms ns all).0)

some_first : (ms ns : List ℤ) (v : Fraction) (o : Option Fraction) → NonePasses ms → SomeIff o (NonePasses ns) v → SomeIff o (NonePasses (ms ++ ns)) v
some_first ms ns v None first rest = λ all. rest (all_split ms ns all).1
some_first ms ns v (Some y) first rest = (All-append FitsBits ms ns first rest.0, rest.1)

-- half of the lowest terms of a sum has the lowest terms of half the sum
pub half_lowest : (x y : Fraction) → IsFraction x → IsFraction y → lowest (half (lowest (sum_of x y))) ≡ lowest (half (least_sum x y))
half_lowest x y hx hy =
    let hl : IsFraction (least_sum x y) = least_sum-IsFraction x y hx hy in
    ap (λ v. lowest (half v)) (sym (lowest-least_sum x y hx hy))
    ∙ same-lowest (half (lowest (least_sum x y))) (half (least_sum x y)) (halved (lowest (least_sum x y)) (lowest-IsFraction (least_sum x y) hl)) (halved (least_sum x y) hl)
    (half_same (lowest (least_sum x y)) (least_sum x y) (lowest-same (least_sum x y)))
  where
    halved : (x : Fraction) → IsFraction x → IsFraction (half x)
    halved x h = product_positive x.den (pos 2) h (record { lt = tt })

-- what is said of half of a sum
abbrev HalfSays : Option Fraction → Fraction → Fraction → Type 0
HalfSays o x y = SomeIff o (NonePasses (sum_numbers x y ++ lowest_numbers (half (least_sum x y)))) (lowest (half (least_sum x y)))

pub no_sum : (o : Option Fraction) (x y : Fraction) → o ≡ None → (NonePasses (sum_numbers x y) → ⊥) → HalfSays o x y
no_sum o x y e none = none_first (sum_numbers x y) (lowest_numbers (half (least_sum x y))) (lowest (half (least_sum x y))) o e none

pub half_formed : (o : Option Fraction) (x y sum : Fraction) → IsFraction x → IsFraction y → NonePasses (sum_numbers x y) → sum ≡ lowest (sum_of x y) →
    SomeIff o (NonePasses (lowest_numbers (half sum))) (lowest (half sum)) → HalfSays o x y
half_formed o x y sum hx hy fits e said =
    let at : SomeIff o (NonePasses (lowest_numbers (half (lowest (sum_of x y))))) (lowest (half (lowest (sum_of x y)))) =
    subst (λ v. SomeIff o (NonePasses (lowest_numbers (half v))) (lowest (half v))) e said in
    some_first (sum_numbers x y) (lowest_numbers (half (least_sum x y))) (lowest (half (least_sum x y))) o fits
    (subst (λ v. SomeIff o (NonePasses (v.num ∷ v.den ∷ [])) v) (half_lowest x y hx hy) at)

-- what is said of the middle
abbrev MiddleSays : Option Fraction → Fraction → Fraction → Type 0
MiddleSays o x y = SomeIff o (NonePasses (middle_numbers x y)) (least_middle x y)

abbrev rest_numbers : Fraction → Fraction → List ℤ
rest_numbers x y = sum_numbers (lowest x) (lowest y) ++ lowest_numbers (half (least_sum (lowest x) (lowest y)))

pub no_low : (o : Option Fraction) (x y : Fraction) → o ≡ None → (NonePasses (lowest_numbers x) → ⊥) → MiddleSays o x y
no_low o x y e none = none_first (lowest_numbers x) (lowest_numbers y ++ rest_numbers x y) (least_middle x y) o e none

pub no_high : (o : Option Fraction) (x y : Fraction) → o ≡ None → NonePasses (lowest_numbers x) → (NonePasses (lowest_numbers y) → ⊥) → MiddleSays o x y
no_high o x y e low none =
    some_first (lowest_numbers x) (lowest_numbers y ++ rest_numbers x y) (least_middle x y) o low
    (none_first (lowest_numbers y) (rest_numbers x y) (least_middle x y) o e none)

pub middle_formed : (o : Option Fraction) (x y a b : Fraction) → NonePasses (lowest_numbers x) → a ≡ lowest x → NonePasses (lowest_numbers y) → b ≡ lowest y →
    HalfSays o a b → MiddleSays o x y
middle_formed o x y a b low ea high eb said =
    some_first (lowest_numbers x) (lowest_numbers y ++ rest_numbers x y) (least_middle x y) o low
    (some_first (lowest_numbers y) (rest_numbers x y) (least_middle x y) o high
    (subst (λ u. HalfSays o u (lowest y)) ea (subst (HalfSays o a) eb said)))
