-- The greatest common divisor of a row's numbers, and rows whose numbers have none but 1.
use Rattle.std.proofs.Common.{◌≡◌, ℕ, zero, suc, ◌+◌, ◌*◌, ◌/◌, ◌<◌, ◌≤◌, max, Bool, false, List, [], ◌∷◌, ◌++◌, length, map, drop, get_or, fold, refl, sym, ◌∙◌, ap, subst, arith, ℤ, pos, negsuc, ◌*ℤ◌, neg_ℤ, unsigned_abs}
use Rattle.std.specs.Prelude.{All, int_div}
use Rattle.std.proofs.Math.Nat.{div-le_self, one-dvd, eq_of_mul-eq-mul_right}
use Rattle.std.proofs.lemmas.Int.{ints, unsigned_abs-mul}
use Rattle.std.proofs.lemmas.List.{length-map, drop_more, drop_all}
use Rattle.std.proofs.lemmas.List.Elements.{All-map, All-weaker}
use Rattle.std.proofs.lemmas.Nat.Gcd.{le_of_dvd, dvd_refl}
use Rattle.poly_specs.proofs.CombinationLemmas.{exact, gcd-IsGcd, times-divided, divisor-pos}
use Rattle.poly_specs.proofs.GcdLemmas.{gcd-is, gcd-zero, gcd-scaled}
use Rattle.poly_specs.specs.Bits.{FitsBits}
use Rattle.poly_specs.specs.Elimination.{gcd, numbers, times, divisor, divided}
use Rattle.poly_specs.specs.KeptRows.{IsKeptRow}
use Rattle.poly_specs.specs.Rows.{Row}

-- the greatest common divisor of g and the numbers
abbrev pub shared : ℕ → List ℤ → ℕ
shared g zs = fold (λ h z. gcd h (unsigned_abs z)) g zs

pub divisor-shared : (r : Row) → divisor r ≡ max 1 (shared 0 (numbers r))
unfolding divisor
divisor-shared r = refl

pub shared-append : (g : ℕ) (xs ys : List ℤ) → shared g (xs ++ ys) ≡ shared (shared g xs) ys
shared-append g [] ys = refl
shared-append g (x ∷ xs) ys = shared-append (gcd g (unsigned_abs x)) xs ys

-- the mark has no part in it
pub divisor-mark : (cs : List ℤ) (c : ℤ) (s t : Bool) → divisor (record { coef = cs; cst = c; strict = s }) ≡ divisor (record { coef = cs; cst = c; strict = t })
unfolding divisor
divisor-mark cs c s t = refl

pub shared-numbers : (cs : List ℤ) (c : ℤ) → shared 0 (cs ++ c ∷ []) ≡ gcd (shared 0 cs) (unsigned_abs c)
shared-numbers cs c = shared-append 0 cs (c ∷ [])

-- ---- a loop over the coefficients: g is shared by those before column i

pub shared_step : (cs : List ℤ) (i g h n : ℕ) → i < length cs → n ≡ unsigned_abs (get_or cs i (pos 0)) → h ≡ gcd g n →
    shared g (drop i cs) ≡ shared 0 cs → shared h (drop (i + 1) cs) ≡ shared 0 cs
shared_step cs i g h n lt e f so_far =
    let rest = ap (shared g) (drop_more cs i (pos 0) lt) in
    let here : gcd g (unsigned_abs (get_or cs i (pos 0))) ≡ h = ap (gcd g) (sym e) ∙ sym f in
    subst (λ k. shared k (drop (i + 1) cs) ≡ shared 0 cs) here (sym rest ∙ so_far)

pub shared_last : (cs : List ℤ) (c : ℤ) (s : Bool) (g n i : ℕ) → length cs ≤ i → n ≡ unsigned_abs c → shared g (drop i cs) ≡ shared 0 cs →
    max 1 (gcd g n) ≡ divisor (record { coef = cs; cst = c; strict = s })
shared_last cs c s g n i le e so_far =
    let all : g ≡ shared 0 cs = sym (ap (shared g) (drop_all i cs le)) ∙ so_far in
    ap (λ k. max 1 (gcd g k)) e ∙ ap (λ k. max 1 (gcd k (unsigned_abs c))) all
    ∙ ap (max 1) (sym (shared-numbers cs c)) ∙ sym (divisor-shared (record { coef = cs; cst = c; strict = s }))

-- ---- bounds

pub gcd-below : (a b n : ℕ) → a < n → b < n → gcd a b < n
gcd-below a zero n h g = omega (arith, gcd-zero a zero refl)
gcd-below a (suc b) n h g = let d = (gcd-IsGcd a (suc b)).1 in let m : gcd a (suc b) ≤ suc b = le_of_dvd (omega arith) d in omega arith

pub gcd-one : (b : ℕ) → gcd 1 b ≡ 1
gcd-one b = gcd-is 1 b 1 (dvd_refl 1, one-dvd b, λ d p q. p)

shared-one : (zs : List ℤ) → shared 1 zs ≡ 1
shared-one [] = refl
shared-one (z ∷ zs) = subst (λ g. shared g zs ≡ 1) (sym (gcd-one (unsigned_abs z))) (shared-one zs)

-- the loop may stop where 1 is shared
pub shared_stop : (cs : List ℤ) (c : ℤ) (s : Bool) (g i : ℕ) → g ≡ 1 → shared g (drop i cs) ≡ shared 0 cs →
    1 ≡ divisor (record { coef = cs; cst = c; strict = s })
shared_stop cs c s g i one so_far =
    let all : shared 0 cs ≡ 1 = sym so_far ∙ ap (λ k. shared k (drop i cs)) one ∙ shared-one (drop i cs) in
    let whole : shared 0 (cs ++ c ∷ []) ≡ 1 = shared-numbers cs c ∙ ap (λ k. gcd k (unsigned_abs c)) all ∙ gcd-one (unsigned_abs c) in
    sym (divisor-shared (record { coef = cs; cst = c; strict = s }) ∙ ap (max 1) whole)

-- a quotient is no larger
pub quotient-no_larger : (g : ℕ) (z : ℤ) → unsigned_abs (int_div z (pos g)) ≤ unsigned_abs z
quotient-no_larger g (pos n) = div-le_self n g
quotient-no_larger g (negsuc n) = let e = negated (suc n / g) in let m = div-le_self (suc n) g in omega (arith, e, m)
  where
    negated : (n : ℕ) → unsigned_abs (neg_ℤ (pos n)) ≡ n
    negated zero = refl
    negated (suc n) = refl

pub quotient-fits : (g : ℕ) (z : ℤ) → FitsBits z → FitsBits (int_div z (pos g))
quotient-fits g z h = let m = quotient-no_larger g z in omega (arith, m)

-- ---- a divided row is divided

shared-scaled : (g c : ℕ) (zs : List ℤ) → 0 < c → shared (g * c) (map (λ z. pos c *ℤ z) zs) ≡ shared g zs * c
shared-scaled g c [] h = refl
shared-scaled g c (z ∷ zs) h =
    let size : unsigned_abs (pos c *ℤ z) ≡ unsigned_abs z * c = omega (arith, unsigned_abs-mul (pos c) z) in
    let step : gcd (g * c) (unsigned_abs (pos c *ℤ z)) ≡ gcd g (unsigned_abs z) * c =
    ap (gcd (g * c)) size ∙ gcd-scaled g (unsigned_abs z) c h in
    subst (λ k. shared k (map (λ z. pos c *ℤ z) zs) ≡ shared (gcd g (unsigned_abs z)) zs * c) (sym step) (shared-scaled (gcd g (unsigned_abs z)) c zs h)

map-append_one : (f : ℤ → ℤ) (xs : List ℤ) (y : ℤ) → map f xs ++ f y ∷ [] ≡ map f (xs ++ y ∷ [])
map-append_one f [] y = refl
map-append_one f (x ∷ xs) y = ap (λ zs. f x ∷ zs) (map-append_one f xs y)

shared-times : (c : ℕ) (r : Row) → 0 < c → shared 0 (numbers (times (pos c) r)) ≡ shared 0 (numbers r) * c
shared-times c r h =
    let none : 0 * c ≡ 0 = omega arith in
    ap (shared 0) (map-append_one (λ z. pos c *ℤ z) r.coef r.cst)
    ∙ subst (λ k. shared k (map (λ z. pos c *ℤ z) (numbers r)) ≡ shared 0 (numbers r) * c) none (shared-scaled 0 c (numbers r) h)

-- what is shared by the divided row's numbers, times the divisor
shared-divided : (r : Row) → shared 0 (numbers (divided r)) * divisor r ≡ shared 0 (numbers r)
shared-divided r =
    sym (shared-times (divisor r) (divided r) (divisor-pos r)) ∙ ap (λ s. shared 0 (numbers s)) (times-divided r)

one_left : (s k d : ℕ) → s * d ≡ k → d ≡ max 1 k → max 1 s ≡ 1
one_left s zero d e h = let one : d ≡ 1 = omega arith in omega (arith, subst (λ x. s * x ≡ 0) one e)
one_left s (suc k) d e h =
    let same : d ≡ suc k = omega arith in
    let cancel : s * suc k ≡ 1 * suc k = omega (arith, subst (λ x. s * x ≡ suc k) same e) in
    let one : s ≡ 1 = eq_of_mul-eq-mul_right (suc k) (omega arith) s 1 cancel in omega arith

pub divisor-divided : (r : Row) → divisor (divided r) ≡ 1
divisor-divided r =
    divisor-shared (divided r) ∙ one_left (shared 0 (numbers (divided r))) (shared 0 (numbers r)) (divisor r) (shared-divided r) (divisor-shared r)

all_once : (zs : List ℤ) → map (λ z. pos 1 *ℤ z) zs ≡ zs
all_once [] = refl
all_once (z ∷ zs) = let e : pos 1 *ℤ z ≡ z = omega (arith, ints) in let rest = all_once zs in cc

times-one : (r : Row) → times (pos 1) r ≡ r
times-one r = let e = all_once r.coef in let f : pos 1 *ℤ r.cst ≡ r.cst = omega (arith, ints) in λ i. record { coef = e i; cst = f i; strict = r.strict }

-- nothing changes where the divisor is 1
pub quotient-by_one : (f z : ℤ) → f ≡ pos 1 → int_div z f ≡ z
quotient-by_one f z e =
    let same : pos 1 *ℤ int_div z (pos 1) ≡ z = exact 1 z (one-dvd (unsigned_abs z)) in
    ap (int_div z) e ∙ omega (arith, ints, same)

pub quotients-by_one : (f : ℤ) (zs : List ℤ) → f ≡ pos 1 → map (λ z. int_div z f) zs ≡ zs
quotients-by_one f [] e = refl
quotients-by_one f (z ∷ zs) e = let here = quotient-by_one f z e in let rest = quotients-by_one f zs e in cc

-- a row is divided exactly where its divisor is 1
pub divided-from_one : (r : Row) → divisor r ≡ 1 → divided r ≡ r
divided-from_one r e = sym (times-one (divided r)) ∙ subst (λ k. times (pos k) (divided r) ≡ r) e (times-divided r)

pub one_from_divided : (r : Row) → divided r ≡ r → divisor r ≡ 1
one_from_divided r e = sym (ap divisor e) ∙ divisor-divided r

-- ---- what is kept of a row

pub divided-IsKept : (r : Row) → length r.coef ≤ 14 → All FitsBits r.coef → FitsBits r.cst → IsKeptRow (divided r)
unfolding divided
divided-IsKept r few fits cst = record {
  few = omega (arith, length-map r.coef (λ c. int_div c (pos (divisor r))));
  lowest_terms = divided-from_one (divided r) (divisor-divided r);
  coef_fits = All-map FitsBits (λ c. int_div c (pos (divisor r))) r.coef (All-weaker FitsBits (λ c. FitsBits (int_div c (pos (divisor r)))) (quotient-fits (divisor r)) r.coef fits);
  cst_fits = quotient-fits (divisor r) r.cst cst;
}

-- the numbers that are left of a row where they are divided by f
pub divided_coef : (cs : List ℤ) (c : ℤ) (s : Bool) (f : ℤ) (qs : List ℤ) → f ≡ pos (divisor (record { coef = cs; cst = c; strict = s })) →
    qs ≡ map (λ z. int_div z f) cs → qs ≡ (divided (record { coef = cs; cst = c; strict = s })).coef
unfolding divided
divided_coef cs c s f qs d e = e ∙ ap (λ k. map (λ z. int_div z k) cs) d

pub divided_cst : (cs : List ℤ) (c : ℤ) (s : Bool) (f q : ℤ) → f ≡ pos (divisor (record { coef = cs; cst = c; strict = s })) →
    q ≡ int_div c f → q ≡ (divided (record { coef = cs; cst = c; strict = s })).cst
unfolding divided
divided_cst cs c s f q d e = e ∙ ap (int_div c) d

-- with the mark they are the divided row
pub divided_fields : (cs : List ℤ) (c : ℤ) (s : Bool) (qs : List ℤ) (q : ℤ) → qs ≡ (divided (record { coef = cs; cst = c; strict = false })).coef →
    q ≡ (divided (record { coef = cs; cst = c; strict = false })).cst → ◌≡◌ {A = Row} (record { coef = qs; cst = q; strict = s }) (divided (record { coef = cs; cst = c; strict = s }))
unfolding divided divisor
divided_fields cs c s qs q coef cst = λ i. record { coef = coef i; cst = cst i; strict = s }
