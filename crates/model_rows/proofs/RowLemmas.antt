-- Numbers as a row, and a row negated.
use Rattle.std.proofs.Common.{◌≡◌, ℕ, zero, suc, ◌^◌, ◌/◌, ◌<◌, max, get_or, List, [], ◌∷◌, ◌++◌, map, length, take, fold, Bool, refl, sym, ◌∙◌, ap, subst, arith, ℤ, pos, negsuc, neg_ℤ, unsigned_abs}
use Rattle.std.specs.Prelude.{All, int_div}
use Rattle.std.proofs.Math.IntN.{neg_ℤ-neg_ℤ}
use Rattle.std.proofs.Math.Nat.{zero-div}
use Rattle.std.proofs.lemmas.List.Elements.{All-map, All-weaker}
use Rattle.poly_specs.specs.Bits.{FitsBits}
use Rattle.poly_specs.specs.Elimination.{gcd, divisor, divided}
use Rattle.poly_specs.specs.Rows.{Row}
use Rattle.poly_specs.specs.Systems.{negated}
use Rattle.model_specs.specs.Parts.{all_but_last, last_of, row_over}

-- ---- the last of some numbers, and those before it

all_but_last_is : (n : ℕ) (zs : List ℤ) → length zs ≡ suc n → all_but_last zs ≡ take n zs
all_but_last_is n [] h = absurd (omega (arith, h))
all_but_last_is zero (z ∷ []) h = refl
all_but_last_is (suc n) (z ∷ []) h = absurd (omega (arith, h))
all_but_last_is zero (z ∷ y ∷ zs) h = absurd (omega (arith, h))
all_but_last_is (suc n) (z ∷ y ∷ zs) h = ap (λ ys. z ∷ ys) (all_but_last_is n (y ∷ zs) (omega (arith, h)))

last_is : (n : ℕ) (zs : List ℤ) (d : ℤ) → length zs ≡ suc n → last_of zs ≡ get_or zs n d
last_is n [] d h = absurd (omega (arith, h))
last_is zero (z ∷ []) d h = refl
last_is (suc n) (z ∷ []) d h = absurd (omega (arith, h))
last_is zero (z ∷ y ∷ zs) d h = absurd (omega (arith, h))
last_is (suc n) (z ∷ y ∷ zs) d h = last_is n (y ∷ zs) d (omega (arith, h))

pub row_over_is : (strict : Bool) (zs : List ℤ) (n : ℕ) (d : ℤ) → length zs ≡ suc n →
    record { coef = take n zs; cst = get_or zs n d; strict = strict } ≡ row_over strict zs
row_over_is strict zs n d h =
    ap (λ (cs : List ℤ). record { coef = cs; cst = get_or zs n d; strict = strict }) (sym (all_but_last_is n zs h))
    ∙ ap (λ (c : ℤ). record { coef = all_but_last zs; cst = c; strict = strict }) (sym (last_is n zs d h))

-- ---- negation

abs-neg : (z : ℤ) → unsigned_abs (neg_ℤ z) ≡ unsigned_abs z
abs-neg (pos zero) = refl
abs-neg (pos (suc n)) = refl
abs-neg (negsuc n) = refl

pub fits_neg : (z : ℤ) → FitsBits z → FitsBits (neg_ℤ z)
fits_neg z h = subst (λ n. n < 2 ^ 127) (sym (abs-neg z)) h

pub fit_neg : (zs : List ℤ) → All FitsBits zs → All FitsBits (map neg_ℤ zs)
fit_neg zs h = All-map FitsBits neg_ℤ zs (All-weaker FitsBits (λ z. FitsBits (neg_ℤ z)) fits_neg zs h)

quotient-neg : (g : ℕ) (z : ℤ) → int_div (neg_ℤ z) (pos g) ≡ neg_ℤ (int_div z (pos g))
quotient-neg g (pos zero) = let e = zero-div g in ap pos e ∙ ap (λ (n : ℕ). neg_ℤ (pos n)) (sym e)
quotient-neg g (pos (suc n)) = refl
quotient-neg g (negsuc n) = sym (neg_ℤ-neg_ℤ (pos (suc n / g)))

quotients-neg : (g : ℕ) (zs : List ℤ) → map (λ c. int_div c (pos g)) (map neg_ℤ zs) ≡ map neg_ℤ (map (λ c. int_div c (pos g)) zs)
quotients-neg g [] = refl
quotients-neg g (z ∷ zs) =
    ap (λ y. y ∷ map (λ c. int_div c (pos g)) (map neg_ℤ zs)) (quotient-neg g z)
    ∙ ap (λ ys. neg_ℤ (int_div z (pos g)) ∷ ys) (quotients-neg g zs)

fold-neg : (a : ℕ) (zs : List ℤ) (y : ℤ) →
    fold (λ g z. gcd g (unsigned_abs z)) a (map neg_ℤ zs ++ neg_ℤ y ∷ []) ≡ fold (λ g z. gcd g (unsigned_abs z)) a (zs ++ y ∷ [])
fold-neg a [] y = ap (gcd a) (abs-neg y)
fold-neg a (z ∷ zs) y =
    ap (λ k. fold (λ g z. gcd g (unsigned_abs z)) (gcd a k) (map neg_ℤ zs ++ neg_ℤ y ∷ [])) (abs-neg z)
    ∙ fold-neg (gcd a (unsigned_abs z)) zs y

divisor-neg : (r : Row) → divisor (negated r) ≡ divisor r
unfolding divisor
divisor-neg r = ap (max 1) (fold-neg 0 r.coef r.cst)

divided-neg : (r : Row) → divided (negated r) ≡ negated (divided r)
unfolding divided
divided-neg r =
    ap (λ (g : ℕ). record { coef = map (λ c. int_div c (pos g)) (map neg_ℤ r.coef); cst = int_div (neg_ℤ r.cst) (pos g); strict = r.strict }) (divisor-neg r)
    ∙ ap (λ (cs : List ℤ). record { coef = cs; cst = int_div (neg_ℤ r.cst) (pos (divisor r)); strict = r.strict }) (quotients-neg (divisor r) r.coef)
    ∙ ap (λ (c : ℤ). record { coef = map neg_ℤ (map (λ c. int_div c (pos (divisor r))) r.coef); cst = c; strict = r.strict }) (quotient-neg (divisor r) r.cst)

-- a row whose numbers have no common divisor, negated, has none
pub negated_is : (r : Row) → divided r ≡ r → divided (negated r) ≡ negated r
negated_is r h = divided-neg r ∙ ap negated h

pub divided_same : (cs ds : List ℤ) (c d : ℤ) (s t : Bool) → cs ≡ ds → c ≡ d → s ≡ t →
    divided (record { coef = cs; cst = c; strict = s }) ≡ divided (record { coef = ds; cst = d; strict = t })
divided_same cs ds c d s t e f g =
    ap (λ (zs : List ℤ). divided (record { coef = zs; cst = c; strict = s })) e
    ∙ ap (λ (z : ℤ). divided (record { coef = ds; cst = z; strict = s })) f
    ∙ ap (λ (b : Bool). divided (record { coef = ds; cst = d; strict = b })) g
