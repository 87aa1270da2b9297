-- What the numbers of a sum and of a product say of the fractions.
use Rattle.std.proofs.Common.{◌≡◌, ◌↔◌, ℕ, ◌/◌, refl, sym, ap, ◌∙◌, subst, ℤ, pos, ◌+ℤ◌, ◌*ℤ◌, ◌<ℤ◌, unsigned_abs, int_div, Option, Some, None, SomeIff, IsSome, IfSome, true≢false}
use Rattle.std.proofs.lemmas.List.Elements.{All-from_recursion, recursion_from_All}
use Rattle.poly_specs.proofs.CombinationLemmas.{positive}
use Rattle.poly_specs.proofs.LowestLemmas.{least_sum-IsFraction, lowest-least_sum, crossed_product-IsFraction, lowest-crossed_product}
use Rattle.poly_specs.specs.Arithmetic.{left_factor, right_factor, sum_numbers, crossed_num, crossed_den, product_numbers}
use Rattle.poly_specs.specs.Bits.{FitsBits, NonePasses}
use Rattle.poly_specs.specs.Elimination.{gcd}
use Rattle.poly_specs.specs.Fractions.{Fraction, IsFraction, sum_of, product_of}
use Rattle.frac128.specs.Parts.{Makes}

-- what a value exactly where P holds says, where P is Q
from_SomeIff : {A : Type 0} (o : Option A) (P Q : Type 0) (v : A) (R : A → Type 0) →
    SomeIff o P v → (P → Q) → (Q → P) → (P → R v) → (IsSome o ↔ Q) × IfSome o R
from_SomeIff None P Q v R h f g k = ((λ e. absurd (true≢false (sym e)), λ q. absurd (h (g q))), tt)
from_SomeIff (Some x) P Q v R h f g k = ((λ e. f h.0, λ q. refl), subst R (sym h.1) (k h.0))

-- a factor of a positive number, as a natural number
factor_is : (d g : ℤ) (n : ℕ) → pos 0 <ℤ d → g ≡ pos n → int_div d g ≡ pos (unsigned_abs d / n)
factor_is d g n h e = rw (e, positive d h) refl

-- what `sum_over` tests, at the factors p and q
abbrev pub SumFits : Fraction → Fraction → ℤ → ℤ → Type 0
SumFits x y p q = FitsBits (x.num *ℤ p) × FitsBits (y.num *ℤ q) × FitsBits (x.num *ℤ p +ℤ y.num *ℤ q) × FitsBits (x.den *ℤ p)

-- what `sum_parts` ensures of its result
abbrev pub SumSays : Option (ℤ × ℤ) → Fraction → Fraction → Type 0
SumSays o x y = (IsSome o ↔ NonePasses (sum_numbers x y)) × IfSome o (λ r. Makes r.0 r.1 (sum_of x y))

-- what `sum_over` ensures of its result
abbrev pub SumAt : Option (ℤ × ℤ) → Fraction → Fraction → ℤ → ℤ → Type 0
SumAt o x y p q = SomeIff o (SumFits x y p q) (x.num *ℤ p +ℤ y.num *ℤ q, x.den *ℤ p)

pub sum_says : (o : Option (ℤ × ℤ)) (x y : Fraction) (g p q : ℤ) → IsFraction x → IsFraction y →
    g ≡ pos (gcd (unsigned_abs x.den) (unsigned_abs y.den)) → p ≡ int_div y.den g → q ≡ int_div x.den g → SumAt o x y p q → SumSays o x y
sum_says o x y g p q hx hy ge pe qe said =
    let pl : p ≡ pos (left_factor x y) = pe ∙ factor_is y.den g _ hy ge in
    let qr : q ≡ pos (right_factor x y) = qe ∙ factor_is x.den g _ hx ge in
    let at : SumAt o x y (pos (left_factor x y)) (pos (right_factor x y)) = rw (pl, qr) at said in
    from_SomeIff o (SumFits x y (pos (left_factor x y)) (pos (right_factor x y))) (NonePasses (sum_numbers x y)) _ (λ r. Makes r.0 r.1 (sum_of x y)) at
    (λ f. All-from_recursion FitsBits (sum_numbers x y) (f.0, (f.1, (f.2, (f.3, tt)))))
    (λ f. let r = recursion_from_All FitsBits (sum_numbers x y) f in (r.0, r.1.0, r.1.1.0, r.1.1.1.0))
    (λ f. record { positive = least_sum-IsFraction x y hx hy; kept = f.2; same = lowest-least_sum x y hx hy })

-- what `product_over` tests
abbrev pub ProductFits : ℤ → ℤ → ℤ → ℤ → Type 0
ProductFits a c b d = FitsBits (a *ℤ c) × FitsBits (b *ℤ d)

-- what `product_parts` ensures of its result
abbrev pub ProductSays : Option (ℤ × ℤ) → Fraction → Fraction → Type 0
ProductSays o x y = (IsSome o ↔ NonePasses (product_numbers x y)) × IfSome o (λ r. Makes r.0 r.1 (product_of x y))

pub product_says : (o : Option (ℤ × ℤ)) (x y : Fraction) (g h a c b d : ℤ) → IsFraction x → IsFraction y →
    g ≡ pos (gcd (unsigned_abs x.num) (unsigned_abs y.den)) → h ≡ pos (gcd (unsigned_abs y.num) (unsigned_abs x.den)) →
    a ≡ int_div x.num g → c ≡ int_div y.num h → b ≡ int_div x.den h → d ≡ int_div y.den g →
    SomeIff o (ProductFits a c b d) (a *ℤ c, b *ℤ d) → ProductSays o x y
product_says o x y g h a c b d hx hy ge he ae ce be de said =
    let aa : a ≡ crossed_num x y = ae ∙ ap (int_div x.num) ge in
    let cc' : c ≡ crossed_num y x = ce ∙ ap (int_div y.num) he in
    let bb : b ≡ crossed_den x y = be ∙ ap (int_div x.den) he in
    let dd : d ≡ crossed_den y x = de ∙ ap (int_div y.den) ge in
    let at : SomeIff o (ProductFits (crossed_num x y) (crossed_num y x) (crossed_den x y) (crossed_den y x))
    (crossed_num x y *ℤ crossed_num y x, crossed_den x y *ℤ crossed_den y x) = rw (aa, cc', bb, dd) at said in
    from_SomeIff o _ (NonePasses (product_numbers x y)) _ (λ r. Makes r.0 r.1 (product_of x y)) at
    (λ f. All-from_recursion FitsBits (product_numbers x y) (f.0, (f.1, tt)))
    (λ f. let r = recursion_from_All FitsBits (product_numbers x y) f in (r.0, r.1.0))
    (λ f. record { positive = crossed_product-IsFraction x y hx hy; kept = f.0; same = lowest-crossed_product x y hx hy })
