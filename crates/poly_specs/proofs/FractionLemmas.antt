-- The order of fractions.
use Rattle.std.proofs.Common.{◌≡◌, ◌↔◌, ◌⊎◌, inl, inr, sym, ◌∙◌, ap, arith, ℤ, pos, negsuc, ◌+ℤ◌, ◌*ℤ◌, ◌≤ℤ◌, ◌<ℤ◌}
use Rattle.std.proofs.lemmas.Int.{ints, by_lt_z}
use Rattle.poly_specs.proofs.IntLemmas.{products, add_mul, mul_assoc_int, mul_comm_int, mul_le, le_cancel, mul_lt_pos, product_positive}
use Rattle.poly_specs.specs.Fractions.{zero_fraction, DifferAtMost, Fraction, IsFraction, SameFraction, AtMost, Below}
use Rattle.poly_specs.specs.Picks.{middle}

pub AtMost-trans : (x y z : Fraction) → IsFraction x → IsFraction y → IsFraction z → AtMost x y → AtMost y z → AtMost x z
AtMost-trans x y z hx hy hz h g =
    let a : (z.den *ℤ (x.num *ℤ y.den)) ≤ℤ (z.den *ℤ (y.num *ℤ x.den)) = mul_le z.den _ _ hz h in
    let b : (x.den *ℤ (y.num *ℤ z.den)) ≤ℤ (x.den *ℤ (z.num *ℤ y.den)) = mul_le x.den _ _ hx g in
    le_cancel y.den (x.num *ℤ z.den) (z.num *ℤ x.den) hy (omega (arith, products, a, b))

pub Below-AtMost : (x y : Fraction) → Below x y → AtMost x y
Below-AtMost x y h = omega (arith, ints, h)

pub Below-not : (x y : Fraction) → Below x y → AtMost y x → ⊥
Below-not x y h g = absurd (omega (arith, ints, h, g))

pub either : (x y : Fraction) → Below x y ⊎ AtMost y x
either x y = by_lt_z (x.num *ℤ y.den) (y.num *ℤ x.den) (λ lt. inl lt) (λ le. inr le)

pub AtMost-Below : (x y z : Fraction) → IsFraction x → IsFraction y → IsFraction z → AtMost x y → Below y z → Below x z
AtMost-Below x y z hx hy hz h g = elim (either x z) [
  | inl lt ↦ lt
  | inr le ↦ absurd (Below-not y z g (AtMost-trans z x y hz hx hy le h))
]

pub Below-AtMost_trans : (x y z : Fraction) → IsFraction x → IsFraction y → IsFraction z → Below x y → AtMost y z → Below x z
Below-AtMost_trans x y z hx hy hz h g = elim (either x z) [
  | inl lt ↦ lt
  | inr le ↦ absurd (Below-not x y h (AtMost-trans y z x hy hz hx g le))
]

pub AtMost-same : (x y : Fraction) → AtMost x y → AtMost y x → SameFraction x y
AtMost-same x y h g = omega (arith, ints, h, g)

pub same-AtMost : (x y : Fraction) → SameFraction x y → AtMost x y × AtMost y x
same-AtMost x y e = (omega (arith, ints, e), omega (arith, ints, e))

pub same-trans : (x y z : Fraction) → IsFraction x → IsFraction y → IsFraction z → SameFraction x y → SameFraction y z → SameFraction x z
same-trans x y z hx hy hz e f =
    let a = same-AtMost x y e in let b = same-AtMost y z f in
    AtMost-same x z (AtMost-trans x y z hx hy hz a.0 b.0) (AtMost-trans z y x hz hy hx b.1 a.1)

pub middle-den : (x y : Fraction) → IsFraction x → IsFraction y → IsFraction (middle x y)
middle-den x y hx hy = let h = product_positive x.den y.den hx hy in omega (arith, ints, h)

mul_lt : (k a b : ℤ) → pos 0 <ℤ k → a <ℤ b → (k *ℤ a) <ℤ (k *ℤ b)
mul_lt (pos k) a b h l = mul_lt_pos k a b (omega (arith, ints)) l
mul_lt (negsuc k) a b h l = absurd (omega (arith, ints))

pub middle-between : (x y : Fraction) → IsFraction x → IsFraction y → Below x y → Below x (middle x y) × Below (middle x y) y
middle-between x y hx hy h =
    let a = mul_lt x.den (x.num *ℤ y.den) (y.num *ℤ x.den) hx h in
    let b = mul_lt y.den (x.num *ℤ y.den) (y.num *ℤ x.den) hy h in
    (low x.num x.den y.num y.den a, high x.num x.den y.num y.den b)
  where
    low : (a b c d : ℤ) → (b *ℤ (a *ℤ d)) <ℤ (b *ℤ (c *ℤ b)) → (a *ℤ (pos 2 *ℤ (b *ℤ d))) <ℤ ((a *ℤ d +ℤ c *ℤ b) *ℤ b)
    low a b c d h =
        let e : a *ℤ (pos 2 *ℤ (b *ℤ d)) ≡ pos 2 *ℤ (a *ℤ (b *ℤ d)) = omega (arith, products) in
        let f : (a *ℤ d +ℤ c *ℤ b) *ℤ b ≡ (a *ℤ d) *ℤ b +ℤ (c *ℤ b) *ℤ b = add_mul (a *ℤ d) (c *ℤ b) b in
        let g : pos 2 *ℤ (a *ℤ (b *ℤ d)) ≡ a *ℤ (b *ℤ d) +ℤ a *ℤ (b *ℤ d) = omega (arith, ints) in
        rw (e, g, f) (omega (arith, products, h))

    high : (a b c d : ℤ) → (d *ℤ (a *ℤ d)) <ℤ (d *ℤ (c *ℤ b)) → ((a *ℤ d +ℤ c *ℤ b) *ℤ d) <ℤ (c *ℤ (pos 2 *ℤ (b *ℤ d)))
    high a b c d h =
        let e : c *ℤ (pos 2 *ℤ (b *ℤ d)) ≡ pos 2 *ℤ (c *ℤ (b *ℤ d)) = omega (arith, products) in
        let f : (a *ℤ d +ℤ c *ℤ b) *ℤ d ≡ (a *ℤ d) *ℤ d +ℤ (c *ℤ b) *ℤ d = add_mul (a *ℤ d) (c *ℤ b) d in
        let g : pos 2 *ℤ (c *ℤ (b *ℤ d)) ≡ c *ℤ (b *ℤ d) +ℤ c *ℤ (b *ℤ d) = omega (arith, ints) in
        rw (e, g, f) (omega (arith, products, h))

pub shuffle : (a b c d : ℤ) → (a *ℤ b) *ℤ (c *ℤ d) ≡ (a *ℤ c) *ℤ (b *ℤ d)
shuffle a b c d =
    let e : b *ℤ (c *ℤ d) ≡ c *ℤ (b *ℤ d) = omega (arith, products) in
    mul_assoc_int a b (c *ℤ d) ∙ ap (λ z. a *ℤ z) e ∙ sym (mul_assoc_int a c (b *ℤ d))

same_sum : (a b c d a' b' c' d' : ℤ) → a *ℤ b' ≡ a' *ℤ b → c *ℤ d' ≡ c' *ℤ d →
    (a *ℤ d +ℤ c *ℤ b) *ℤ (b' *ℤ d') ≡ (a' *ℤ d' +ℤ c' *ℤ b') *ℤ (b *ℤ d)
same_sum a b c d a' b' c' d' e f =
    let first : (a *ℤ d) *ℤ (b' *ℤ d') ≡ (a' *ℤ d') *ℤ (b *ℤ d) =
    shuffle a d b' d' ∙ ap (λ z. z *ℤ (d *ℤ d')) e ∙ ap (λ z. (a' *ℤ b) *ℤ z) (mul_comm_int d d') ∙ sym (shuffle a' d' b d) in
    let second : (c *ℤ b) *ℤ (b' *ℤ d') ≡ (c' *ℤ b') *ℤ (b *ℤ d) =
    ap (λ z. (c *ℤ b) *ℤ z) (mul_comm_int b' d') ∙ shuffle c b d' b' ∙ ap (λ z. z *ℤ (b *ℤ b')) f
    ∙ ap (λ z. (c' *ℤ d) *ℤ z) (mul_comm_int b b') ∙ sym (shuffle c' b' d b) ∙ ap (λ z. (c' *ℤ b') *ℤ z) (mul_comm_int d b) in
    add_mul (a *ℤ d) (c *ℤ b) (b' *ℤ d') ∙ ap (λ z. z +ℤ (c *ℤ b) *ℤ (b' *ℤ d')) first ∙ ap (λ z. (a' *ℤ d') *ℤ (b *ℤ d) +ℤ z) second
    ∙ sym (add_mul (a' *ℤ d') (c' *ℤ b') (b *ℤ d))

twice : (n m p q : ℤ) → n *ℤ p ≡ m *ℤ q → n *ℤ (pos 2 *ℤ p) ≡ m *ℤ (pos 2 *ℤ q)
twice n m p q e =
    let a : n *ℤ (pos 2 *ℤ p) ≡ pos 2 *ℤ (n *ℤ p) = omega (arith, products) in
    let b : m *ℤ (pos 2 *ℤ q) ≡ pos 2 *ℤ (m *ℤ q) = omega (arith, products) in
    a ∙ ap (λ z. pos 2 *ℤ z) e ∙ sym b

pub middle-same : (x y x' y' : Fraction) → SameFraction x x' → SameFraction y y' → SameFraction (middle x y) (middle x' y')
middle-same x y x' y' e f =
    twice _ _ (x'.den *ℤ y'.den) (x.den *ℤ y.den) (same_sum x.num x.den y.num y.den x'.num x'.den y'.num y'.den e f)

-- a tolerance of 0 asks for equality
pub DifferAtMost-zero : (v x : Fraction) → DifferAtMost zero_fraction v x ↔ SameFraction v x
DifferAtMost-zero v x = (
  λ h. (let a = h.0 in let b = h.1 in omega (arith, ints, a, b)),
  λ e. (omega (arith, ints, e), omega (arith, ints, e)),
)
