-- Fractions in lowest terms say what the fractions say.
use Rattle.std.proofs.Common.{◌≡◌, Bool, true, false, refl, sym, ◌∙◌, ap, ap₂, IsTrue, ◌↔◌, ◌&&◌, int_eq}
use Rattle.std.proofs.lemmas.Bool.Decides.{Decides-int_eq}
use Rattle.poly_specs.specs.Fractions.{Fraction, IsFraction, SameFraction, AtMost}
use Rattle.poly_specs.specs.Arithmetic.{lowest}
use Rattle.poly_specs.proofs.FractionLemmas.{AtMost-trans, same-AtMost}
use Rattle.poly_specs.proofs.LowestLemmas.{lowest-unique, lowest-same, lowest-IsFraction}

both_equal : (x y : Fraction) → int_eq x.num y.num && int_eq x.den y.den ≡ true → x ≡ y
both_equal x y e = go (int_eq x.num y.num) (int_eq x.den y.den) refl refl e
  where
    go : (b c : Bool) → int_eq x.num y.num ≡ b → int_eq x.den y.den ≡ c → b && c ≡ true → x ≡ y
    go true true p q r = ap₂ (λ n d. record { num = n; den = d }) ((Decides-int_eq x.num y.num).0 p) ((Decides-int_eq x.den y.den).0 q)
    go true false p q r = absurd (let b : ⊥ = cc in b)
    go false c p q r = absurd (let b : ⊥ = cc in b)

equal_both : (x y : Fraction) → x ≡ y → int_eq x.num y.num && int_eq x.den y.den ≡ true
equal_both x y e = rw ((Decides-int_eq x.num y.num).1 (ap (λ (f : Fraction). f.num) e), (Decides-int_eq x.den y.den).1 (ap (λ (f : Fraction). f.den) e)) refl

-- two fractions are the same where their lowest terms are equal number by number
pub same_says : (x y l m : Fraction) (ok : Bool) → IsFraction x → IsFraction y → l ≡ lowest x → m ≡ lowest y →
    ok ≡ int_eq l.num m.num && int_eq l.den m.den → IsTrue ok ↔ SameFraction x y
same_says x y l m ok hx hy el em e = (
  λ t. (lowest-unique x y hx hy).1 (sym el ∙ both_equal l m (sym e ∙ t) ∙ em),
  λ s. e ∙ equal_both l m (el ∙ (lowest-unique x y hx hy).0 s ∙ sym em),
)

-- the order of lowest terms is that of the fractions
pub lowest_at_most : (x y : Fraction) → IsFraction x → IsFraction y → AtMost (lowest x) (lowest y) ↔ AtMost x y
lowest_at_most x y hx hy =
    let lx = lowest-IsFraction x hx in
    let ly = lowest-IsFraction y hy in
    let sx = same-AtMost (lowest x) x (lowest-same x) in
    let sy = same-AtMost (lowest y) y (lowest-same y) in (
      λ h. AtMost-trans x (lowest x) y hx lx hy sx.1 (AtMost-trans (lowest x) (lowest y) y lx ly hy h sy.0),
      λ h. AtMost-trans (lowest x) x (lowest y) lx hx ly sx.0 (AtMost-trans x y (lowest y) hx hy ly h sy.1),
    )
