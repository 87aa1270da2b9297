-- The picks of small sets.
use Rattle.std.proofs.Common.{◌≡◌, inl, inr, zero, suc, refl, sym, ◌∙◌, ap, arith, ℤ, pos, negsuc, ◌*ℤ◌, ◌<ℤ◌, unsigned_abs}
use Rattle.std.proofs.lemmas.Int.{ints}
use Rattle.poly_specs.proofs.IntLemmas.{mul_le, products, same_cancel}
use Rattle.poly_specs.proofs.FractionLemmas.{same-AtMost}
use Rattle.poly_specs.specs.Fractions.{Fraction, IsFraction, SameFraction, Below, zero_fraction}
use Rattle.poly_specs.specs.Picks.{IsInteger, IsPick}
use Rattle.example_specs.specs.Literals.{fraction, whole}
use Rattle.example_specs.specs.Sums.{IsInside, IsUpToThird}

-- no integer is strictly between 0 and 1
pub none_inside : (y : Fraction) → IsFraction y → (n : ℤ) → y.num ≡ n *ℤ y.den → pos 0 <ℤ y.num → y.num <ℤ y.den → ⊥
none_inside y hy (pos zero) e a b = absurd (omega (arith, ints, e, a))
none_inside y hy (pos (suc n)) e a b =
    absurd (let m = mul_le y.den (pos 1) (pos (suc n)) hy (omega (arith, ints)) in omega (arith, ints, e, b, m))
none_inside y hy (negsuc n) e a b =
    absurd (let m = mul_le y.den (negsuc n) (pos 0) hy (omega (arith, ints)) in omega (arith, ints, e, a, m))

-- 0 is picked where it is in the set
pub pick_zero : (S : Fraction → Type 0) (d : ℤ) → pos 0 <ℤ d → S (record { num = pos 0; den = d }) → IsPick S (record { num = pos 0; den = d })
pick_zero S d hd s = record {
  positive = hd;
  some = (record { num = pos 0; den = d }, hd, s);
  kind = inl (record { inside = s; integer = (pos 0, omega (arith, ints)); nearest = λ y hy t i. let m = mul_le d (pos 0) (pos (unsigned_abs y.num)) hd (omega (arith, ints)) in omega (arith, ints, m) });
}

-- of a set of one value, strictly between 0 and 1, that value is picked
pub pick_only : (S : Fraction → Type 0) (x : Fraction) → IsFraction x → Below zero_fraction x → Below x (whole 1) → S x → ((v : Fraction) → IsFraction v → S v → SameFraction v x) → IsPick S x
pick_only S x hx lo up s only = record {
  positive = hx;
  some = (x, hx, s);
  kind = inr (
    λ y hy t i. outside y hy (only y hy t) i,
    (
      x,
      x,
      inl (
        omega (arith, ints, lo),
        record {
          low_is = hx;
          high_is = hx;
          ordered = omega (arith, ints);
          outside = λ y hy t. (let b = same-AtMost y x (only y hy t) in (b.1, b.0));
          between = λ y hy a b. absurd (omega (arith, ints, a, b));
        },
      ),
      inl (s, refl),
    ),
  );
}
  where
    -- x is no integer
    outside : (y : Fraction) → IsFraction y → SameFraction y x → IsInteger y → ⊥
    outside y hy e (n, i) =
        let f : x.num *ℤ y.den ≡ (n *ℤ x.den) *ℤ y.den = sym e ∙ ap (λ z. z *ℤ x.den) i ∙ swap n y.den x.den in
        none_inside x hx n (same_cancel y.den x.num (n *ℤ x.den) hy (omega (arith, products, f))) (omega (arith, ints, lo)) (omega (arith, ints, up))
      where
        swap : (n d e : ℤ) → (n *ℤ d) *ℤ e ≡ (n *ℤ e) *ℤ d
        swap n d e = omega (arith, products)

pub pick_inside : IsPick IsInside (fraction 1 2)
pick_inside = record {
  positive = record { lt = tt };
  some = (fraction 1 2, record { lt = tt }, (record { lt = tt }, record { lt = tt }));
  kind = inr (
    λ y hy s i. none_inside y hy i.0 i.1 (omega (arith, ints, s.0)) (omega (arith, ints, s.1)),
    (
      zero_fraction,
      whole 1,
      inl (
        record { le = tt },
        record {
          low_is = record { lt = tt };
          high_is = record { lt = tt };
          ordered = record { le = tt };
          outside = λ y hy s. (omega (arith, ints, s.0), omega (arith, ints, s.1));
          between = λ y hy a b. (a, b);
        },
      ),
      inr (inr (λ s. absurd (omega (arith, ints, s.0)), λ s. absurd (omega (arith, ints, s.1)), refl)),
    ),
  );
}

pub pick_up_to_third : IsPick IsUpToThird (fraction 1 3)
pick_up_to_third = record {
  positive = record { lt = tt };
  some = (fraction 1 3, record { lt = tt }, (record { lt = tt }, record { le = tt }));
  kind = inr (
    λ y hy s i. none_inside y hy i.0 i.1 (omega (arith, ints, s.0)) (omega (arith, ints, s.1, hy)),
    (
      zero_fraction,
      fraction 1 3,
      inl (
        record { le = tt },
        record {
          low_is = record { lt = tt };
          high_is = record { lt = tt };
          ordered = record { le = tt };
          outside = λ y hy s. (omega (arith, ints, s.0), s.1);
          between = λ y hy a b. (a, omega (arith, ints, b));
        },
      ),
      inr (inl (λ s. absurd (omega (arith, ints, s.0)), (record { lt = tt }, record { le = tt }), refl)),
    ),
  );
}
