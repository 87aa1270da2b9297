-- The bounds of two small systems, and one combination of rows.
use Rattle.std.proofs.Common.{◌≡◌, inl, inr, List, [], ◌∷◌, length, refl, ap, subst, arith, ℤ, pos, negsuc, ◌*ℤ◌, ◌<ℤ◌, lit<, true}
use Rattle.std.proofs.lemmas.Int.{ints}
use Rattle.std.proofs.lemmas.List.Elements.{All-from_recursion}
use Rattle.poly_specs.proofs.FractionLemmas.{either, middle-den, middle-between, AtMost-Below, Below-AtMost, AtMost-trans, same-AtMost}
use Rattle.poly_specs.specs.Fractions.{Fraction, IsFraction, SameFraction, AtMost, Below, zero_fraction}
use Rattle.poly_specs.specs.Rows.{Point, over, row_value, Holds, AllHold}
use Rattle.poly_specs.specs.Sets.{IsGreatest, IsLimit}
use Rattle.poly_specs.specs.Bounds.{IsPoint, IsSum, sum_at}
use Rattle.poly_specs.specs.Picks.{middle}
use Rattle.poly_specs.specs.Elimination.{gcd, divisor, divided, combination}
use Rattle.run_specs.specs.Automaton.{never}
use Rattle.example_specs.proofs.RunTests.{holds_from}
use Rattle.example_specs.proofs.TankBounds.{one_number}
use Rattle.example_specs.specs.Literals.{whole, fraction, row}
use Rattle.example_specs.specs.Shutters.{strictly_inside}
use Rattle.example_specs.specs.Sums.{only_x, x_and_y, triangle, from_below, from_above}

-- ---- strictly between 0 and 1

-- the point of one number
abbrev at : Fraction → Point
at v = over v.den (v.num ∷ [])

inside_at : (v : Fraction) → IsFraction v → Below zero_fraction v → Below v (whole 1) → IsPoint 1 strictly_inside (at v)
inside_at v hv lo up = record {
  positive = hv;
  sized = refl;
  holds = All-from_recursion (λ r. Holds r (at v)) strictly_inside (omega (arith, ints, lo), (omega (arith, ints, up), tt));
}

value_of : (n d : ℤ) → row_value only_x (over d (n ∷ [])) ≡ n
value_of n d = omega (arith, ints)

sum_there : (v : Fraction) → IsFraction v → Below zero_fraction v → Below v (whole 1) → IsSum 1 strictly_inside only_x v
sum_there v hv lo up = (at v, inside_at v hv lo up, ap (λ n. n *ℤ v.den) (value_of v.num v.den))

-- what the system says of a sum
sum_bounds : (v : Fraction) → IsFraction v → IsSum 1 strictly_inside only_x v → Below v (whole 1)
sum_bounds v hv (p, is, e) =
    let q = one_number p.num is.sized in
    let r = subst (λ ns. AllHold strictly_inside (over p.den ns)) q.1 is.holds 1 never (lit< tt) in
    let f = subst (λ ns. SameFraction (sum_at only_x (over p.den ns)) v) q.1 e in
    under q.0 p.den r is.positive f
  where
    under : (n d : ℤ) → Holds (record { coef = pos 1 ∷ []; cst = negsuc 0; strict = true }) (over d (n ∷ [])) → pos 0 <ℤ d →
        SameFraction (sum_at only_x (over d (n ∷ []))) v → Below v (whole 1)
    under n d r hd f =
        let x : Fraction = sum_at only_x (over d (n ∷ [])) in
        AtMost-Below v x (whole 1) hv hd (record { lt = tt }) (same-AtMost x v f).1 (omega (arith, ints, r))

pub limit_is : IsLimit (IsSum 1 strictly_inside only_x) (whole 1)
limit_is = record {
  missing = λ s. (let b = sum_bounds (whole 1) (record { lt = tt }) s in absurd (omega (arith, ints, b)));
  all_below = λ x hx s. sum_bounds x hx s;
  approached = λ u hu lt. elim (either zero_fraction u) [
    | inl up ↦ (
        let m = middle-between u (whole 1) hu (record { lt = tt }) lt in
        let hm = middle-den u (whole 1) hu (record { lt = tt }) in
        let above = AtMost-Below zero_fraction u (middle u (whole 1)) (record { lt = tt }) hu hm (Below-AtMost zero_fraction u up) m.0 in
        (middle u (whole 1), hm, (sum_there (middle u (whole 1)) hm above m.1, m.0)))
    | inr down ↦ (
      fraction 1 2,
      record { lt = tt },
      (
        sum_there (fraction 1 2) (record { lt = tt }) (record { lt = tt }) (record { lt = tt }),
        AtMost-Below u zero_fraction (fraction 1 2) hu (record { lt = tt }) (record { lt = tt }) down (record { lt = tt }),
      ),
    )
  ];
}

-- ---- the triangle

two_numbers : (q : List ℤ) → length q ≡ 2 → (x y : ℤ) × (q ≡ x ∷ y ∷ [])
two_numbers [] e = absurd (omega arith)
two_numbers (x ∷ []) e = absurd (omega arith)
two_numbers (x ∷ y ∷ []) e = (x, y, refl)
two_numbers (x ∷ y ∷ z ∷ q) e = absurd (omega arith)

pub greatest_is : IsGreatest (IsSum 2 triangle x_and_y) (whole 2)
greatest_is = record {
  inside = (over (pos 1) (pos 2 ∷ pos 0 ∷ []), record { positive = record { lt = tt }; sized = refl; holds = holds_from triangle (over (pos 1) (pos 2 ∷ pos 0 ∷ [])) tt }, refl);
  greatest = λ v hv s.
      let (p, is, e) = s in
      let q = two_numbers p.num is.sized in
      let h = subst (λ ns. AllHold triangle (over p.den ns)) q.2 is.holds in
      let f = subst (λ ns. SameFraction (sum_at x_and_y (over p.den ns)) v) q.2 e in
      at_most q.0 q.1 p.den v hv (h 1 never (lit< tt)) (h 2 never (lit< tt)) is.positive f;
}
  where
    at_most : (x y d : ℤ) (v : Fraction) → IsFraction v → Holds (row (pos 0 ∷ negsuc 0 ∷ []) (pos 0)) (over d (x ∷ y ∷ [])) → Holds (row (pos 1 ∷ pos 2 ∷ []) (negsuc 1)) (over d (x ∷ y ∷ [])) →
        pos 0 <ℤ d → SameFraction (sum_at x_and_y (over d (x ∷ y ∷ []))) v → AtMost v (whole 2)
    at_most x y d v hv a b hd f =
        let s : Fraction = sum_at x_and_y (over d (x ∷ y ∷ [])) in
        AtMost-trans v s (whole 2) hv hd (record { lt = tt }) (same-AtMost s v f).1 (omega (arith, ints, a, b))

-- ---- elimination

pub combined : combination 0 from_below from_above ≡ row (pos 0 ∷ pos 1 ∷ []) (negsuc 2)
unfolding gcd divisor divided
combined = refl
