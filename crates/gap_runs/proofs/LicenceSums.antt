-- The numbers of a difference of at least 0 are no larger than those of its two parts over a common denominator.
use Rattle.std.proofs.Common.{◌≡◌, ◌^◌, ℕ, zero, suc, ◌*◌, ◌/◌, ◌<◌, ◌≤◌, List, length, get_or, sym, ◌∙◌, ap, subst, arith, ℤ, pos, neg_ℤ, ◌+ℤ◌, ◌*ℤ◌, ◌<ℤ◌, ◌≤ℤ◌, unsigned_abs}
use Rattle.std.specs.Int.{◌∣◌}
use Rattle.std.specs.List.{AllByRecursion}
use Rattle.std.proofs.Math.Nat.{mul-div_cancel', le_of_dvd, le_of_mul-le-mul_right, mul-le-mul_left}
use Rattle.std.proofs.lemmas.Int.{ints, unsigned_abs-mul}
use Rattle.std.proofs.lemmas.List.{get_or-map, length-map}
use Rattle.std.proofs.lemmas.List.Elements.{All-from_recursion}
use Rattle.column_pick.proofs.CommonLemmas.{over_common}
use Rattle.fm_eliminate.proofs.HoldingLemmas.{some_passes}
use Rattle.frac128.proofs.CommonLemmas.{den_of, each_divides, common_positive, nums_of, den_of_all}
use Rattle.gap_runs.proofs.LeastLemmas.{lcm_least}
use Rattle.poly_specs.proofs.ColumnLemmas.{abs_is}
use Rattle.poly_specs.proofs.CombinationLemmas.{gcd-IsGcd}
use Rattle.poly_specs.proofs.FractionLemmas.{same-trans}
use Rattle.poly_specs.proofs.GcdLemmas.{gcd-positive}
use Rattle.poly_specs.proofs.IntLemmas.{products, product_positive, mul_le_pos, mul_le_cancel, mul_comm_int, neg_mul}
use Rattle.poly_specs.proofs.LowestLemmas.{size-positive, same-lowest}
use Rattle.poly_specs.specs.Arithmetic.{lowest, sum_numbers}
use Rattle.poly_specs.specs.Bits.{FitsBits, NonePasses, SomePasses}
use Rattle.poly_specs.specs.Denominators.{lcm, common_den, common_numbers, num_over}
use Rattle.poly_specs.specs.Elimination.{gcd}
use Rattle.poly_specs.specs.Fractions.{Fraction, IsFraction, SameFraction, AtMost, opposite, zero_fraction}
use Rattle.poly_specs.specs.LowestTerms.{IsLowest}

not_both : (ns : List ℤ) → SomePasses ns → NonePasses ns → ⊥
not_both ns (k, n, h, e, p) none = go (unsigned_abs n) (2 ^ 127) (subst FitsBits e (none k n h)) p
  where
    go : (a b : ℕ) → a < b → b ≤ a → ⊥
    go a b h g = absurd (omega (arith, h, g))

-- over a denominator that is no larger, a number is no larger
no_larger : (n u d : ℤ) (c : ℕ) → unsigned_abs d ≤ c → 0 < c → n *ℤ pos c ≡ u *ℤ d → unsigned_abs n ≤ unsigned_abs u
no_larger n u d c le hc same = go (unsigned_abs n) (unsigned_abs u) (unsigned_abs d) le (sym (unsigned_abs-mul n (pos c)) ∙ ap unsigned_abs same ∙ unsigned_abs-mul u d)
  where
    go : (a b e : ℕ) → e ≤ c → a * c ≡ b * e → a ≤ b
    go a b e l s =
        let f : b * e ≤ b * c = mul-le-mul_left b l in
        let g : a * c ≤ b * c = omega (arith, f, s) in
        le_of_mul-le-mul_right g hc

-- a number over a multiple of its denominator
module _ (x : Fraction) (xs : List Fraction) (i : ℕ) (hi : i < length xs) (all : AllByRecursion IsFraction xs) (low : IsLowest x) (at : SameFraction (get_or xs i zero_fraction) x) where
  abbrev z : Fraction
  z = get_or xs i zero_fraction

  z_is : IsFraction z
  z_is = All-from_recursion IsFraction xs all i zero_fraction hi

  lowest_is : lowest z ≡ x
  lowest_is = same-lowest z x z_is low.positive at ∙ low.lowest_terms

  z_divides : den_of z ∣ common_den xs
  z_divides = All-from_recursion (λ y. den_of y ∣ common_den xs) xs (each_divides xs) i zero_fraction hi

  pub divides : unsigned_abs x.den ∣ common_den xs
  divides = subst (λ y. unsigned_abs y.den ∣ common_den xs) lowest_is z_divides

  -- with a factor, over a denominator that divides the common one
  pub times_fits : (k : ℕ) → 0 < k → unsigned_abs (x.den *ℤ pos k) ≤ common_den xs → NonePasses (common_numbers xs) → FitsBits (x.num *ℤ pos k)
  times_fits k hk le none =
      let c : ℕ = common_den xs in
      let hc : 0 < c = common_positive xs all in
      let u : ℤ = num_over c z in
      let over : SameFraction (record { num = u; den = pos c }) x =
      same-trans (record { num = u; den = pos c }) z x (omega (arith, ints, hc)) z_is low.positive (over_common z c z_is hc z_divides) at in
      let hd : pos 0 <ℤ (x.den *ℤ pos k) = product_positive x.den (pos k) low.positive (omega (arith, ints, hk)) in
      let here : SameFraction (record { num = x.num *ℤ pos k; den = x.den *ℤ pos k }) x = turned x.num x.den (pos k) in
      let same : (x.num *ℤ pos k) *ℤ pos c ≡ u *ℤ (x.den *ℤ pos k) =
      same-trans (record { num = x.num *ℤ pos k; den = x.den *ℤ pos k }) x (record { num = u; den = pos c }) hd low.positive (omega (arith, ints, hc)) here (sym over) in
      let fits : FitsBits u = subst FitsBits (get_or-map (num_over c) xs i zero_fraction (pos 0) hi) (nums_of xs none i (pos 0) (subst (λ n. i < n) (sym (length-map xs (num_over c))) hi)) in
      smaller (unsigned_abs (x.num *ℤ pos k)) (unsigned_abs u) (no_larger (x.num *ℤ pos k) u (x.den *ℤ pos k) c le hc same) fits
    where
      turned : (n d k : ℤ) → (n *ℤ k) *ℤ d ≡ n *ℤ (d *ℤ k)
      turned n d k = omega (arith, products)

      smaller : (a b : ℕ) → a ≤ b → b < 2 ^ 127 → a < 2 ^ 127
      smaller a b h g = omega (arith, h, g)

module _ (x y : Fraction) (xs : List Fraction) (i j : ℕ) (hi : i < length xs) (hj : j < length xs) (all : AllByRecursion IsFraction xs) (lx : IsLowest x) (ly : IsLowest y)
    (at_x : SameFraction (get_or xs i zero_fraction) x) (at_y : SameFraction (get_or xs j zero_fraction) y) (some : pos 0 ≤ℤ y.num) (less : AtMost y x) where
  abbrev a : ℕ
  a = unsigned_abs x.den

  abbrev b : ℕ
  b = unsigned_abs y.den

  abbrev g : ℕ
  g = gcd a b

  -- what the first number is multiplied by, and the second
  abbrev k : ℕ
  k = b / g

  abbrev h : ℕ
  h = a / g

  b_some : 0 < b
  b_some = size-positive y.den ly.positive

  a_some : 0 < a
  a_some = size-positive x.den lx.positive

  g_some : 0 < g
  g_some = gcd-positive a b b_some

  a_parts : g * h ≡ a
  a_parts = mul-div_cancel' g (gcd-IsGcd a b).0

  b_parts : g * k ≡ b
  b_parts = mul-div_cancel' g (gcd-IsGcd a b).1

  factor_some : (g n m : ℕ) → 0 < m → g * n ≡ m → 0 < n
  factor_some g zero m hm e = absurd (omega (arith, hm, e))
  factor_some g (suc n) m hm e = omega arith

  least : lcm a b ≤ common_den xs
  least =
      le_of_dvd (common_positive xs all)
      (lcm_least a b (common_den xs) b_some (common_positive xs all) (divides x xs i hi all lx at_x) (divides y xs j hj all ly at_y))

  first_den : unsigned_abs (x.den *ℤ pos k) ≡ lcm a b
  first_den = unsigned_abs-mul x.den (pos k)

  second_den : unsigned_abs (y.den *ℤ pos h) ≡ lcm a b
  second_den = unsigned_abs-mul y.den (pos h) ∙ crossed a b g h k a_parts b_parts
    where
      crossed : (a b g h k : ℕ) → g * h ≡ a → g * k ≡ b → b * h ≡ a * k
      crossed a b g h k e f = let u = ap (λ n. n * h) f in let v = ap (λ n. n * k) e in omega (arith, u, v)

  -- the first product, and the second without its sign
  abbrev first : ℤ
  first = x.num *ℤ pos k

  abbrev second : ℤ
  second = y.num *ℤ pos h

  -- the second is between 0 and the first
  second_some : pos 0 ≤ℤ second
  second_some =
      let e : y.num *ℤ pos h ≡ pos h *ℤ y.num = mul_comm_int y.num (pos h) in
      let f = mul_le_pos h (pos 0) y.num some in
      let z : pos h *ℤ pos 0 ≡ pos 0 = omega (arith, ints) in
      omega (arith, ints, e, f, z)

  second_less : second ≤ℤ first
  second_less =
      mul_le_cancel g second first g_some
      (subst (λ n. n ≤ℤ (pos g *ℤ first)) (sym (whole y.num x.den h a_parts (abs_is x.den lx.positive))) (subst (λ n. (y.num *ℤ x.den) ≤ℤ n) (sym (whole x.num y.den k b_parts (abs_is y.den ly.positive))) less))
    where
      whole : (n d : ℤ) (k : ℕ) → g * k ≡ unsigned_abs d → pos (unsigned_abs d) ≡ d → pos g *ℤ (n *ℤ pos k) ≡ n *ℤ d
      whole n d k e f =
          let one : pos g *ℤ pos k ≡ d = ap pos e ∙ f in
          regroup (pos g) n (pos k) ∙ ap (λ z. n *ℤ z) one
        where
          regroup : (g n k : ℤ) → g *ℤ (n *ℤ k) ≡ n *ℤ (g *ℤ k)
          regroup g n k = omega (arith, products)

  all_fit : NonePasses (common_numbers xs) → NonePasses (sum_numbers x (opposite y))
  all_fit none =
      let one : FitsBits first = times_fits x xs i hi all lx at_x k (factor_some g k b b_some b_parts) (subst (λ n. n ≤ common_den xs) (sym first_den) least) none in
      let two : FitsBits second = times_fits y xs j hj all ly at_y h (factor_some g h a a_some a_parts) (subst (λ n. n ≤ common_den xs) (sym second_den) least) none in
      let minus : neg_ℤ y.num *ℤ pos h ≡ neg_ℤ second = neg_mul y.num (pos h) in
      let den : unsigned_abs (x.den *ℤ pos k) ≤ common_den xs = subst (λ n. n ≤ common_den xs) (sym first_den) least in
      All-from_recursion FitsBits (sum_numbers x (opposite y)) (
        one,
        (
          subst FitsBits (sym minus) (negated second two),
          (
            subst (λ n. FitsBits (first +ℤ n)) (sym minus) (between first second second_some second_less one),
            (smaller (unsigned_abs (x.den *ℤ pos k)) (common_den xs) den (den_of_all xs none), tt),
          ),
        ),
      )
    where
      smaller : (a b : ℕ) → a ≤ b → b < 2 ^ 127 → a < 2 ^ 127
      smaller a b h g = omega (arith, h, g)

      negated : (z : ℤ) → FitsBits z → FitsBits (neg_ℤ z)
      negated z f = let e : unsigned_abs (neg_ℤ z) ≡ unsigned_abs z = omega (arith, ints) in subst (λ n. n < 2 ^ 127) (sym e) f

      between : (u v : ℤ) → pos 0 ≤ℤ v → v ≤ℤ u → FitsBits u → FitsBits (u +ℤ neg_ℤ v)
      between u v hv hu f = let e : unsigned_abs (u +ℤ neg_ℤ v) ≤ unsigned_abs u = omega (arith, ints, hv, hu) in smaller (unsigned_abs (u +ℤ neg_ℤ v)) (unsigned_abs u) e f

  -- so where one of its numbers passes, writing these numbers over their least common denominator does
  pub difference_passes : SomePasses (sum_numbers x (opposite y)) → SomePasses (common_numbers xs)
  difference_passes h = some_passes (common_numbers xs) (λ none. not_both (sum_numbers x (opposite y)) h (all_fit none))
