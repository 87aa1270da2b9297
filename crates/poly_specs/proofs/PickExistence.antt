-- An interval with something in it, whose ends are fractions or missing, has a pick; that of a closed interval is 0, an integer or what is nearest to 0.
use Rattle.std.proofs.Common.{◌≡◌, ◌⊎◌, inl, inr, ℕ, zero, suc, ◌*◌, ◌<◌, ◌≤◌, Bool, true, false, ◌||◌, Option, Some, None, refl, ◌∙◌, ap, subst, arith, ℤ, pos, negsuc, ◌*ℤ◌, ◌≤ℤ◌, ◌<ℤ◌, neg_ℤ, unsigned_abs}
use Rattle.std.specs.Prelude.{IsTrue}
use Rattle.std.proofs.lemmas.Int.{ints, unsigned_abs-mul}
use Rattle.std.proofs.lemmas.Bool.{cases_lt}
use Rattle.poly_specs.proofs.IntLemmas.{mul_le, mul_le_pos, neg_mul}
use Rattle.poly_specs.proofs.FractionLemmas.{AtMost-trans, Below-AtMost, Below-not, either, AtMost-Below, Below-AtMost_trans, AtMost-same, same-AtMost, middle-den, middle-between}
use Rattle.poly_specs.proofs.PickLemmas.{zero_is, no_number, member}
use Rattle.poly_specs.specs.Fractions.{Fraction, IsFraction, SameFraction, AtMost, zero_fraction}
use Rattle.poly_specs.specs.Sets.{IsInterval, HasMember, IsLowEnd, IsHighEnd, IsClosedAt}
use Rattle.poly_specs.specs.Picks.{IsNearer, IsNearestInteger, HasNoInteger, HasEnds, AreEnds, IsEndPick, IsPick, IsClosedPick, middle}

-- ---- integers as fractions

abbrev whole : ℤ → Fraction
whole n = record { num = n; den = pos 1 }

whole_is : (n : ℤ) → IsFraction (whole n)
whole_is n = record { lt = tt }

abs_positive : (d : ℤ) → pos 0 <ℤ d → pos (unsigned_abs d) ≡ d
abs_positive (pos d) h = refl
abs_positive (negsuc d) h = absurd (omega (arith, ints))

-- y is the integer n, and x is one that is no further from 0
nearer : (x n : ℤ) (y : Fraction) → IsFraction y → y.num ≡ n *ℤ y.den → unsigned_abs x ≤ unsigned_abs n → IsNearer (whole x) y
nearer x n y hy e le =
    let a : pos (unsigned_abs y.num) ≡ pos (unsigned_abs n * unsigned_abs y.den) = ap (λ k. pos (unsigned_abs k)) e ∙ ap pos (unsigned_abs-mul n y.den) in
    let d = abs_positive y.den hy in
    let m = mul_le y.den (pos (unsigned_abs x)) (pos (unsigned_abs n)) hy (omega (arith, ints)) in
    let f : pos (unsigned_abs n * unsigned_abs y.den) ≡ pos (unsigned_abs n) *ℤ y.den = omega (arith, ints) ∙ ap (λ k. pos (unsigned_abs n) *ℤ k) d in
    omega (arith, ints, a, f, m)

-- ---- the least number with a property

record IsLeast (P : ℕ → Bool) (k : ℕ) : Type 0 where
  is : P k ≡ true
  least : (j : ℕ) → j < k → P j ≡ false

search_below : (P : ℕ → Bool) (n : ℕ) → ((k : ℕ) × IsLeast P k) ⊎ ((j : ℕ) → j < n → P j ≡ false)
search_below P zero = inr (λ j h. absurd (omega arith))
search_below P (suc n) = elim (search_below P n) [ inl found ↦ inl found | inr none ↦ test none (P n) refl ]
  where
    test : ((j : ℕ) → j < n → P j ≡ false) → (b : Bool) → P n ≡ b → ((k : ℕ) × IsLeast P k) ⊎ ((j : ℕ) → j < suc n → P j ≡ false)
    test none true e = inl (n, record { is = e; least = none })
    test none false e = inr (λ j h. elim (cases_lt j n) [
      | inl lt ↦ none j lt
      | inr ge ↦ (let same : n ≡ j = omega arith in subst (λ i. P i ≡ false) same e)
    ])

or_left : (a b : Bool) → a ≡ true → (a || b) ≡ true
or_left true b e = refl
or_left false b e = absurd (let f : ⊥ = cc in f)

or_right : (a b : Bool) → b ≡ true → (a || b) ≡ true
or_right true b e = refl
or_right false b e = e

or_out : (a b : Bool) → (a || b) ≡ true → (a ≡ true) ⊎ (b ≡ true)
or_out true b e = inl refl
or_out false b e = inr e

-- ---- a pick

-- what has members below each number, or above, is not kept by a bound
past_low : (S : Fraction → Type 0) (v : Fraction) → IsFraction v → ((x : Fraction) → IsFraction x → S x → AtMost v x) → IsLowEnd S None → ⊥
past_low S v hv bound low = let u = low v hv in Below-not u.0 v u.2.1 (bound u.0 u.1 u.2.0)

past_high : (S : Fraction → Type 0) (v : Fraction) → IsFraction v → ((x : Fraction) → IsFraction x → S x → AtMost x v) → IsHighEnd S None → ⊥
past_high S v hv bound high = let u = high v hv in Below-not v u.0 u.2.1 (bound u.0 u.1 u.2.0)

-- the two ends of an interval
ends_of : (S : Fraction → Type 0) (l h z : Fraction) → IsInterval S → IsFraction z → S z → IsLowEnd S (Some l) → IsHighEnd S (Some h) → HasEnds S l h
ends_of S l h z is hz s low high = record {
  low_is = low.0;
  high_is = high.0;
  ordered = AtMost-trans l z h low.0 hz high.0 (low.1 z hz s) (high.1 z hz s);
  outside = λ y hy t. (low.1 y hy t, high.1 y hy t);
  between = λ y hy a b.
      let u = low.2 y hy a in
      let w = high.2 y hy b in
      is.between u.0 y w.0 u.1 hy w.1 (Below-AtMost u.0 y u.2.1) (Below-AtMost y w.0 w.2.1) u.2.0 w.2.0;
}

-- an integer of the set that is no further from 0 than each other one
module _ (inside : Fraction → Bool) where
  abbrev Inside : Fraction → Type 0
  Inside v = IsTrue (inside v)

  abbrev at_distance : ℕ → Bool
  at_distance k = inside (whole (pos k)) || inside (whole (neg_ℤ (pos k)))

  found_at : (n : ℤ) → Inside (whole n) → at_distance (unsigned_abs n) ≡ true
  found_at (pos n) s = or_left (inside (whole (pos n))) (inside (whole (neg_ℤ (pos n)))) s
  found_at (negsuc n) s = or_right (inside (whole (pos (suc n)))) (inside (whole (neg_ℤ (pos (suc n))))) s

  at_least_as_far : (k : ℕ) → at_distance k ≡ true → (n : ℤ) × (unsigned_abs n ≡ k) × Inside (whole n)
  at_least_as_far k e = elim (or_out (inside (whole (pos k))) (inside (whole (neg_ℤ (pos k)))) e) [
    | inl s ↦ (pos k, refl, s)
    | inr s ↦ (neg_ℤ (pos k), opposite k, s)
  ]
    where
      opposite : (k : ℕ) → unsigned_abs (neg_ℤ (pos k)) ≡ k
      opposite zero = refl
      opposite (suc k) = refl

  as_whole : (y : Fraction) (n : ℤ) → IsInterval Inside → IsFraction y → y.num ≡ n *ℤ y.den → Inside y → Inside (whole n)
  as_whole y n is hy e s = is.same y (whole n) hy (whole_is n) (omega (arith, ints, e)) s

  -- the set has an integer at this distance if it has one further out, and z, which is nearer
  nearer_one : (z : Fraction) (n : ℤ) → IsInterval Inside → IsFraction z → Inside z → suc (unsigned_abs z.num) ≤ unsigned_abs n → Inside (whole n) →
      at_distance (suc (unsigned_abs z.num)) ≡ true
  nearer_one z n is hz s far t = go n far t
    where
      k : ℕ
      k = suc (unsigned_abs z.num)

      low : (a d : ℤ) → pos 0 <ℤ d → (a *ℤ pos 1) ≤ℤ (pos (suc (unsigned_abs a)) *ℤ d)
      low a d h = let m = mul_le (pos (suc (unsigned_abs a))) (pos 1) d (omega (arith, ints)) (omega (arith, ints)) in below_abs a (omega (arith, ints, m))
        where
          below_abs : (a : ℤ) → pos (suc (unsigned_abs a)) ≤ℤ (pos (suc (unsigned_abs a)) *ℤ d) → (a *ℤ pos 1) ≤ℤ (pos (suc (unsigned_abs a)) *ℤ d)
          below_abs (pos a) m = omega (arith, ints, m)
          below_abs (negsuc a) m = omega (arith, ints, m)

      high : (a d : ℤ) → pos 0 <ℤ d → (negsuc (unsigned_abs a) *ℤ d) ≤ℤ (a *ℤ pos 1)
      high a d h = let m = mul_le (pos (suc (unsigned_abs a))) (pos 1) d (omega (arith, ints)) (omega (arith, ints)) in above_abs a (omega (arith, ints, m))
        where
          above_abs : (a : ℤ) → pos (suc (unsigned_abs a)) ≤ℤ (pos (suc (unsigned_abs a)) *ℤ d) → (negsuc (unsigned_abs a) *ℤ d) ≤ℤ (a *ℤ pos 1)
          above_abs (pos a) m = omega (arith, ints, m)
          above_abs (negsuc a) m = omega (arith, ints, m)

      go : (n : ℤ) → suc (unsigned_abs z.num) ≤ unsigned_abs n → Inside (whole n) → at_distance (suc (unsigned_abs z.num)) ≡ true
      go (pos n) far t =
          or_left (inside (whole (pos k))) (inside (whole (neg_ℤ (pos k))))
          (is.between z (whole (pos k)) (whole (pos n)) hz (whole_is (pos k)) (whole_is (pos n)) (low z.num z.den hz) (omega (arith, ints)) s t)
      go (negsuc n) far t =
          or_right (inside (whole (pos k))) (inside (whole (neg_ℤ (pos k))))
          (is.between (whole (negsuc n)) (whole (neg_ℤ (pos k))) z (whole_is (negsuc n)) (whole_is (neg_ℤ (pos k))) hz (omega (arith, ints)) (high z.num z.den hz) t s)

  nearest_or_none : (z : Fraction) → IsInterval Inside → IsFraction z → Inside z → ((x : Fraction) × IsFraction x × IsNearestInteger Inside x) ⊎ HasNoInteger Inside
  nearest_or_none z is hz s = elim (search_below at_distance (suc (suc (unsigned_abs z.num)))) [
    | inl (k, found) ↦ (let n = at_least_as_far k found.is in inl (
      whole n.0,
      whole_is n.0,
      record {
        inside = n.2;
        integer = (n.0, omega (arith, ints));
        nearest = λ y hy t i. nearer n.0 i.0 y hy i.1 (not_less k found (unsigned_abs i.0) (found_at i.0 (as_whole y i.0 is hy i.1 t)) n.1);
      },
    ))
    | inr none ↦ inr (λ y hy t i. elim (cases_lt (unsigned_abs i.0) (suc (suc (unsigned_abs z.num)))) [
      | inl near ↦ differ (none (unsigned_abs i.0) near) (found_at i.0 (as_whole y i.0 is hy i.1 t))
      | inr far ↦ differ (none (suc (unsigned_abs z.num)) (omega arith)) (nearer_one z i.0 is hz s (omega arith) (as_whole y i.0 is hy i.1 t))
    ])
  ]
    where
      differ : {b : Bool} → b ≡ false → b ≡ true → ⊥
      differ e f = let g : ⊥ = cc in g

      not_less : (k : ℕ) → IsLeast at_distance k → (j : ℕ) → at_distance j ≡ true → {n : ℕ} → n ≡ k → n ≤ j
      not_less k found j e same = elim (cases_lt j k) [
        | inl lt ↦ absurd (differ (found.least j lt) e)
        | inr ge ↦ omega (arith, same)
      ]

  -- ---- the ends of a set without an integer

  -- an end, or the middle of both
  end_pick : (near far : Fraction) → IsFraction near → IsFraction far → HasMember Inside → HasNoInteger Inside → AreEnds Inside near far → (x : Fraction) × IsPick Inside x
  end_pick near far hn hf some none ends = go (inside near) refl (inside far) refl
    where
      made : (x : Fraction) → IsFraction x → IsEndPick Inside near far x → (x : Fraction) × IsPick Inside x
      made x hx e = (x, record { positive = hx; some = some; kind = inr (none, (near, far, ends, e)) })

      not_true : {b : Bool} → b ≡ false → b ≡ true → ⊥
      not_true e f = let g : ⊥ = cc in g

      go : (a : Bool) → inside near ≡ a → (b : Bool) → inside far ≡ b → (x : Fraction) × IsPick Inside x
      go true e b f = made near hn (inl (e, refl))
      go false e true f = made far hf (inr (inl (not_true e, f, refl)))
      go false e false f = made (middle near far) (middle-den near far hn hf) (inr (inr (not_true e, not_true f, refl)))

  zero_outside : HasNoInteger Inside → Inside zero_fraction → ⊥
  zero_outside none s = none zero_fraction zero_is s (pos 0, refl)

  -- everything in the set is above 0 where z is
  all_above : (z : Fraction) → IsInterval Inside → HasNoInteger Inside → IsFraction z → Inside z → AtMost zero_fraction z →
      (x : Fraction) → IsFraction x → Inside x → AtMost zero_fraction x
  all_above z is none hz s up x hx t = elim (either x zero_fraction) [
    | inl lt ↦ absurd (zero_outside none (is.between x zero_fraction z hx zero_is hz (Below-AtMost x zero_fraction lt) up t s))
    | inr ge ↦ ge
  ]

  all_under : (z : Fraction) → IsInterval Inside → HasNoInteger Inside → IsFraction z → Inside z → AtMost z zero_fraction →
      (x : Fraction) → IsFraction x → Inside x → AtMost x zero_fraction
  all_under z is none hz s down x hx t = elim (either zero_fraction x) [
    | inl lt ↦ absurd (zero_outside none (is.between z zero_fraction x hz zero_is hx down (Below-AtMost zero_fraction x lt) s t))
    | inr ge ↦ ge
  ]

  -- an integer past z, on either side, bounds the set
  integer_above : (z : Fraction) → IsInterval Inside → HasNoInteger Inside → IsFraction z → Inside z →
      (x : Fraction) → IsFraction x → Inside x → AtMost x (whole (pos (unsigned_abs z.num)))
  integer_above z is none hz s x hx t = elim (either (whole (pos (unsigned_abs z.num))) x) [
    | inl lt ↦ absurd (none (whole (pos (unsigned_abs z.num))) (whole_is (pos (unsigned_abs z.num)))
        (is.between z (whole (pos (unsigned_abs z.num))) x hz (whole_is (pos (unsigned_abs z.num))) hx (bounded z.num z.den hz) (Below-AtMost (whole (pos (unsigned_abs z.num))) x lt) s t)
        (pos (unsigned_abs z.num), omega (arith, ints)))
    | inr ge ↦ ge
  ]
    where
      bounded : (a d : ℤ) → pos 0 <ℤ d → (a *ℤ pos 1) ≤ℤ (pos (unsigned_abs a) *ℤ d)
      bounded (pos a) d h = let m = mul_le_pos a (pos 1) d (omega (arith, ints)) in omega (arith, ints, m)
      bounded (negsuc a) d h = let m = mul_le_pos (suc a) (pos 1) d (omega (arith, ints)) in omega (arith, ints, m)

  integer_under : (z : Fraction) → IsInterval Inside → HasNoInteger Inside → IsFraction z → Inside z →
      (x : Fraction) → IsFraction x → Inside x → AtMost (whole (neg_ℤ (pos (unsigned_abs z.num)))) x
  integer_under z is none hz s x hx t = elim (either x low) [
    | inl lt ↦ absurd (none low low_is (is.between x low z hx low_is hz (Below-AtMost x low lt) (bounded z.num z.den hz) t s) (low.num, omega (arith, ints)))
    | inr ge ↦ ge
  ]
    where
      low : Fraction
      low = whole (neg_ℤ (pos (unsigned_abs z.num)))

      low_is : IsFraction low
      low_is = whole_is (neg_ℤ (pos (unsigned_abs z.num)))

      bounded : (a d : ℤ) → pos 0 <ℤ d → (neg_ℤ (pos (unsigned_abs a)) *ℤ d) ≤ℤ (a *ℤ pos 1)
      bounded (pos a) d h = let m = mul_le_pos a (pos 1) d (omega (arith, ints)) in let n = neg_mul (pos a) d in omega (arith, ints, m, n)
      bounded (negsuc a) d h = let m = mul_le_pos (suc a) (pos 1) d (omega (arith, ints)) in omega (arith, ints, m)

  both_ends : (l h z : Fraction) → IsInterval Inside → HasNoInteger Inside → IsFraction z → Inside z → IsLowEnd Inside (Some l) → IsHighEnd Inside (Some h) →
      (x : Fraction) × IsPick Inside x
  both_ends l h z is none hz s low high =
      let ends = ends_of Inside l h z is hz s low high in
      elim (either z zero_fraction) [
        | inl lt ↦ end_pick h l high.0 low.0 (z, hz, s) none (inr (not_above (all_under z is none hz s (Below-AtMost z zero_fraction lt)), ends))
        | inr ge ↦ end_pick l h low.0 high.0 (z, hz, s) none (inl (not_below (all_above z is none hz s ge), ends))
      ]
    where
      not_above : ((x : Fraction) → IsFraction x → Inside x → AtMost x zero_fraction) → AtMost h zero_fraction
      not_above all = elim (either zero_fraction h) [
        | inl lt ↦ absurd (let u = high.2 zero_fraction zero_is lt in Below-not zero_fraction u.0 u.2.1 (all u.0 u.1 u.2.0))
        | inr le ↦ le
      ]

      not_below : ((x : Fraction) → IsFraction x → Inside x → AtMost zero_fraction x) → AtMost zero_fraction l
      not_below all = elim (either l zero_fraction) [
        | inl lt ↦ absurd (let u = low.2 zero_fraction zero_is lt in Below-not u.0 zero_fraction u.2.1 (all u.0 u.1 u.2.0))
        | inr le ↦ le
      ]

  by_ends : (low high : Option Fraction) → IsInterval Inside → HasMember Inside → HasNoInteger Inside → IsLowEnd Inside low → IsHighEnd Inside high →
      (x : Fraction) × IsPick Inside x
  by_ends None high is (z, hz, s) none l h =
      absurd (past_low Inside (whole (neg_ℤ (pos (unsigned_abs z.num)))) (whole_is (neg_ℤ (pos (unsigned_abs z.num)))) (integer_under z is none hz s) l)
  by_ends (Some low) None is (z, hz, s) none l h =
      absurd (past_high Inside (whole (pos (unsigned_abs z.num))) (whole_is (pos (unsigned_abs z.num))) (integer_above z is none hz s) h)
  by_ends (Some low) (Some high) is (z, hz, s) none l h = both_ends low high z is none hz s l h

  -- an interval with something in it, whose ends are fractions or missing, has a pick
  pub some_pick : (low high : Option Fraction) → IsInterval Inside → HasMember Inside → IsLowEnd Inside low → IsHighEnd Inside high → (x : Fraction) × IsPick Inside x
  some_pick low high is some l h = elim (nearest_or_none some.0 is some.1 some.2) [
    | inl (x, hx, i) ↦ (x, record { positive = hx; some = some; kind = inl i })
    | inr none ↦ by_ends low high is some none l h
  ]

-- ---- closed intervals

abs_least : (a : ℤ) → pos 0 ≤ℤ a → pos (unsigned_abs a) ≡ a
abs_least (pos a) h = refl
abs_least (negsuc a) h = absurd (omega (arith, ints))

abs_most : (a : ℤ) → a ≤ℤ pos 0 → pos (unsigned_abs a) ≡ neg_ℤ a
abs_most (pos zero) h = refl
abs_most (pos (suc a)) h = absurd (omega (arith, ints))
abs_most (negsuc a) h = refl

nearer_above : (x y : Fraction) → AtMost zero_fraction x → AtMost zero_fraction y → AtMost x y → IsNearer x y
nearer_above x y px py le =
    let a = ap (λ k. k *ℤ y.den) (abs_least x.num (omega (arith, ints, px))) in
    let b = ap (λ k. k *ℤ x.den) (abs_least y.num (omega (arith, ints, py))) in
    omega (arith, ints, a, b, le)

nearer_under : (x y : Fraction) → AtMost x zero_fraction → AtMost y zero_fraction → AtMost y x → IsNearer x y
nearer_under x y px py le =
    let a = ap (λ k. k *ℤ y.den) (abs_most x.num (omega (arith, ints, px))) in
    let b = ap (λ k. k *ℤ x.den) (abs_most y.num (omega (arith, ints, py))) in
    omega (arith, ints, a, b, le, neg_mul x.num y.den, neg_mul y.num x.den)

module _ {S : Fraction → Type 0} where
  -- the low end of a closed interval is in it, and so is each low end by which it is said
  low_inside : (low : Option Fraction) (l h : Fraction) → IsInterval S → IsLowEnd S low → IsClosedAt S low → HasEnds S l h → S l
  low_inside None l h is low closed ends = absurd (past_low S l ends.low_is (λ x hx s. (ends.outside x hx s).0) low)
  low_inside (Some k) l h is low closed ends =
      let o = ends.outside k low.0 closed in
      is.same k l low.0 ends.low_is (AtMost-same k l not_over o.0) closed
    where
      not_over : AtMost k l
      not_over = elim (either l k) [
        | inl lt ↦ absurd (
            let m = middle-between l k ends.low_is low.0 lt in
            let hm = middle-den l k ends.low_is low.0 in
            let under = Below-AtMost_trans (middle l k) k h hm low.0 ends.high_is m.1 (ends.outside k low.0 closed).1 in
            Below-not (middle l k) k m.1 (low.1 (middle l k) hm (ends.between (middle l k) hm m.0 under)))
        | inr le ↦ le
      ]

  high_inside : (high : Option Fraction) (l h : Fraction) → IsInterval S → IsHighEnd S high → IsClosedAt S high → HasEnds S l h → S h
  high_inside None l h is high closed ends = absurd (past_high S h ends.high_is (λ x hx s. (ends.outside x hx s).1) high)
  high_inside (Some k) l h is high closed ends =
      let o = ends.outside k high.0 closed in
      is.same k h high.0 ends.high_is (AtMost-same k h o.1 not_under) closed
    where
      not_under : AtMost h k
      not_under = elim (either k h) [
        | inl lt ↦ absurd (
            let m = middle-between k h high.0 ends.high_is lt in
            let hm = middle-den k h high.0 ends.high_is in
            let over = AtMost-Below l k (middle k h) ends.low_is high.0 hm (ends.outside k high.0 closed).0 m.0 in
            Below-not k (middle k h) m.0 (high.1 (middle k h) hm (ends.between (middle k h) hm over m.1)))
        | inr le ↦ le
      ]

  near_inside : (low high : Option Fraction) (near far : Fraction) → IsInterval S → IsLowEnd S low → IsHighEnd S high → IsClosedAt S low → IsClosedAt S high →
      AreEnds S near far → S near
  near_inside low high near far is l h cl ch (inl e) = low_inside low near far is l cl e.1
  near_inside low high near far is l h cl ch (inr e) = high_inside high far near is h ch e.1

  -- the end nearest to 0 is nearest of all
  near_nearest : (near far : Fraction) → AreEnds S near far → (x : Fraction) → IsFraction x → SameFraction x near → (y : Fraction) → IsFraction y → S y → IsNearer x y
  near_nearest near far (inl e) x hx same y hy s =
      let b = same-AtMost x near same in
      let over = AtMost-trans zero_fraction near x zero_is e.1.low_is hx e.0 b.1 in
      let le = AtMost-trans x near y hx e.1.low_is hy b.0 (e.1.outside y hy s).0 in
      nearer_above x y over (AtMost-trans zero_fraction x y zero_is hx hy over le) le
  near_nearest near far (inr e) x hx same y hy s =
      let b = same-AtMost x near same in
      let under = AtMost-trans x near zero_fraction hx e.1.high_is zero_is b.0 e.0 in
      let le = AtMost-trans y near x hy e.1.high_is hx (e.1.outside y hy s).1 b.1 in
      nearer_under x y under (AtMost-trans y x zero_fraction hy hx zero_is le under) le

  closed_end : (low high : Option Fraction) (near far x : Fraction) → IsInterval S → IsLowEnd S low → IsHighEnd S high → IsClosedAt S low → IsClosedAt S high →
      IsFraction x → AreEnds S near far → IsEndPick S near far x → SameFraction x near
  closed_end low high near far x is l h cl ch hx ends (inl e) = e.1
  closed_end low high near far x is l h cl ch hx ends (inr (inl e)) = absurd (e.0 (near_inside low high near far is l h cl ch ends))
  closed_end low high near far x is l h cl ch hx ends (inr (inr e)) = absurd (e.0 (near_inside low high near far is l h cl ch ends))

  -- the pick of a closed interval
  pub closed_pick : (low high : Option Fraction) (x : Fraction) → IsInterval S → IsLowEnd S low → IsHighEnd S high → IsClosedAt S low → IsClosedAt S high →
      IsPick S x → IsClosedPick S x
  closed_pick low high x is l h cl ch pick = go pick.kind
    where
      go : IsNearestInteger S x ⊎ (HasNoInteger S × ((near far : Fraction) × AreEnds S near far × IsEndPick S near far x)) → IsClosedPick S x
      go (inl i) = record {
        zero = λ s. let e = no_number x (i.nearest zero_fraction zero_is s (pos 0, refl)) in omega (arith, ints, e);
        integer = λ y hy s j. i;
        end = λ none. absurd (none x pick.positive i.inside i.integer);
      }
      go (inr (none, (near, far, ends, e))) = record {
        zero = λ s. absurd (none zero_fraction zero_is s (pos 0, refl));
        integer = λ y hy s j. absurd (none y hy s j);
        end = λ _. (member x is pick, near_nearest near far ends x pick.positive (closed_end low high near far x is l h cl ch pick.positive ends e));
      }
