-- An interval has at most one pick, and the pick is in it.
use Rattle.std.proofs.Common.{◌≡◌, ◌⊎◌, inl, inr, zero, suc, neg_ℤ, refl, sym, ◌∙◌, ap, arith, ℤ, pos, negsuc, ◌+ℤ◌, ◌*ℤ◌, ◌≤ℤ◌, unsigned_abs}
use Rattle.std.proofs.lemmas.Int.{ints}
use Rattle.poly_specs.proofs.IntLemmas.{neg_mul, mul_comm_int}
use Rattle.poly_specs.proofs.FractionLemmas.{AtMost-trans, Below-AtMost, Below-not, either, AtMost-Below, Below-AtMost_trans, AtMost-same, same-trans, middle-den, middle-between, middle-same}
use Rattle.poly_specs.specs.Fractions.{Fraction, IsFraction, SameFraction, AtMost, zero_fraction}
use Rattle.poly_specs.specs.Sets.{IsInterval}
use Rattle.poly_specs.specs.Picks.{IsNearer, IsNearestInteger, HasNoInteger, HasEnds, AreEnds, IsEndPick, IsPick, middle}

pub zero_is : IsFraction zero_fraction
zero_is = record { lt = tt }

-- ---- integers

no_further : (x y : Fraction) → IsFraction x → IsFraction y → IsNearer x y → IsNearer y x → AtMost zero_fraction x → AtMost zero_fraction y → SameFraction x y
no_further x y hx hy n m px py = go x.num y.num (omega (arith, ints, px)) (omega (arith, ints, py)) n m
  where
    go : (a b : ℤ) → pos 0 ≤ℤ a → pos 0 ≤ℤ b → (pos (unsigned_abs a) *ℤ y.den) ≤ℤ (pos (unsigned_abs b) *ℤ x.den) →
        (pos (unsigned_abs b) *ℤ x.den) ≤ℤ (pos (unsigned_abs a) *ℤ y.den) → a *ℤ y.den ≡ b *ℤ x.den
    go (pos a) (pos b) p q n m = omega (arith, ints, n, m)
    go (pos a) (negsuc b) p q n m = absurd (omega (arith, ints))
    go (negsuc a) b p q n m = absurd (omega (arith, ints))

no_further_below : (x y : Fraction) → IsFraction x → IsFraction y → IsNearer x y → IsNearer y x → AtMost x zero_fraction → AtMost y zero_fraction → SameFraction x y
no_further_below x y hx hy n m px py = go x.num y.num (omega (arith, ints, px)) (omega (arith, ints, py)) n m
  where
    go : (a b : ℤ) → a ≤ℤ pos 0 → b ≤ℤ pos 0 → (pos (unsigned_abs a) *ℤ y.den) ≤ℤ (pos (unsigned_abs b) *ℤ x.den) →
        (pos (unsigned_abs b) *ℤ x.den) ≤ℤ (pos (unsigned_abs a) *ℤ y.den) → a *ℤ y.den ≡ b *ℤ x.den
    go a b p q n m = let ea = opposite a p in let eb = opposite b q in
        let fa = ap (λ z. z *ℤ y.den) ea in let fb = ap (λ z. z *ℤ x.den) eb in
        omega (arith, ints, n, m, fa, fb, neg_mul (pos (unsigned_abs a)) y.den, neg_mul (pos (unsigned_abs b)) x.den)
      where
        opposite : (a : ℤ) → a ≤ℤ pos 0 → a ≡ neg_ℤ (pos (unsigned_abs a))
        opposite (pos zero) h = refl
        opposite (pos (suc n)) h = absurd (omega (arith, ints))
        opposite (negsuc n) h = refl

pub no_number : (x : Fraction) → IsNearer x zero_fraction → x.num ≡ pos 0
no_number x n = go x.num n
  where
    go : (a : ℤ) → (pos (unsigned_abs a) *ℤ pos 1) ≤ℤ (pos 0 *ℤ x.den) → a ≡ pos 0
    go (pos zero) h = refl
    go (pos (suc n)) h = absurd (omega (arith, ints, h))
    go (negsuc n) h = absurd (omega (arith, ints, h))

both_zero : (x y : Fraction) → x.num ≡ pos 0 → y.num ≡ pos 0 → SameFraction x y
both_zero x y e f =
    let a : x.num *ℤ y.den ≡ pos 0 *ℤ y.den = ap (λ n. n *ℤ y.den) e in
    let b : y.num *ℤ x.den ≡ pos 0 *ℤ x.den = ap (λ n. n *ℤ x.den) f in
    omega (arith, ints, a, b)

-- x = near = near' = y
same_trans : (x n m y : Fraction) → IsFraction x → IsFraction n → IsFraction m → IsFraction y → SameFraction x n → SameFraction n m → SameFraction y m → SameFraction x y
same_trans x n m y hx hn hm hy a b c = same-trans x m y hx hm hy (same-trans x n m hx hn hm a b) (sym c)

module _ {S : Fraction → Type 0} where
  -- ---- the ends

  low_first : (l h l' h' z : Fraction) → IsFraction z → S z → HasEnds S l h → HasEnds S l' h' → AtMost l' l
  low_first l h l' h' z hz s e f = elim (either l l') [
    | inr le ↦ le
    | inl lt ↦ absurd (
        let m : Fraction = middle l l' in
        let hm = middle-den l l' e.low_is f.low_is in
        let b = middle-between l l' e.low_is f.low_is lt in
        let below_z = Below-AtMost_trans m l' z hm f.low_is hz b.1 (f.outside z hz s).0 in
        let below_h = Below-AtMost_trans m z h hm hz e.high_is below_z (e.outside z hz s).1 in
        Below-not m l' b.1 (f.outside m hm (e.between m hm b.0 below_h)).0)
  ]

  high_first : (l h l' h' z : Fraction) → IsFraction z → S z → HasEnds S l h → HasEnds S l' h' → AtMost h h'
  high_first l h l' h' z hz s e f = elim (either h' h) [
    | inr le ↦ le
    | inl lt ↦ absurd (
        let m : Fraction = middle h' h in
        let hm = middle-den h' h f.high_is e.high_is in
        let b = middle-between h' h f.high_is e.high_is lt in
        let above_z = AtMost-Below z h' m hz f.high_is hm (f.outside z hz s).1 b.0 in
        let above_l = AtMost-Below l z m e.low_is hz hm (e.outside z hz s).0 above_z in
        Below-not h' m b.0 (f.outside m hm (e.between m hm above_l b.1)).1)
  ]

  same_ends : (l h l' h' z : Fraction) → IsFraction z → S z → HasEnds S l h → HasEnds S l' h' → SameFraction l l' × SameFraction h h'
  same_ends l h l' h' z hz s e f = (
    AtMost-same l l' (low_first l' h' l h z hz s f e) (low_first l h l' h' z hz s e f),
    AtMost-same h h' (high_first l h l' h' z hz s e f) (high_first l' h' l h z hz s f e),
  )

  -- ends on both sides of 0: the set is 0 alone
  both_sides : (near far near' far' z : Fraction) → IsFraction z → S z → HasNoInteger S → AtMost zero_fraction near → HasEnds S near far →
      AtMost near' zero_fraction → HasEnds S far' near' → ⊥
  both_sides near far near' far' z hz s none p e n f =
      let ge : AtMost zero_fraction z = AtMost-trans zero_fraction near z zero_is e.low_is hz p (e.outside z hz s).0 in
      let le : AtMost z zero_fraction = AtMost-trans z near' zero_fraction hz f.high_is zero_is (f.outside z hz s).1 n in
      none z hz s (pos 0, omega (arith, ints, ge, le))

  same_near : (near far near' far' z : Fraction) → IsFraction z → S z → HasNoInteger S → AreEnds S near far → AreEnds S near' far' →
      SameFraction near near' × SameFraction far far'
  same_near near far near' far' z hz s none (inl e) (inl f) = same_ends near far near' far' z hz s e.1 f.1
  same_near near far near' far' z hz s none (inl e) (inr f) = absurd (both_sides near far near' far' z hz s none e.0 e.1 f.0 f.1)
  same_near near far near' far' z hz s none (inr e) (inl f) = absurd (both_sides near' far' near far z hz s none f.0 f.1 e.0 e.1)
  same_near near far near' far' z hz s none (inr e) (inr f) = let b = same_ends far near far' near' z hz s e.1 f.1 in (b.1, b.0)

  pub are_fractions : (near far : Fraction) → AreEnds S near far → IsFraction near × IsFraction far
  are_fractions near far (inl e) = (e.1.low_is, e.1.high_is)
  are_fractions near far (inr e) = (e.1.high_is, e.1.low_is)

  pub member : (x : Fraction) → IsInterval S → IsPick S x → S x
  member x is pick = elim pick.kind [
    | inl i ↦ i.inside
    | inr (none, (near, far, ends, end)) ↦ ended none near far ends end
  ]
    where
      z : Fraction
      z = pick.some.0

      hz : IsFraction z
      hz = pick.some.1

      s : S z
      s = pick.some.2

      meet : (l h : Fraction) → HasEnds S l h → AtMost h l → S l
      meet l h e le =
          let o = e.outside z hz s in
          let up : AtMost z l = AtMost-trans z h l hz e.high_is e.low_is o.1 le in
          is.same z l hz e.low_is (AtMost-same z l up o.0) s

      inner : (l h : Fraction) → HasEnds S l h → (S l → ⊥) → S (middle l h)
      inner l h e out = elim (either l h) [
        | inl lt ↦ (let b = middle-between l h e.low_is e.high_is lt in e.between (middle l h) (middle-den l h e.low_is e.high_is) b.0 b.1)
        | inr le ↦ absurd (out (meet l h e le))
      ]

      flipped : (x y : Fraction) → SameFraction (middle x y) (middle y x)
      flipped x y =
          let a : x.num *ℤ y.den +ℤ y.num *ℤ x.den ≡ y.num *ℤ x.den +ℤ x.num *ℤ y.den = omega (arith, ints) in
          let b : x.den *ℤ y.den ≡ y.den *ℤ x.den = mul_comm_int x.den y.den in
          ap (λ n. n *ℤ (pos 2 *ℤ (y.den *ℤ x.den))) a ∙ ap (λ d. (y.num *ℤ x.den +ℤ x.num *ℤ y.den) *ℤ (pos 2 *ℤ d)) (sym b)

      ended : HasNoInteger S → (near far : Fraction) → AreEnds S near far → IsEndPick S near far x → S x
      ended none near far ends (inl e) = is.same near x (are_fractions near far ends).0 pick.positive (sym e.1) e.0
      ended none near far ends (inr (inl e)) = is.same far x (are_fractions near far ends).1 pick.positive (sym e.2) e.1
      ended none near far (inl e) (inr (inr m)) =
          is.same (middle near far) x (middle-den near far e.1.low_is e.1.high_is) pick.positive (sym m.2) (inner near far e.1 m.0)
      ended none near far (inr e) (inr (inr m)) =
          let hm = middle-den far near e.1.low_is e.1.high_is in
          let hn = middle-den near far e.1.high_is e.1.low_is in
          is.same (middle far near) x hm pick.positive
          (same-trans (middle far near) (middle near far) x hm hn pick.positive (flipped far near) (sym m.2)) (inner far near e.1 m.1)

  -- ---- the pick

  same_integers : (x y : Fraction) → IsInterval S → IsFraction x → IsFraction y → IsNearestInteger S x → IsNearestInteger S y → SameFraction x y
  same_integers x y is hx hy i j =
      let n = i.nearest y hy j.inside j.integer in
      let m = j.nearest x hx i.inside i.integer in
      elim (either x zero_fraction) [
        | inl lx ↦ (let ax = Below-AtMost x zero_fraction lx in elim (either y zero_fraction) [
          | inl ly ↦ no_further_below x y hx hy n m ax (Below-AtMost y zero_fraction ly)
          | inr gy ↦ at_zero (is.between x zero_fraction y hx zero_is hy ax gy i.inside j.inside)
        ])
        | inr gx ↦ elim (either y zero_fraction) [
          | inl ly ↦ at_zero (is.between y zero_fraction x hy zero_is hx (Below-AtMost y zero_fraction ly) gx j.inside i.inside)
          | inr gy ↦ no_further x y hx hy n m gx gy
        ]
      ]
    where
      at_zero : S zero_fraction → SameFraction x y
      at_zero s =
          both_zero x y (no_number x (i.nearest zero_fraction zero_is s (pos 0, refl))) (no_number y (j.nearest zero_fraction zero_is s (pos 0, refl)))

  same_end_picks : (near far near' far' x y : Fraction) → IsInterval S → IsFraction x → IsFraction y →
      IsFraction near × IsFraction far → IsFraction near' × IsFraction far' → SameFraction near near' → SameFraction far far' →
      IsEndPick S near far x → IsEndPick S near' far' y → SameFraction x y
  same_end_picks near far near' far' x y is hx hy (hn, hf) (hn', hf') en ef (inl a) (inl b) =
      same_trans x near near' y hx hn hn' hy a.1 en b.1
  same_end_picks near far near' far' x y is hx hy (hn, hf) (hn', hf') en ef (inl a) (inr (inl b)) = absurd (b.0 (is.same near near' hn hn' en a.0))
  same_end_picks near far near' far' x y is hx hy (hn, hf) (hn', hf') en ef (inl a) (inr (inr b)) = absurd (b.0 (is.same near near' hn hn' en a.0))
  same_end_picks near far near' far' x y is hx hy (hn, hf) (hn', hf') en ef (inr (inl a)) (inl b) = absurd (a.0 (is.same near' near hn' hn (sym en) b.0))
  same_end_picks near far near' far' x y is hx hy (hn, hf) (hn', hf') en ef (inr (inl a)) (inr (inl b)) =
      same_trans x far far' y hx hf hf' hy a.2 ef b.2
  same_end_picks near far near' far' x y is hx hy (hn, hf) (hn', hf') en ef (inr (inl a)) (inr (inr b)) = absurd (b.1 (is.same far far' hf hf' ef a.1))
  same_end_picks near far near' far' x y is hx hy (hn, hf) (hn', hf') en ef (inr (inr a)) (inl b) = absurd (a.0 (is.same near' near hn' hn (sym en) b.0))
  same_end_picks near far near' far' x y is hx hy (hn, hf) (hn', hf') en ef (inr (inr a)) (inr (inl b)) = absurd (a.1 (is.same far' far hf' hf (sym ef) b.1))
  same_end_picks near far near' far' x y is hx hy (hn, hf) (hn', hf') en ef (inr (inr a)) (inr (inr b)) =
      same_trans x (middle near far) (middle near' far') y hx (middle-den near far hn hf) (middle-den near' far' hn' hf') hy a.2 (middle-same near far near' far' en ef) b.2

  pub unique : (x y : Fraction) → IsInterval S → IsPick S x → IsPick S y → SameFraction x y
  unique x y is px py = go px.kind py.kind
    where
      go : IsNearestInteger S x ⊎ (HasNoInteger S × ((near far : Fraction) × AreEnds S near far × IsEndPick S near far x)) →
          IsNearestInteger S y ⊎ (HasNoInteger S × ((near far : Fraction) × AreEnds S near far × IsEndPick S near far y)) → SameFraction x y
      go (inl i) (inl j) = same_integers x y is px.positive py.positive i j
      go (inl i) (inr j) = absurd (j.0 x px.positive i.inside i.integer)
      go (inr i) (inl j) = absurd (i.0 y py.positive j.inside j.integer)
      go (inr (none, (near, far, e, a))) (inr (none', (near', far', f, b))) =
          let same = same_near near far near' far' px.some.0 px.some.1 px.some.2 none e f in
          same_end_picks near far near' far' x y is px.positive py.positive (are_fractions near far e) (are_fractions near' far' f) same.0 same.1 a b

-- ---- two spellings of one set

module _ {S T : Fraction → Type 0} (to : (v : Fraction) → S v → T v) (back : (v : Fraction) → T v → S v) where
  nearest-alike : (x : Fraction) → IsNearestInteger S x → IsNearestInteger T x
  nearest-alike x i = record { inside = to x i.inside; integer = i.integer; nearest = λ y hy t j. i.nearest y hy (back y t) j }

  ends-alike : (l h : Fraction) → HasEnds S l h → HasEnds T l h
  ends-alike l h e = record {
    low_is = e.low_is;
    high_is = e.high_is;
    ordered = e.ordered;
    outside = λ y hy t. e.outside y hy (back y t);
    between = λ y hy a b. to y (e.between y hy a b);
  }

  are_ends-alike : (near far : Fraction) → AreEnds S near far → AreEnds T near far
  are_ends-alike near far (inl e) = inl (e.0, ends-alike near far e.1)
  are_ends-alike near far (inr e) = inr (e.0, ends-alike far near e.1)

  end_pick-alike : (near far x : Fraction) → IsEndPick S near far x → IsEndPick T near far x
  end_pick-alike near far x (inl e) = inl (to near e.0, e.1)
  end_pick-alike near far x (inr (inl e)) = inr (inl (λ t. e.0 (back near t), to far e.1, e.2))
  end_pick-alike near far x (inr (inr e)) = inr (inr (λ t. e.0 (back near t), λ t. e.1 (back far t), e.2))

  pub pick-alike : (x : Fraction) → IsPick S x → IsPick T x
  pick-alike x pick = record {
    positive = pick.positive;
    some = (pick.some.0, pick.some.1, to pick.some.0 pick.some.2);
    kind = go pick.kind;
  }
    where
      go : IsNearestInteger S x ⊎ (HasNoInteger S × ((near far : Fraction) × AreEnds S near far × IsEndPick S near far x)) →
          IsNearestInteger T x ⊎ (HasNoInteger T × ((near far : Fraction) × AreEnds T near far × IsEndPick T near far x))
      go (inl i) = inl (nearest-alike x i)
      go (inr (none, (near, far, e, a))) =
          inr (λ y hy t i. none y hy (back y t) i, (near, far, are_ends-alike near far e, end_pick-alike near far x a))
