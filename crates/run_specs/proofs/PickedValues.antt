-- A pick of an interval in another spelling, and lists of fractions compared place by place.
use Rattle.std.proofs.Common.{◌≡◌, ◌⊎◌, inl, inr, ℕ, zero, suc, ◌*◌, ◌<◌, List, [], ◌∷◌, length, take, get_or, refl, sym, ◌∙◌, ap, arith, ℤ, pos, ◌*ℤ◌, ◌≤ℤ◌, unsigned_abs}
use Rattle.std.specs.List.{AllZip}
use Rattle.std.proofs.lemmas.Int.{unsigned_abs-mul}
use Rattle.poly_specs.proofs.IntLemmas.{products, mul_comm_int, mul_le, le_cancel, same_cancel}
use Rattle.poly_specs.proofs.CombinationLemmas.{positive}
use Rattle.poly_specs.proofs.PickLemmas.{are_fractions}
use Rattle.poly_specs.proofs.FractionLemmas.{same-trans, middle-den}
use Rattle.poly_specs.specs.Fractions.{Fraction, IsFraction, SameFraction, zero_fraction}
use Rattle.poly_specs.specs.Sets.{IsInterval}
use Rattle.poly_specs.specs.Picks.{IsInteger, IsNearer, IsNearestInteger, HasNoInteger, AreEnds, IsEndPick, IsPick, middle}

-- ---- another spelling

same_size : (x y : Fraction) → IsFraction x → IsFraction y → SameFraction x y → pos (unsigned_abs x.num) *ℤ y.den ≡ pos (unsigned_abs y.num) *ℤ x.den
same_size x y hx hy e =
    let dx : x.den ≡ pos (unsigned_abs x.den) = positive x.den hx in
    let dy : y.den ≡ pos (unsigned_abs y.den) = positive y.den hy in
    let sizes : unsigned_abs x.num * unsigned_abs y.den ≡ unsigned_abs y.num * unsigned_abs x.den =
    sym (unsigned_abs-mul x.num y.den) ∙ ap unsigned_abs e ∙ unsigned_abs-mul y.num x.den in
    ap (λ d. pos (unsigned_abs x.num) *ℤ d) dy ∙ ap pos sizes ∙ ap (λ d. pos (unsigned_abs y.num) *ℤ d) (sym dx)

integer-same : (x y : Fraction) → IsFraction x → SameFraction x y → IsInteger x → IsInteger y
integer-same x y hx e (n, i) =
    (n, same_cancel x.den y.num (n *ℤ y.den) hx (mul_comm_int x.den y.num ∙ sym e ∙ ap (λ z. z *ℤ y.den) i ∙ moved n x.den y.den))
  where
    moved : (n d c : ℤ) → (n *ℤ d) *ℤ c ≡ d *ℤ (n *ℤ c)
    moved n d c = omega (arith, products)

nearer-same : (x y z : Fraction) → IsFraction x → IsFraction y → SameFraction x y → IsNearer x z → IsNearer y z
nearer-same x y z hx hy e h =
    let s = same_size x y hx hy e in
    let a : ℤ = pos (unsigned_abs x.num) in
    let b : ℤ = pos (unsigned_abs y.num) in
    let c : ℤ = pos (unsigned_abs z.num) in
    let m : (y.den *ℤ (a *ℤ z.den)) ≤ℤ (y.den *ℤ (c *ℤ x.den)) = mul_le y.den (a *ℤ z.den) (c *ℤ x.den) hy h in
    let left : y.den *ℤ (a *ℤ z.den) ≡ x.den *ℤ (b *ℤ z.den) = first y.den a z.den ∙ ap (λ w. w *ℤ z.den) s ∙ last b x.den z.den in
    let right : y.den *ℤ (c *ℤ x.den) ≡ x.den *ℤ (c *ℤ y.den) = omega (arith, products) in
    le_cancel x.den (b *ℤ z.den) (c *ℤ y.den) hx (rw (← left, ← right) m)
  where
    first : (d a c : ℤ) → d *ℤ (a *ℤ c) ≡ (a *ℤ d) *ℤ c
    first d a c = omega (arith, products)

    last : (b d c : ℤ) → (b *ℤ d) *ℤ c ≡ d *ℤ (b *ℤ c)
    last b d c = omega (arith, products)

-- the pick does not depend on how the fraction is written
pub pick-same : {S : Fraction → Type 0} (x y : Fraction) → IsInterval S → IsFraction y → SameFraction x y → IsPick S x → IsPick S y
pick-same {S} x y is hy e pick = record { positive = hy; some = pick.some; kind = go pick.kind }
  where
    back : (z : Fraction) → IsFraction z → SameFraction x z → SameFraction y z
    back z hz f = same-trans y x z hy pick.positive hz (sym e) f

    ends : (near far : Fraction) → IsFraction near × IsFraction far → IsEndPick S near far x → IsEndPick S near far y
    ends near far h (inl p) = inl (p.0, back near h.0 p.1)
    ends near far h (inr (inl p)) = inr (inl (p.0, p.1, back far h.1 p.2))
    ends near far h (inr (inr p)) = inr (inr (p.0, p.1, back (middle near far) (middle-den near far h.0 h.1) p.2))

    go : IsNearestInteger S x ⊎ (HasNoInteger S × ((near far : Fraction) × AreEnds S near far × IsEndPick S near far x)) →
        IsNearestInteger S y ⊎ (HasNoInteger S × ((near far : Fraction) × AreEnds S near far × IsEndPick S near far y))
    go (inl i) = inl (record {
      inside = is.same x y pick.positive hy e i.inside;
      integer = integer-same x y pick.positive e i.integer;
      nearest = λ z hz s n. nearer-same x y z pick.positive hy e (i.nearest z hz s n);
    })
    go (inr (none, (near, far, f, p))) = inr (none, (near, far, f, ends near far (are_fractions near far f) p))

-- ---- lists compared place by place

pub zip_long : (xs ys : List Fraction) → AllZip SameFraction xs ys → length xs ≡ length ys
zip_long [] [] h = refl
zip_long [] (y ∷ ys) h = absurd h
zip_long (x ∷ xs) [] h = absurd h
zip_long (x ∷ xs) (y ∷ ys) h = ap suc (zip_long xs ys h.1)

pub zip_at : (xs ys : List Fraction) (j : ℕ) → AllZip SameFraction xs ys → SameFraction (get_or xs j zero_fraction) (get_or ys j zero_fraction)
zip_at [] [] j h = refl
zip_at [] (y ∷ ys) j h = absurd h
zip_at (x ∷ xs) [] j h = absurd h
zip_at (x ∷ xs) (y ∷ ys) zero h = h.0
zip_at (x ∷ xs) (y ∷ ys) (suc j) h = zip_at xs ys j h.1

pub zip_at_take : (i j : ℕ) (xs ys : List Fraction) → j < i → AllZip SameFraction (take i xs) (take i ys) → SameFraction (get_or xs j zero_fraction) (get_or ys j zero_fraction)
zip_at_take zero j xs ys lt h = absurd (omega arith)
zip_at_take (suc i) j [] [] lt h = refl
zip_at_take (suc i) j [] (y ∷ ys) lt h = absurd h
zip_at_take (suc i) j (x ∷ xs) [] lt h = absurd h
zip_at_take (suc i) zero (x ∷ xs) (y ∷ ys) lt h = h.0
zip_at_take (suc i) (suc j) (x ∷ xs) (y ∷ ys) lt h = zip_at_take i j xs ys (omega arith) h.1

pub zip_take : (i : ℕ) (xs ys : List Fraction) → length xs ≡ length ys →
    ((j : ℕ) → j < i → j < length xs → SameFraction (get_or xs j zero_fraction) (get_or ys j zero_fraction)) → AllZip SameFraction (take i xs) (take i ys)
zip_take zero xs ys l h = tt
zip_take (suc i) [] [] l h = tt
zip_take (suc i) [] (y ∷ ys) l h = absurd (omega arith)
zip_take (suc i) (x ∷ xs) [] l h = absurd (omega arith)
zip_take (suc i) (x ∷ xs) (y ∷ ys) l h = (h zero (omega arith) (omega arith), zip_take i xs ys (omega arith) (λ j a b. h (suc j) (omega arith) (omega arith)))
