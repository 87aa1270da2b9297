-- Picks of rows that hold at the same points are equal fractions.
use Rattle.std.proofs.Common.{◌≡◌, inl, inr, ℕ, zero, suc, ◌<◌, ◌≤◌, List, [], ◌∷◌, length, drop, sym, ◌∙◌, ap, subst, arith, ℤ, ◌+ℤ◌, ◌-ℤ◌, ◌*ℤ◌}
use Rattle.std.specs.List.{AllByRecursion, AllZip}
use Rattle.std.proofs.lemmas.Int.{ints}
use Rattle.std.proofs.lemmas.Bool.{cases_lt}
use Rattle.poly_specs.proofs.FractionLemmas.{same-trans, same-AtMost, AtMost-same, AtMost-trans, either}
use Rattle.poly_specs.proofs.IntLemmas.{products, expand}
use Rattle.poly_specs.proofs.PickLemmas.{unique, pick-alike}
use Rattle.poly_specs.specs.Fractions.{Fraction, IsFraction, SameFraction, AtMost, Below}
use Rattle.poly_specs.specs.Lists.{number_at}
use Rattle.poly_specs.specs.Pickings.{Picking, CanTake, IsOpen, ArePicked}
use Rattle.poly_specs.specs.Rows.{Point, Row, coordinate, over}
use Rattle.poly_specs.specs.Sets.{IsInterval}
use Rattle.run_parts.proofs.Choices.{Agree, at_place}
use Rattle.run_specs.proofs.FirstRunExists.{same-through}
use Rattle.run_specs.proofs.MixLemmas.{mixed, length-mixed, number-mixed, rows-mixed, mix-positive, IsMix}
use Rattle.run_specs.proofs.PickedLemmas.{AllFractions, fraction_at}
use Rattle.sample_succ.specs.Plain.{IsPlain}

pub all_fractions : (xs : List Fraction) → AllByRecursion IsFraction xs → AllFractions xs
all_fractions [] h = tt
all_fractions (x ∷ xs) h = (h.0, all_fractions xs h.1)

-- ---- lists that agree, one with one

pub zip_from : (xs ys : List Fraction) → length xs ≡ length ys → Agree (length xs) xs ys → AllZip SameFraction xs ys
zip_from [] [] e f = tt
zip_from [] (y ∷ ys) e f = absurd (omega (arith, e))
zip_from (x ∷ xs) [] e f = absurd (omega (arith, e))
zip_from (x ∷ xs) (y ∷ ys) e f = (f 0 (omega arith), zip_from xs ys (omega (arith, e)) (λ j h. f (suc j) (omega (arith, h))))

pub zip_drop : (n : ℕ) (xs ys : List Fraction) → AllZip SameFraction xs ys → AllZip SameFraction (drop n xs) (drop n ys)
zip_drop zero xs ys f = f
zip_drop (suc n) [] [] f = tt
zip_drop (suc n) [] (y ∷ ys) f = absurd f
zip_drop (suc n) (x ∷ xs) [] f = absurd f
zip_drop (suc n) (x ∷ xs) (y ∷ ys) f = zip_drop n xs ys f.1

-- ---- the values that are open for a column are an interval

-- equal numbers stay equal where they are mixed
mixed_same : (a d b c x y u v : ℤ) → a *ℤ y ≡ x *ℤ d → b *ℤ y ≡ x *ℤ c → (a *ℤ u +ℤ b *ℤ v) *ℤ y ≡ x *ℤ (d *ℤ u +ℤ c *ℤ v)
mixed_same a d b c x y u v e f =
    left ∙ ap (λ z. u *ℤ z +ℤ v *ℤ (b *ℤ y)) e ∙ ap (λ z. u *ℤ (x *ℤ d) +ℤ v *ℤ z) f ∙ sym right
  where
    left : (a *ℤ u +ℤ b *ℤ v) *ℤ y ≡ u *ℤ (a *ℤ y) +ℤ v *ℤ (b *ℤ y)
    left = simp expand (omega (arith, products))

    right : x *ℤ (d *ℤ u +ℤ c *ℤ v) ≡ u *ℤ (x *ℤ d) +ℤ v *ℤ (x *ℤ c)
    right = simp expand (omega (arith, products))

-- a/d below n/e below b/c: with these weights they give n/e
between_weights : (a d b c n e h k : ℤ) → h ≡ b *ℤ e -ℤ n *ℤ c → k ≡ n *ℤ d -ℤ a *ℤ e → (a *ℤ h +ℤ b *ℤ k) *ℤ e ≡ n *ℤ (d *ℤ h +ℤ c *ℤ k)
between_weights a d b c n e h k eh ek =
    left ∙ ap (λ z. h *ℤ z +ℤ k *ℤ (b *ℤ e)) one ∙ ap (λ z. h *ℤ (n *ℤ d -ℤ k) +ℤ k *ℤ z) two ∙ apart (n *ℤ d) (n *ℤ c) ∙ sym right
  where
    one : a *ℤ e ≡ n *ℤ d -ℤ k
    one = omega (arith, ints, ek)

    two : b *ℤ e ≡ n *ℤ c +ℤ h
    two = omega (arith, ints, eh)

    left : (a *ℤ h +ℤ b *ℤ k) *ℤ e ≡ h *ℤ (a *ℤ e) +ℤ k *ℤ (b *ℤ e)
    left = simp expand (omega (arith, products))

    right : n *ℤ (d *ℤ h +ℤ c *ℤ k) ≡ h *ℤ (n *ℤ d) +ℤ k *ℤ (n *ℤ c)
    right = simp expand (omega (arith, products))

    apart : (x y : ℤ) → h *ℤ (x -ℤ k) +ℤ k *ℤ (y +ℤ h) ≡ h *ℤ x +ℤ k *ℤ y
    apart x y = simp expand (omega (arith, ints))

module _ (p : Picking) (x : ℕ) (fractions : AllFractions p.numbers) where
  with_value : (q : Point) (v w : Fraction) → SameFraction (coordinate x q) w → CanTake p x v q → CanTake p x w q
  with_value q v w e c = record { point = c.point; agrees = c.agrees; value = e }

  strictly : (v w : Fraction) (q r : Point) (y : Fraction) → IsFraction y → CanTake p x v q → CanTake p x w r → Below (coordinate x q) y → Below y (coordinate x r) → IsOpen p x y
  strictly v w q r y hy cq cr lo up =
      let a : ℤ = number_at x q.num in
      let b : ℤ = number_at x r.num in
      let h : ℤ = b *ℤ y.den -ℤ y.num *ℤ r.den in
      let k : ℤ = y.num *ℤ q.den -ℤ a *ℤ y.den in
      let long : length q.num ≡ length r.num = cq.point.sized ∙ sym cr.point.sized in
      let mix : IsMix h k q.den r.den (q.den *ℤ h +ℤ r.den *ℤ k) = record {
        first = omega (arith, ints, up);
        second = omega (arith, ints, lo);
        first_den = cq.point.positive;
        second_den = cr.point.positive;
        den = λ i. q.den *ℤ h +ℤ r.den *ℤ k;
      } in
      let at : (j : ℕ) → number_at j (mixed h k q.num r.num) ≡ number_at j q.num *ℤ h +ℤ number_at j r.num *ℤ k = number-mixed h k q.num r.num long in (
        over (q.den *ℤ h +ℤ r.den *ℤ k) (mixed h k q.num r.num),
        record {
          point = record {
            positive = mix-positive mix;
            sized = length-mixed h k q.num r.num long ∙ cq.point.sized;
            holds = rows-mixed p.rows q.num r.num mix long cq.point.holds cr.point.holds;
          };
          agrees = λ j lt.
              let z : Fraction = at_place j p.numbers in
              ap (λ n. n *ℤ z.den) (at j) ∙ mixed_same (number_at j q.num) q.den (number_at j r.num) r.den z.num z.den h k (cq.agrees j lt) (cr.agrees j lt);
          value = ap (λ n. n *ℤ y.den) (at x) ∙ between_weights a q.den b r.den y.num y.den h k (λ i. h) (λ i. k);
        },
      )

  pub open_interval : IsInterval (IsOpen p x)
  open_interval = record {
    same = λ v w hv hw e o. (o.0, with_value o.0 v w (same-trans (coordinate x o.0) v w o.1.point.positive hv hw o.1.value e) o.1);
    between = λ v y w hv hy hw vy yw o u.
        let q : Fraction = coordinate x o.0 in
        let r : Fraction = coordinate x u.0 in
        let hq : IsFraction q = o.1.point.positive in
        let hr : IsFraction r = u.1.point.positive in
        let le : AtMost q y = AtMost-trans q v y hq hv hy (same-AtMost q v o.1.value).0 vy in
        let ge : AtMost y r = AtMost-trans y w r hy hw hr yw (same-AtMost r w u.1.value).1 in
        elim (either q y) [
          | inr back ↦ (o.0, with_value o.0 v y (AtMost-same q y le back) o.1)
          | inl lo ↦ elim (either y r) [
            | inr back ↦ (u.0, with_value u.0 w y (AtMost-same r y back ge) u.1)
            | inl up ↦ strictly v w o.0 u.0 y hy o.1 u.1 lo up
          ]
        ];
  }

-- ---- two pickings, whose rows hold at the same points

module _ (n k : ℕ) (rows plain : List Row) (xs ys : List Fraction) (is : IsPlain n rows plain) (lx : length xs ≡ n) (ly : length ys ≡ n) (hx : AllFractions xs) (hy : AllFractions ys) where
  abbrev pub thin : Picking
  thin = record { rows = rows; first = k; numbers = ys }

  abbrev pub full : Picking
  full = record { rows = plain; first = k; numbers = xs }

  pub open_full : (x : ℕ) → Agree x xs ys → (v : Fraction) → IsOpen thin x v → IsOpen full x v
  open_full x f v (q, c) = (
    q,
    record {
      point = record {
        positive = c.point.positive;
        sized = c.point.sized ∙ ly ∙ sym lx;
        holds = (is.same q c.point.positive (c.point.sized ∙ ly)).0 c.point.holds;
      };
      agrees = λ j h. same-through (coordinate j q) (at_place j ys) (at_place j xs) (fraction_at ys j hy) (c.agrees j h) (sym (f j h));
      value = c.value;
    },
  )

  pub open_thin : (x : ℕ) → Agree x xs ys → (v : Fraction) → IsOpen full x v → IsOpen thin x v
  open_thin x f v (q, c) = (
    q,
    record {
      point = record {
        positive = c.point.positive;
        sized = c.point.sized ∙ lx ∙ sym ly;
        holds = (is.same q c.point.positive (c.point.sized ∙ lx)).1 c.point.holds;
      };
      agrees = λ j h. same-through (coordinate j q) (at_place j xs) (at_place j ys) (fraction_at xs j hx) (c.agrees j h) (f j h);
      value = c.value;
    },
  )

  same_pick : (x : ℕ) → k ≤ x → x < n → ArePicked full → ArePicked thin → Agree x xs ys → SameFraction (at_place x xs) (at_place x ys)
  same_pick x hk hn one two f =
      unique (at_place x xs) (at_place x ys) (open_interval full x hx) (one x hk (omega (arith, hn, lx)))
      (pick-alike {S = IsOpen thin x} {T = IsOpen full x} (open_full x f) (open_thin x f) (at_place x ys) (two x hk (omega (arith, hn, ly))))

  pub picks_agree : (x : ℕ) → x ≤ n → Agree k xs ys → ArePicked full → ArePicked thin → Agree x xs ys
  picks_agree zero h given one two j lt = absurd (omega (arith, lt))
  picks_agree (suc x) h given one two j lt =
      let before : Agree x xs ys = picks_agree x (omega (arith, h)) given one two in
      elim (cases_lt j x) [
        | inl less ↦ before j less
        | inr more ↦ (let e : x ≡ j = omega (arith, more, lt) in subst (λ i. SameFraction (at_place i xs) (at_place i ys)) e (elim (cases_lt x k) [
          | inl first ↦ given x first
          | inr past ↦ same_pick x past (omega (arith, h)) one two before
        ]))
      ]
