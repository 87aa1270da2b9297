-- Caps over one denominator, and the ranges between two of them.
use Rattle.std.proofs.Common.{◌≡◌, ◌≢◌, ◌↔◌, Bool, true, false, ◌||◌, Option, Some, None, sym, ap, subst, arith, ℤ, pos, negsuc, ◌+ℤ◌, ◌*ℤ◌, ◌<ℤ◌, neg_ℤ}
use Rattle.std.proofs.lemmas.Int.{ints}
use Rattle.poly_specs.proofs.IntLemmas.{products, neg_mul, mul_neg, mul_lt_pos, product_positive}
use Rattle.poly_specs.proofs.FractionLemmas.{AtMost-trans, Below-AtMost, AtMost-Below, Below-AtMost_trans, same-AtMost}
use Rattle.poly_specs.proofs.LowestLemmas.{lowest-IsFraction, lowest-same}
use Rattle.poly_specs.specs.Arithmetic.{lowest}
use Rattle.poly_specs.specs.Fractions.{Fraction, IsFraction, SameFraction, AtMost, Below, opposite}
use Rattle.poly_specs.specs.Rows.{Allows}
use Rattle.column_pick.specs.Ranges.{parted, IsUpTo, MeetsAt, IsCapOf, IsLesser, IsNarrowed}
use Rattle.column_pick.specs.declared.ranges.Cap.{Cap}
use Rattle.column_pick.specs.declared.ranges.Range.{Range}

-- ---- fractions divided by a whole number

pub parted-IsFraction : (p : ℤ) (x : Fraction) → pos 0 <ℤ p → IsFraction x → IsFraction (parted p x)
parted-IsFraction p x hp hx = product_positive x.den p hx hp

turned : (n d p : ℤ) → n *ℤ (d *ℤ p) ≡ p *ℤ (n *ℤ d)
turned n d p = omega (arith, products)

pub parted-same : (p : ℤ) (x y : Fraction) → SameFraction x y → SameFraction (parted p x) (parted p y)
parted-same p x y e = let f = ap (λ z. p *ℤ z) e in let a = turned x.num y.den p in let b = turned y.num x.den p in omega (arith, ints, a, b, f)

pub parted-Below : (p : ℤ) (x y : Fraction) → pos 0 <ℤ p → Below x y → Below (parted p x) (parted p y)
parted-Below (pos p) x y hp lt =
    let f = mul_lt_pos p (x.num *ℤ y.den) (y.num *ℤ x.den) (omega (arith, ints)) lt in
    let a = turned x.num y.den (pos p) in
    let b = turned y.num x.den (pos p) in
    omega (arith, ints, a, b, f)
parted-Below (negsuc p) x y hp lt = absurd (omega (arith, ints))

-- ---- numbers up to an end

pub up_to_most : (o : Bool) (a v : Fraction) → IsUpTo o a v → AtMost v a
up_to_most true a v h = Below-AtMost v a h
up_to_most false a v h = h

pub up_to_below : (o : Bool) (a v : Fraction) → Below v a → IsUpTo o a v
up_to_below true a v h = h
up_to_below false a v h = Below-AtMost v a h

up_to_lower : (o p : Bool) (a b v : Fraction) → IsFraction a → IsFraction b → IsFraction v → Below a b → IsUpTo o a v → IsUpTo p b v
up_to_lower o p a b v ha hb hv lt h = up_to_below p b v (AtMost-Below v a b hv ha hb (up_to_most o a v h) lt)

pub up_to_same : (o : Bool) (a b v : Fraction) → IsFraction a → IsFraction b → IsFraction v → SameFraction a b → IsUpTo o a v → IsUpTo o b v
up_to_same true a b v ha hb hv e h = Below-AtMost_trans v a b hv ha hb h (same-AtMost a b e).0
up_to_same false a b v ha hb hv e h = AtMost-trans v a b hv ha hb h (same-AtMost a b e).0

up_to_both : (o p : Bool) (a v : Fraction) → IsUpTo (o || p) a v ↔ (IsUpTo o a v × IsUpTo p a v)
up_to_both true p a v = (λ h. (h, up_to_below p a v h), λ h. h.0)
up_to_both false true a v = (λ h. (Below-AtMost v a h, h), λ h. h.1)
up_to_both false false a v = (λ h. (h, h), λ h. h.0)

-- ---- the lesser of two caps

module _ (a b : Cap) (ha : IsFraction a.end) (hb : IsFraction b.end) where
  pub lesser_left : Below a.end b.end → IsLesser (Some a) (Some b) (Some a)
  lesser_left lt p v hp hv = (
    λ h. (h, up_to_lower a.is_open b.is_open (parted p a.end) (parted p b.end) v (parted-IsFraction p a.end hp ha) (parted-IsFraction p b.end hp hb) hv (parted-Below p a.end b.end hp lt) h),
    λ h. h.0,
  )

  pub lesser_right : Below b.end a.end → IsLesser (Some a) (Some b) (Some b)
  lesser_right lt p v hp hv = (
    λ h. (up_to_lower b.is_open a.is_open (parted p b.end) (parted p a.end) v (parted-IsFraction p b.end hp hb) (parted-IsFraction p a.end hp ha) hv (parted-Below p b.end a.end hp lt) h, h),
    λ h. h.1,
  )

  pub lesser_same : SameFraction a.end b.end → IsLesser (Some a) (Some b) (Some (record { end = a.end; is_open = a.is_open || b.is_open }))
  lesser_same e p v hp hv =
      let pa = parted-IsFraction p a.end hp ha in
      let pb = parted-IsFraction p b.end hp hb in
      let f : SameFraction (parted p a.end) (parted p b.end) = parted-same p a.end b.end e in (
        λ h. (let k = (up_to_both a.is_open b.is_open (parted p a.end) v).0 h in (k.0, up_to_same b.is_open (parted p a.end) (parted p b.end) v pa pb hv f k.1)),
        λ h. (up_to_both a.is_open b.is_open (parted p a.end) v).1 (h.0, up_to_same b.is_open (parted p b.end) (parted p a.end) v pb pa hv (sym f) h.1),
      )

pub first_cap : (cap : Cap) → IsLesser None (Some cap) (Some cap)
first_cap cap p v hp hv = (λ h. (tt, h), λ h. h.1)

-- ---- the cap of a line

root_meets : (s : Bool) (p a c : ℤ) (v : Fraction) → IsUpTo s (parted p (record { num = neg_ℤ c; den = a })) v ↔ MeetsAt p a c s v
root_meets true p a c v = (λ h. omega (arith, ints, h, neg_mul c v.den), λ h. omega (arith, ints, h, neg_mul c v.den))
root_meets false p a c v = (λ h. omega (arith, ints, h, neg_mul c v.den), λ h. omega (arith, ints, h, neg_mul c v.den))

pub line_cap : (a c : ℤ) (s : Bool) (end : Fraction) → pos 0 <ℤ a → end ≡ lowest (record { num = neg_ℤ c; den = a }) → IsCapOf a c s (record { end = end; is_open = s })
line_cap a c s end ha e = subst (λ f. IsCapOf a c s (record { end = f; is_open = s })) (sym e) here
  where
    root : Fraction
    root = record { num = neg_ℤ c; den = a }

    here : IsCapOf a c s (record { end = lowest root; is_open = s })
    here p v hp hv =
        let hl : IsFraction (parted p (lowest root)) = parted-IsFraction p (lowest root) hp (lowest-IsFraction root ha) in
        let hr : IsFraction (parted p root) = parted-IsFraction p root hp ha in
        let same : SameFraction (parted p (lowest root)) (parted p root) = parted-same p (lowest root) root (lowest-same root) in
        let both = root_meets s p a c v in (
          λ h. both.0 (up_to_same s (parted p (lowest root)) (parted p root) v hl hr hv same h),
          λ m. up_to_same s (parted p root) (parted p (lowest root)) v hr hl hv (sym same) (both.1 m),
        )

-- ---- a range, narrowed

meets_opposite : (p a c : ℤ) (s : Bool) (v : Fraction) → MeetsAt p (neg_ℤ a) c s (opposite v) ↔ MeetsAt p a c s v
meets_opposite p a c s v =
    let e : (neg_ℤ a *ℤ p) *ℤ neg_ℤ v.num +ℤ c *ℤ v.den ≡ (a *ℤ p) *ℤ v.num +ℤ c *ℤ v.den = turned_sign (neg_mul a p) in
    (λ h. subst (Allows s) e h, λ h. subst (Allows s) (sym e) h)
  where
    turned_sign : neg_ℤ a *ℤ p ≡ neg_ℤ (a *ℤ p) → (neg_ℤ a *ℤ p) *ℤ neg_ℤ v.num +ℤ c *ℤ v.den ≡ (a *ℤ p) *ℤ v.num +ℤ c *ℤ v.den
    turned_sign e =
        let f = ap (λ z. z *ℤ neg_ℤ v.num) e in
        omega (arith, ints, f, neg_mul (a *ℤ p) (neg_ℤ v.num), mul_neg (a *ℤ p) v.num)

module _ (range : Range) (a c : ℤ) (s : Bool) (cap : Cap) where
  pub narrowed_up : (up : Option Cap) → a ≢ pos 0 → IsCapOf a c s cap → IsLesser range.up (Some cap) up → IsNarrowed range a c s (record { up = up; down = range.down })
  narrowed_up up some of less p v hp hv = (
    λ h. (let k = (less p v hp hv).0 h.0 in ((k.0, h.1), λ n. (of p v hp hv).0 k.1)),
    λ h. ((less p v hp hv).1 (h.0.0, (of p v hp hv).1 (h.1 some)), h.0.1),
  )

  pub narrowed_down : (down : Option Cap) → a ≢ pos 0 → IsCapOf (neg_ℤ a) c s cap → IsLesser range.down (Some cap) down →
      IsNarrowed range a c s (record { up = range.up; down = down })
  narrowed_down down some of less p v hp hv = (
    λ h. (let k = (less p (opposite v) hp hv).0 h.1 in ((h.0, k.0), λ n. (meets_opposite p a c s v).0 ((of p (opposite v) hp hv).0 k.1))),
    λ h. (h.0.0, (less p (opposite v) hp hv).1 (h.0.1, (of p (opposite v) hp hv).1 ((meets_opposite p a c s v).1 (h.1 some)))),
  )

pub narrowed_not : (range : Range) (a c : ℤ) (s : Bool) → a ≡ pos 0 → IsNarrowed range a c s range
narrowed_not range a c s e p v hp hv = (λ h. (h, λ n. absurd (n e)), λ h. h.0)
