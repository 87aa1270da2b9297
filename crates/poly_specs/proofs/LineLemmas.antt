-- Rows of one variable: the numbers at which they all hold are an interval with its ends, and have a pick.
use Rattle.std.proofs.Common.{◌≡◌, ◌⊎◌, inl, inr, suc, Bool, true, false, List, [], ◌∷◌, map, Option, Some, None, sym, ap, subst, arith, ℤ, pos, negsuc, ◌+ℤ◌, ◌-ℤ◌, ◌*ℤ◌, ◌≤ℤ◌, ◌<ℤ◌, neg_ℤ}
use Rattle.std.proofs.lemmas.Int.{ints, by_lt_z}
use Rattle.poly_specs.proofs.IntLemmas.{products, expand, mul_neg, neg_mul, mul_le_pos, product_positive}
use Rattle.poly_specs.proofs.LinearLemmas.{Allows-at_most, Allows-below, scaled_by, cancelled_by}
use Rattle.poly_specs.proofs.FractionLemmas.{AtMost-trans, Below-AtMost, either, AtMost-Below, Below-AtMost_trans, middle-den, middle-between}
use Rattle.poly_specs.proofs.SetLemmas.{some_pick_told}
use Rattle.poly_specs.specs.Fractions.{Fraction, IsFraction, AtMost, Below, opposite}
use Rattle.poly_specs.specs.Rows.{Allows}
use Rattle.poly_specs.specs.Sets.{IsInterval, HasMember, HasBelow, HasAbove, IsLowEnd, IsHighEnd}
use Rattle.poly_specs.specs.Picks.{IsPick, middle}

-- a row of one variable: its coefficient, its constant, and the mark of a strict row
pub record Line : Type 0 where
  pub lead : ℤ
  pub cst : ℤ
  pub strict : Bool

-- the row's sum at v, times its denominator
abbrev pub value_at : Line → Fraction → ℤ
value_at l v = l.lead *ℤ v.num +ℤ l.cst *ℤ v.den

abbrev pub Meets : Line → Fraction → Type 0
Meets l v = Allows l.strict (value_at l v)

abbrev pub MeetsAll : List Line → Fraction → Type 0
MeetsAll [] v = Unit {0}
MeetsAll (l ∷ ls) v = Meets l v × MeetsAll ls v

-- ---- whether they hold at a number can be told

pub Allows-or_not : (s : Bool) (z : ℤ) → Allows s z ⊎ (Allows s z → ⊥)
Allows-or_not true z = by_lt_z z (pos 0) (λ lt. inl lt) (λ le. inr (λ h. absurd (omega (arith, ints, h, le))))
Allows-or_not false z = by_lt_z (pos 0) z (λ lt. inr (λ h. absurd (omega (arith, ints, h, lt)))) (λ le. inl le)

meets_all_or_not : (ls : List Line) (v : Fraction) → MeetsAll ls v ⊎ (MeetsAll ls v → ⊥)
meets_all_or_not [] v = inl tt
meets_all_or_not (l ∷ ls) v = elim (Allows-or_not l.strict (value_at l v)) [
  | inl h ↦ elim (meets_all_or_not ls v) [ inl t ↦ inl (h, t) | inr n ↦ inr (λ m. n m.1) ]
  | inr n ↦ inr (λ m. n m.0)
]

-- ---- the numbers at which they hold are an interval

Allows-lower : (s : Bool) (v w : ℤ) → v ≤ℤ w → Allows s w → Allows s v
Allows-lower true v w le h = omega (arith, ints, le, h)
Allows-lower false v w le h = omega (arith, ints, le, h)

meets_toward : (l : Line) (y z : Fraction) → IsFraction y → IsFraction z →
    (l.lead *ℤ (y.num *ℤ z.den)) ≤ℤ (l.lead *ℤ (z.num *ℤ y.den)) → Meets l z → Meets l y
meets_toward l y z hy hz le h =
    let e : (z.den *ℤ value_at l y) ≤ℤ (y.den *ℤ value_at l z) = simp expand (omega (arith, products, le)) in
    cancelled_by l.strict z.den (value_at l y) hz
    (Allows-lower l.strict (z.den *ℤ value_at l y) (y.den *ℤ value_at l z) e (scaled_by l.strict y.den (value_at l z) hy h))

lead_up : (a u v : ℤ) → pos 0 ≤ℤ a → u ≤ℤ v → (a *ℤ u) ≤ℤ (a *ℤ v)
lead_up (pos n) u v h le = mul_le_pos n u v le
lead_up (negsuc n) u v h le = absurd (omega (arith, ints))

lead_down : (a u v : ℤ) → a <ℤ pos 0 → u ≤ℤ v → (a *ℤ v) ≤ℤ (a *ℤ u)
lead_down (pos n) u v h le = absurd (omega (arith, ints))
lead_down (negsuc n) u v h le = let m = mul_le_pos (suc n) u v le in omega (arith, ints, m)

meets_below : (l : Line) (y z : Fraction) → IsFraction y → IsFraction z → pos 0 ≤ℤ l.lead → AtMost y z → Meets l z → Meets l y
meets_below l y z hy hz h le m = meets_toward l y z hy hz (lead_up l.lead (y.num *ℤ z.den) (z.num *ℤ y.den) h le) m

meets_above : (l : Line) (x y : Fraction) → IsFraction x → IsFraction y → l.lead <ℤ pos 0 → AtMost x y → Meets l x → Meets l y
meets_above l x y hx hy h le m = meets_toward l y x hy hx (lead_down l.lead (x.num *ℤ y.den) (y.num *ℤ x.den) h le) m

meets_interval : (l : Line) → IsInterval (Meets l)
meets_interval l = record {
  same = λ x y hx hy e m. meets_toward l y x hy hx (let f = ap (λ z. l.lead *ℤ z) e in omega (arith, ints, f)) m;
  between = λ x y z hx hy hz a b m n. by_lt_z l.lead (pos 0) (λ lt. meets_above l x y hx hy lt a m) (λ le. meets_below l y z hy hz le b n);
}

pub meets_all_interval : (ls : List Line) → IsInterval (MeetsAll ls)
meets_all_interval [] = record { same = λ x y hx hy e m. tt; between = λ x y z hx hy hz a b m n. tt }
meets_all_interval (l ∷ ls) =
    let one = meets_interval l in
    let all = meets_all_interval ls in
    record {
      same = λ x y hx hy e m. (one.same x y hx hy e m.0, all.same x y hx hy e m.1);
      between = λ x y z hx hy hz a b m n. (one.between x y z hx hy hz a b m.0 n.0, all.between x y z hx hy hz a b m.1 n.1);
    }

-- ---- the low end

module _ (H S : Fraction → Type 0) (z : Fraction) (hz : IsFraction z) (inside : H z) (within : S z) where
  abbrev Both : Fraction → Type 0
  Both v = H v × S v

  -- a set that has all below z leaves the low end as it is
  below_kept : ((u : Fraction) → IsFraction u → AtMost u z → H u) → (v : Fraction) → IsFraction v → HasBelow S v → HasBelow Both v
  below_kept down v hv (u, hu, (s, lt)) = elim (either z u) [
    | inl over ↦ (z, hz, ((inside, within), Below-AtMost_trans z u v hz hu hv over (Below-AtMost u v lt)))
    | inr le ↦ (u, hu, ((down u hu le, s), lt))
  ]

  kept_low : ((u : Fraction) → IsFraction u → AtMost u z → H u) → (low : Option Fraction) → IsLowEnd S low → IsLowEnd Both low
  kept_low down None low = λ v hv. below_kept down v hv (low v hv)
  kept_low down (Some k) low = (low.0, λ x hx m. low.1 x hx m.1, λ v hv lt. below_kept down v hv (low.2 v hv lt))

  -- k bounds both sets, all above e is in the one, and the other comes as near to k as any number above it
  raised_low : (e k : Fraction) → IsInterval S → IsFraction e → ((v : Fraction) → IsFraction v → Below e v → H v) →
      IsFraction k → AtMost e k → ((x : Fraction) → IsFraction x → Both x → AtMost k x) → ((w : Fraction) → IsFraction w → Below k w → HasBelow S w) →
      IsLowEnd Both (Some k)
  raised_low e k is he past hk le bound near = (hk, bound, reach)
    where
      reach : (v : Fraction) → IsFraction v → Below k v → HasBelow Both v
      reach v hv lt = elim (either z v) [
        | inl under ↦ (z, hz, ((inside, within), under))
        | inr over ↦ (
            let m : Fraction = middle k v in
            let hm = middle-den k v hk hv in
            let b = middle-between k v hk hv lt in
            let u = near m hm b.0 in
            let first = past m hm (AtMost-Below e k m he hk hm le b.0) in
            let second = is.between u.0 m z u.1 hm hz (Below-AtMost u.0 m u.2.1) (AtMost-trans m v z hm hv hz (Below-AtMost m v b.1) over) u.2.0 within in
            (m, hm, ((first, second), b.1)))
      ]

-- where a row with a negative coefficient is 0
abbrev root : Line → Fraction
root l = record { num = l.cst; den = neg_ℤ l.lead }

root_is : (l : Line) → l.lead <ℤ pos 0 → IsFraction (root l)
root_is l h = omega (arith, ints, h)

from_root : (l : Line) (v : Fraction) → Meets l v → AtMost (root l) v
from_root l v m = let h = Allows-at_most l.strict (value_at l v) m in omega (arith, ints, h, mul_neg v.num l.lead)

past_root : (l : Line) (v : Fraction) → Below (root l) v → Meets l v
past_root l v lt = Allows-below l.strict (value_at l v) (omega (arith, ints, lt, mul_neg v.num l.lead))

-- v - 1
abbrev one_less : Fraction → Fraction
one_less v = record { num = v.num -ℤ v.den; den = v.den }

one_less_below : (v : Fraction) → IsFraction v → Below (one_less v) v
one_less_below v hv = let h = product_positive v.den v.den hv hv in simp expand (omega (arith, ints, h))

raised_end : (l : Line) (ls : List Line) (z : Fraction) → IsFraction z → MeetsAll (l ∷ ls) z → l.lead <ℤ pos 0 →
    (low : Option Fraction) → IsLowEnd (MeetsAll ls) low → (low : Option Fraction) × IsLowEnd (MeetsAll (l ∷ ls)) low
raised_end l ls z hz m neg None low =
    let e : Fraction = root l in (
      Some e,
      raised_low (Meets l) (MeetsAll ls) z hz m.0 m.1 e e (meets_all_interval ls) (root_is l neg) (λ v hv lt. past_root l v lt)
          (root_is l neg) (omega (arith, ints)) (λ x hx t. from_root l x t.0) (λ w hw lt. low w hw),
    )
raised_end l ls z hz m neg (Some k) low =
    let e : Fraction = root l in
    elim (either k e) [
      | inl lt ↦ (
        Some e,
        raised_low (Meets l) (MeetsAll ls) z hz m.0 m.1 e e (meets_all_interval ls) (root_is l neg) (λ v hv lt. past_root l v lt)
            (root_is l neg) (omega (arith, ints)) (λ x hx t. from_root l x t.0)
            (λ w hw over. low.2 w hw (Below-AtMost_trans k e w low.0 (root_is l neg) hw lt (Below-AtMost e w over))),
      )
      | inr le ↦ (
        Some k,
        raised_low (Meets l) (MeetsAll ls) z hz m.0 m.1 e k (meets_all_interval ls) (root_is l neg) (λ v hv lt. past_root l v lt)
            low.0 le (λ x hx t. low.1 x hx t.1) low.2,
      )
    ]

low_end : (ls : List Line) (z : Fraction) → IsFraction z → MeetsAll ls z → (low : Option Fraction) × IsLowEnd (MeetsAll ls) low
low_end [] z hz m = (None, λ v hv. (one_less v, hv, (tt, one_less_below v hv)))
low_end (l ∷ ls) z hz m =
    let r = low_end ls z hz m.1 in
    by_lt_z l.lead (pos 0)
    (λ neg. raised_end l ls z hz m neg r.0 r.1)
    (λ le. (r.0, kept_low (Meets l) (MeetsAll ls) z hz m.0 m.1 (λ u hu under. meets_below l u z hu hz le under m.0) r.0 r.1))

-- ---- the high end, which is the low end of the opposite set

abbrev mirror : Line → Line
mirror l = record { lead = neg_ℤ l.lead; cst = l.cst; strict = l.strict }

value-mirror : (l : Line) (v : Fraction) → value_at (mirror l) v ≡ value_at l (opposite v)
value-mirror l v = omega (arith, ints, neg_mul l.lead v.num, mul_neg l.lead v.num)

value-opposite : (l : Line) (v : Fraction) → value_at (mirror l) (opposite v) ≡ value_at l v
value-opposite l v =
    omega (arith, ints, neg_mul l.lead (neg_ℤ v.num), mul_neg l.lead v.num)

mirrored : (ls : List Line) (v : Fraction) → MeetsAll ls v → MeetsAll (map mirror ls) (opposite v)
mirrored [] v m = tt
mirrored (l ∷ ls) v m = (subst (Allows l.strict) (sym (value-opposite l v)) m.0, mirrored ls v m.1)

mirrored_back : (ls : List Line) (v : Fraction) → MeetsAll (map mirror ls) v → MeetsAll ls (opposite v)
mirrored_back [] v m = tt
mirrored_back (l ∷ ls) v m = (subst (Allows l.strict) (value-mirror l v) m.0, mirrored_back ls v m.1)

abbrev opposite_end : Option Fraction → Option Fraction
opposite_end None = None
opposite_end (Some end) = Some (opposite end)

opposite_below : (u v : Fraction) → Below u (opposite v) → Below v (opposite u)
opposite_below u v lt = omega (arith, ints, lt, neg_mul u.num v.den, neg_mul v.num u.den)

opposite_most : (u v : Fraction) → AtMost u (opposite v) → AtMost v (opposite u)
opposite_most u v le = omega (arith, ints, le, neg_mul u.num v.den, neg_mul v.num u.den)

opposite_above : (u v : Fraction) → Below v (opposite u) → Below u (opposite v)
opposite_above u v lt = opposite_below v u lt

module _ (S U : Fraction → Type 0) (to : (v : Fraction) → S v → U (opposite v)) (back : (v : Fraction) → U v → S (opposite v)) where
  above_from_below : (v : Fraction) → HasBelow U (opposite v) → HasAbove S v
  above_from_below v (u, hu, (s, lt)) = (opposite u, hu, (back u s, opposite_below u v lt))

  high_from_low : (low : Option Fraction) → IsLowEnd U low → IsHighEnd S (opposite_end low)
  high_from_low None low = λ v hv. above_from_below v (low (opposite v) hv)
  high_from_low (Some k) low = (
    low.0,
    λ x hx s. opposite_most k x (low.1 (opposite x) hx (to x s)),
    λ v hv lt. above_from_below v (low.2 (opposite v) hv (opposite_above k v lt)),
  )

high_end : (ls : List Line) (z : Fraction) → IsFraction z → MeetsAll ls z → (high : Option Fraction) × IsHighEnd (MeetsAll ls) high
high_end ls z hz m =
    let r = low_end (map mirror ls) (opposite z) hz (mirrored ls z m) in
    (opposite_end r.0, high_from_low (MeetsAll ls) (MeetsAll (map mirror ls)) (mirrored ls) (mirrored_back ls) r.0 r.1)

-- rows of one variable that hold somewhere have a pick
pub line_pick : (ls : List Line) → HasMember (MeetsAll ls) → (x : Fraction) × IsPick (MeetsAll ls) x
line_pick ls some =
    let l = low_end ls some.0 some.1 some.2 in
    let h = high_end ls some.0 some.1 some.2 in
    some_pick_told (MeetsAll ls) (meets_all_or_not ls) l.0 h.0 (meets_all_interval ls) some l.1 h.1
