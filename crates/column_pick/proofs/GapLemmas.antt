-- The pick between two ends that have no whole number between them.
use Rattle.std.proofs.Common.{◌≡◌, inl, inr, Bool, true, false, Option, Some, None, refl, sym, ◌∙◌, ap, subst, arith, ℤ, pos, ◌+ℤ◌, ◌*ℤ◌, ◌<ℤ◌}
use Rattle.std.specs.Prelude.{MatchBool, SomeIff, IsTrue, IsFalse}
use Rattle.std.proofs.lemmas.Int.{ints}
use Rattle.fm_eliminate.proofs.HoldingLemmas.{some_passes}
use Rattle.poly_specs.proofs.IntLemmas.{products, mul_comm_int, product_positive}
use Rattle.poly_specs.proofs.FractionLemmas.{AtMost-trans, Below-AtMost, AtMost-Below, Below-AtMost_trans, same-trans, middle-den, middle-same}
use Rattle.poly_specs.proofs.LowestLemmas.{lowest-IsFraction, lowest-same, lowest-stays, lowest-unique, least_sum-IsFraction, lowest-least_sum}
use Rattle.poly_specs.specs.Arithmetic.{lowest, least_sum}
use Rattle.poly_specs.specs.Bits.{NonePasses}
use Rattle.poly_specs.specs.Fractions.{Fraction, IsFraction, SameFraction, AtMost, Below, zero_fraction, sum_of}
use Rattle.poly_specs.specs.LowestTerms.{IsLowest}
use Rattle.poly_specs.specs.Pickings.{half, lowest_numbers, middle_numbers}
use Rattle.poly_specs.specs.Picks.{HasNoInteger, HasEnds, AreEnds, IsEndPick, IsPick, middle}
use Rattle.poly_specs.specs.Sets.{HasMember}
use Rattle.column_pick.proofs.RangeLemmas.{parted-IsFraction, up_to_most, up_to_below}
use Rattle.column_pick.specs.Ranges.{parted, least_middle, IsUpTo}
use Rattle.column_pick.specs.RangePicks.{IsPickOf, IsFrom, IsInGap, IsFirstClosed}
use Rattle.column_pick.specs.declared.ranges.Cap.{Cap}

-- ---- the middle

half-IsFraction : (x : Fraction) → IsFraction x → IsFraction (half x)
half-IsFraction x h = product_positive x.den (pos 2) h (record { lt = tt })

half-same : (x y : Fraction) → SameFraction x y → SameFraction (half x) (half y)
half-same x y e = twice x.num y.num x.den y.den e
  where
    twice : (n m p q : ℤ) → n *ℤ q ≡ m *ℤ p → n *ℤ (q *ℤ pos 2) ≡ m *ℤ (p *ℤ pos 2)
    twice n m p q e = omega (arith, products, e)

least_middle-same : (x y : Fraction) → IsFraction x → IsFraction y → SameFraction (least_middle x y) (middle x y)
least_middle-same x y hx hy =
    let a : Fraction = lowest x in
    let b : Fraction = lowest y in
    let ha : IsFraction a = lowest-IsFraction x hx in
    let hb : IsFraction b = lowest-IsFraction y hy in
    let hl : IsFraction (least_sum a b) = least_sum-IsFraction a b ha hb in
    let hs : IsFraction (sum_of a b) = product_positive a.den b.den ha hb in
    let sums : SameFraction (least_sum a b) (sum_of a b) = (lowest-unique (least_sum a b) (sum_of a b) hl hs).1 (lowest-least_sum a b ha hb) in
    let halves : SameFraction (half (least_sum a b)) (half (sum_of a b)) = half-same (least_sum a b) (sum_of a b) sums in
    let turned : SameFraction (half (sum_of a b)) (middle a b) = ap (λ d. (sum_of a b).num *ℤ d) (mul_comm_int (pos 2) (a.den *ℤ b.den)) in
    let hh = half-IsFraction (least_sum a b) hl in
    let hm = middle-den a b ha hb in
    same-trans (least_middle x y) (middle a b) (middle x y) (lowest-IsFraction (half (least_sum a b)) hh) hm (middle-den x y hx hy)
    (same-trans (least_middle x y) (half (least_sum a b)) (middle a b) (lowest-IsFraction (half (least_sum a b)) hh) hh hm (lowest-same (half (least_sum a b)))
    (same-trans (half (least_sum a b)) (half (sum_of a b)) (middle a b) hh (half-IsFraction (sum_of a b) hs) hm halves turned))
    (middle-same a b x y (lowest-same x) (lowest-same y))

flipped : (x y : Fraction) → SameFraction (middle x y) (middle y x)
flipped x y =
    let a : x.num *ℤ y.den +ℤ y.num *ℤ x.den ≡ y.num *ℤ x.den +ℤ x.num *ℤ y.den = omega (arith, ints) in
    let b : x.den *ℤ y.den ≡ y.den *ℤ x.den = mul_comm_int x.den y.den in
    ap (λ n. n *ℤ (pos 2 *ℤ (y.den *ℤ x.den))) a ∙ ap (λ d. (y.num *ℤ x.den +ℤ x.num *ℤ y.den) *ℤ (pos 2 *ℤ d)) (sym b)

pub lowest_is : (x : Fraction) → IsFraction x → IsLowest (lowest x)
lowest_is x h = record { positive = lowest-IsFraction x h; lowest_terms = lowest-stays x h }

-- ---- numbers from an end on

pub from_most : (o : Bool) (a v : Fraction) → IsFrom o a v → AtMost a v
from_most true a v h = Below-AtMost a v h
from_most false a v h = h

from_below : (o : Bool) (a v : Fraction) → Below a v → IsFrom o a v
from_below true a v h = h
from_below false a v h = Below-AtMost a v h

not_below : (v : Fraction) → Below v v → ⊥
not_below v h = omega (arith, ints, h)

from_itself : (o : Bool) (v : Fraction) → IsFalse o → IsFrom o v v
from_itself true v e = absurd (let f : ⊥ = cc in f)
from_itself false v e = itself v
  where
    itself : (v : Fraction) → AtMost v v
    itself v = omega (arith, ints)

up_to_itself : (o : Bool) (v : Fraction) → IsFalse o → IsUpTo o v v
up_to_itself true v e = absurd (let f : ⊥ = cc in f)
up_to_itself false v e = itself v
  where
    itself : (v : Fraction) → AtMost v v
    itself v = omega (arith, ints)

from_not : (o : Bool) (v : Fraction) → IsTrue o → IsFrom o v v → ⊥
from_not true v e h = not_below v h
from_not false v e h = absurd (let f : ⊥ = cc in f)

up_to_not : (o : Bool) (v : Fraction) → IsTrue o → IsUpTo o v v → ⊥
up_to_not true v e h = not_below v h
up_to_not false v e h = absurd (let f : ⊥ = cc in f)

-- what is at most z, which is within the end, is within it too
pub up_to_lower : (o : Bool) (a l z : Fraction) → IsFraction a → IsFraction l → IsFraction z → AtMost l z → IsUpTo o a z → IsUpTo o a l
up_to_lower true a l z ha hl hz le h = AtMost-Below l z a hl hz ha le h
up_to_lower false a l z ha hl hz le h = AtMost-trans l z a hl hz ha le h

from_upper : (o : Bool) (a h z : Fraction) → IsFraction a → IsFraction h → IsFraction z → AtMost z h → IsFrom o a z → IsFrom o a h
from_upper true a h z ha hh hz le f = Below-AtMost_trans a z h ha hz hh f le
from_upper false a h z ha hh hz le f = AtMost-trans a z h ha hz hh f le

-- ---- the gap

module _ (p : ℤ) (low high : Cap) (hp : pos 0 <ℤ p) (low_is : IsFraction low.end) (high_is : IsFraction high.end)
    (some : HasMember (IsInGap p low high)) (none : HasNoInteger (IsInGap p low high)) where
  abbrev G : Fraction → Type 0
  G = IsInGap p low high

  abbrev l : Fraction
  l = parted p low.end

  abbrev h : Fraction
  h = parted p high.end

  hl : IsFraction l
  hl = parted-IsFraction p low.end hp low_is

  hh : IsFraction h
  hh = parted-IsFraction p high.end hp high_is

  ends : HasEnds G l h
  ends = record {
    low_is = hl;
    high_is = hh;
    ordered = AtMost-trans l some.0 h hl some.1 hh (from_most low.is_open l some.0 some.2.0) (up_to_most high.is_open h some.0 some.2.1);
    outside = λ y hy g. (from_most low.is_open l y g.0, up_to_most high.is_open h y g.1);
    between = λ y hy a b. (from_below low.is_open l y a, up_to_below high.is_open h y b);
  }

  low_in : IsFalse low.is_open → G l
  low_in e = (from_itself low.is_open l e, up_to_lower high.is_open h l some.0 hh hl some.1 (from_most low.is_open l some.0 some.2.0) some.2.1)

  high_in : IsFalse high.is_open → G h
  high_in e = (from_upper low.is_open l h some.0 hl hh some.1 (up_to_most high.is_open h some.0 some.2.1) some.2.0, up_to_itself high.is_open h e)

  low_out : IsTrue low.is_open → G l → ⊥
  low_out e g = from_not low.is_open l e g.0

  high_out : IsTrue high.is_open → G h → ⊥
  high_out e g = up_to_not high.is_open h e g.1

  picked : (near far x : Fraction) → AreEnds G near far → IsFraction x → IsEndPick G near far x → IsPick G x
  picked near far x are hx e = record { positive = hx; some = some; kind = inr (none, (near, far, are, e)) }

  end_picked : (above : Bool) (end x : Fraction) → MatchBool above (AtMost zero_fraction l) (AtMost h zero_fraction) →
      MatchBool above (IsFirstClosed low high end) (IsFirstClosed high low end) → IsFraction x → SameFraction x (parted p end) → IsPick G x
  end_picked true end x side (inl (e, is)) hx same =
      picked l h x (inl (side, ends)) hx (inl (low_in e, subst (λ v. SameFraction x (parted p v)) is same))
  end_picked true end x side (inr (o, e, is)) hx same =
      picked l h x (inl (side, ends)) hx (inr (inl (low_out o, high_in e, subst (λ v. SameFraction x (parted p v)) is same)))
  end_picked false end x side (inl (e, is)) hx same =
      picked h l x (inr (side, ends)) hx (inl (high_in e, subst (λ v. SameFraction x (parted p v)) is same))
  end_picked false end x side (inr (o, e, is)) hx same =
      picked h l x (inr (side, ends)) hx (inr (inl (high_out o, low_in e, subst (λ v. SameFraction x (parted p v)) is same)))

  middle_picked : (above : Bool) (x : Fraction) → MatchBool above (AtMost zero_fraction l) (AtMost h zero_fraction) →
      IsTrue low.is_open → IsTrue high.is_open → IsFraction x → SameFraction x (middle l h) → IsPick G x
  middle_picked true x side ol oh hx same = picked l h x (inl (side, ends)) hx (inr (inr (low_out ol, high_out oh, same)))
  middle_picked false x side ol oh hx same =
      picked h l x (inr (side, ends)) hx (inr (inr (
        high_out oh,
        low_out ol,
        same-trans x (middle l h) (middle h l) hx (middle-den l h hl hh) (middle-den h l hh hl) same (flipped l h),
      )))

  pub end_pick_of : (above : Bool) (end : Fraction) (o : Option Fraction) → IsFraction end → MatchBool above (AtMost zero_fraction l) (AtMost h zero_fraction) →
      MatchBool above (IsFirstClosed low high end) (IsFirstClosed high low end) →
      SomeIff o (NonePasses (lowest_numbers (parted p end))) (lowest (parted p end)) → IsPickOf G o
  end_pick_of above end None he side first said =
      inl (parted p end, end_picked above end (parted p end) side first (parted-IsFraction p end hp he) refl, some_passes (lowest_numbers (parted p end)) said)
  end_pick_of above end (Some x) he side first said =
      let hx : IsFraction (parted p end) = parted-IsFraction p end hp he in
      subst (λ v. IsLowest v × IsPick G v) (sym said.1)
      (lowest_is (parted p end) hx, end_picked above end (lowest (parted p end)) side first (lowest-IsFraction (parted p end) hx) (lowest-same (parted p end)))

  pub middle_pick_of : (above : Bool) (o : Option Fraction) → MatchBool above (AtMost zero_fraction l) (AtMost h zero_fraction) →
      IsTrue low.is_open → IsTrue high.is_open → SomeIff o (NonePasses (middle_numbers l h)) (least_middle l h) → IsPickOf G o
  middle_pick_of above None side ol oh said =
      inr (l, h, record { ends = ends; no_integer = none; not_low = low_out ol; not_high = high_out oh }, some_passes (middle_numbers l h) said)
  middle_pick_of above (Some x) side ol oh said =
      let sum : Fraction = least_sum (lowest l) (lowest h) in
      let hs : IsFraction (half sum) = half-IsFraction sum (least_sum-IsFraction (lowest l) (lowest h) (lowest-IsFraction l hl) (lowest-IsFraction h hh)) in
      subst (λ v. IsLowest v × IsPick G v) (sym said.1)
      (lowest_is (half sum) hs, middle_picked above (least_middle l h) side ol oh (lowest-IsFraction (half sum) hs) (least_middle-same l h hl hh))
