-- The pick of the numbers between two caps.
use Rattle.std.proofs.Common.{◌≡◌, ◌↔◌, inl, inr, ℕ, ◌*◌, ◌≤◌, Bool, true, false, Option, Some, None, Result, Ok, Err, refl, sym, ◌∙◌, ap, subst, arith, ℤ, pos, ◌*ℤ◌, ◌≤ℤ◌, ◌<ℤ◌, neg_ℤ, unsigned_abs}
use Rattle.std.specs.Prelude.{⊤, IfOk}
use Rattle.fm_eliminate.specs.declared.RowFault.{RowFault}
use Rattle.std.proofs.lemmas.Int.{ints, by_lt_z, unsigned_abs-mul}
use Rattle.poly_specs.proofs.ColumnLemmas.{abs_is}
use Rattle.poly_specs.proofs.FractionLemmas.{same-AtMost}
use Rattle.poly_specs.proofs.IntLemmas.{neg_mul, mul_le}
use Rattle.poly_specs.proofs.LowestLemmas.{lowest-IsFraction, lowest-same, lowest-coprime, coprime-unique}
use Rattle.poly_specs.proofs.SetLemmas.{Within, pick_same}
use Rattle.poly_specs.proofs.CombinationLemmas.{gcd-IsGcd}
use Rattle.std.proofs.Math.Nat.{eq-one_of_dvd-one}
use Rattle.poly_specs.specs.Arithmetic.{lowest}
use Rattle.poly_specs.specs.Bits.{FitsBits, SomePasses}
use Rattle.fm_eliminate.proofs.HoldingLemmas.{some_passes}
use Rattle.std.proofs.lemmas.List.Elements.{recursion_from_All}
use Rattle.poly_specs.specs.Fractions.{Fraction, IsFraction, SameFraction, AtMost, zero_fraction, opposite}
use Rattle.poly_specs.specs.LowestTerms.{IsLowest}
use Rattle.poly_specs.specs.Pickings.{lowest_numbers}
use Rattle.poly_specs.specs.Picks.{IsNearer, HasNoInteger, IsPick}
use Rattle.column_pick.proofs.GapLemmas.{up_to_lower}
use Rattle.column_pick.proofs.RangeLemmas.{parted-IsFraction}
use Rattle.column_pick.specs.Ranges.{parted, IsUpTo, IsUnder, IsBetween, IsShort, whole, IsLeastWhole, HasNoWhole}
use Rattle.column_pick.specs.RangePicks.{IsOpenGap, FormingPasses, IsPickOf, IsFrom, IsInGap, opposite_cap, HasZero}
use Rattle.column_pick.specs.declared.ranges.Cap.{Cap}

-- ---- whole numbers

pub whole_is : (n : ℤ) → IsFraction (whole n)
whole_is n = record { lt = tt }

pub whole_lowest : (n : ℤ) → lowest (whole n) ≡ whole n
whole_lowest n =
    coprime-unique (lowest (whole n)) (whole n) (lowest-IsFraction (whole n) (whole_is n)) (whole_is n) (lowest-coprime (whole n) (whole_is n))
    (eq-one_of_dvd-one (gcd-IsGcd (unsigned_abs n) 1).1) (lowest-same (whole n))

pub whole_is_lowest : (n : ℤ) → IsLowest (whole n)
whole_is_lowest n = record { positive = whole_is n; lowest_terms = whole_lowest n }

neg_neg : (z : ℤ) → neg_ℤ (neg_ℤ z) ≡ z
neg_neg z = omega (arith, ints)

-- y is the integer m, and n is one that is no further from 0
nearer : (n m : ℤ) (y : Fraction) → IsFraction y → y.num ≡ m *ℤ y.den → unsigned_abs n ≤ unsigned_abs m → IsNearer (whole n) y
nearer n m y hy e le =
    let a : pos (unsigned_abs y.num) ≡ pos (unsigned_abs m * unsigned_abs y.den) = ap (λ k. pos (unsigned_abs k)) e ∙ ap (λ (k : ℕ). pos k) (unsigned_abs-mul m y.den) in
    let d = abs_is y.den hy in
    let k = mul_le y.den (pos (unsigned_abs n)) (pos (unsigned_abs m)) hy (omega (arith, ints)) in
    let f : pos (unsigned_abs m * unsigned_abs y.den) ≡ pos (unsigned_abs m) *ℤ y.den = omega (arith, ints) ∙ ap (λ z. pos (unsigned_abs m) *ℤ z) d in
    omega (arith, ints, a, f, k)

same_whole : (y : Fraction) (m : ℤ) → y.num ≡ m *ℤ y.den → SameFraction y (whole m)
same_whole y m e = omega (arith, ints, e)

same_opposite : (y : Fraction) (m : ℤ) → y.num ≡ m *ℤ y.den → SameFraction (opposite y) (opposite (whole m))
same_opposite y m e = omega (arith, ints, e, neg_mul m y.den)

-- ---- within a cap

-- the end of the cap is a fraction, if there is one
abbrev EndIs : Option Cap → Type 0
EndIs None = ⊤
EndIs (Some cap) = IsFraction cap.end

under_same : (p : ℤ) (cap : Option Cap) (x y : Fraction) → pos 0 <ℤ p → EndIs cap → IsFraction x → IsFraction y → SameFraction x y → IsUnder p cap x → IsUnder p cap y
under_same p None x y hp he hx hy e h = tt
under_same p (Some cap) x y hp he hx hy e h =
    up_to_lower cap.is_open (parted p cap.end) y x (parted-IsFraction p cap.end hp he) hy hx (same-AtMost x y e).1 h

-- ---- 0

pub zero_picked : (S : Fraction → Type 0) → S zero_fraction → IsPick S (whole (pos 0))
zero_picked S s = record {
  positive = whole_is (pos 0);
  some = (zero_fraction, whole_is (pos 0), s);
  kind = inl (record { inside = s; integer = (pos 0, refl); nearest = λ y hy t i. omega (arith, ints) });
}

pub short_below : (cap : Cap) → IsShort cap → cap.end.num ≤ℤ pos 0
short_below cap h = go cap.is_open cap.end h
  where
    go : (o : Bool) (e : Fraction) → (IsUpTo o e zero_fraction → ⊥) → e.num ≤ℤ pos 0
    go true e h = by_lt_z (pos 0) e.num (λ lt. absurd (h (omega (arith, ints, lt)))) (λ le. le)
    go false e h = by_lt_z (pos 0) e.num (λ lt. absurd (h (omega (arith, ints, lt)))) (λ le. le)

pub not_short : (cap : Cap) → (IsShort cap → ⊥) → HasZero (Some cap)
not_short cap n p hp = go cap.is_open cap.end n
  where
    go : (o : Bool) (e : Fraction) → ((IsUpTo o e zero_fraction → ⊥) → ⊥) → IsUpTo o (parted p e) zero_fraction
    go true e n = by_lt_z (pos 0) e.num (λ lt. omega (arith, ints, lt)) (λ le. absurd (n (λ h. omega (arith, ints, h, le))))
    go false e n = by_lt_z e.num (pos 0) (λ lt. absurd (n (λ h. omega (arith, ints, h, lt)))) (λ le. omega (arith, ints, le))

-- ---- the numbers above 0

module _ (p : ℤ) (down : Cap) (up : Option Cap) (hp : pos 0 <ℤ p) (down_is : IsFraction down.end) (up_is : EndIs up) where
  abbrev Above : Fraction → Type 0
  Above = IsBetween p (record { up = up; down = Some down })

  above_at : (y : Fraction) (m : ℤ) → IsFraction y → y.num ≡ m *ℤ y.den → Above y → IsUnder p up (whole m) × IsUnder p (Some down) (opposite (whole m))
  above_at y m hy e s = (
    under_same p up y (whole m) hp up_is hy (whole_is m) (same_whole y m e) s.0,
    under_same p (Some down) (opposite y) (opposite (whole m)) hp down_is hy (whole_is m) (same_opposite y m e) s.1,
  )

  pub above_whole : (n : ℤ) → IsLeastWhole p down n → IsUnder p up (whole n) → IsPick Above (whole n)
  above_whole n l u = record {
    positive = whole_is n;
    some = (whole n, whole_is n, (u, l.inside));
    kind = inl (record {
      inside = (u, l.inside);
      integer = (n, omega (arith, ints));
      nearest = λ y hy s i.
          let le = l.least i.0 (above_at y i.0 hy i.1 s).1 in
          let up' = l.above in
          nearer n i.0 y hy i.1 (omega (arith, ints, le, up'));
    });
  }

-- ---- the numbers below 0

module _ (p : ℤ) (up : Cap) (down : Option Cap) (hp : pos 0 <ℤ p) (up_is : IsFraction up.end) (down_is : EndIs down) where
  abbrev Under : Fraction → Type 0
  Under = IsBetween p (record { up = Some up; down = down })

  under_at : (y : Fraction) (m : ℤ) → IsFraction y → y.num ≡ m *ℤ y.den → Under y → IsUnder p (Some up) (opposite (whole (neg_ℤ m))) × IsUnder p down (whole (neg_ℤ m))
  under_at y m hy e s = (
    subst (λ z. IsUnder p (Some up) (whole z)) (sym (neg_neg m)) (under_same p (Some up) y (whole m) hp up_is hy (whole_is m) (same_whole y m e) s.0),
    under_same p down (opposite y) (opposite (whole m)) hp down_is hy (whole_is m) (same_opposite y m e) s.1,
  )

  pub under_whole : (n : ℤ) → IsLeastWhole p up n → IsUnder p down (whole n) → IsPick Under (whole (neg_ℤ n))
  under_whole n l d =
      let inside : Under (whole (neg_ℤ n)) = (l.inside, subst (λ z. IsUnder p down (whole z)) (sym (neg_neg n)) d) in
      record {
        positive = whole_is (neg_ℤ n);
        some = (whole (neg_ℤ n), whole_is (neg_ℤ n), inside);
        kind = inl (record {
          inside = inside;
          integer = (neg_ℤ n, omega (arith, ints));
          nearest = λ y hy s i.
              let le = l.least (neg_ℤ i.0) (under_at y i.0 hy i.1 s).0 in
              let up' = l.above in
              nearer (neg_ℤ n) i.0 y hy i.1 (omega (arith, ints, le, up'));
        });
      }

-- ---- between two ends

module _ (p : ℤ) (down up : Cap) (hp : pos 0 <ℤ p) (down_is : IsFraction down.end) (up_is : IsFraction up.end) where
  abbrev Between : Fraction → Type 0
  Between = IsBetween p (record { up = Some up; down = Some down })

  abbrev Gap : Fraction → Type 0
  Gap = IsInGap p (opposite_cap down) up

  turned : (o : Bool) (e v : Fraction) → IsUpTo o (parted p e) (opposite v) ↔ IsFrom o (parted p (opposite e)) v
  turned true e v =
      let a = neg_mul v.num (e.den *ℤ p) in let b = neg_mul e.num v.den in (λ h. omega (arith, ints, h, a, b), λ h. omega (arith, ints, h, a, b))
  turned false e v =
      let a = neg_mul v.num (e.den *ℤ p) in let b = neg_mul e.num v.den in (λ h. omega (arith, ints, h, a, b), λ h. omega (arith, ints, h, a, b))

  pub to_gap : Within Between Gap
  to_gap v hv s = ((turned down.is_open down.end v).0 s.1, s.0)

  pub from_gap : Within Gap Between
  from_gap v hv g = (g.1, (turned down.is_open down.end v).1 g.0)

  pub none_above : HasNoWhole p down up → HasNoInteger Gap
  none_above none y hy g i = let k = above_at p down (Some up) hp down_is up_is y i.0 hy i.1 (from_gap y hy g) in none i.0 k.1 k.0

  pub none_under : HasNoWhole p up down → HasNoInteger Gap
  none_under none y hy g i = let k = under_at p up (Some down) hp up_is down_is y i.0 hy i.1 (from_gap y hy g) in none (neg_ℤ i.0) k.0 k.1

  pub side_above : IsShort down → AtMost zero_fraction (parted p (opposite down.end))
  side_above short = let le = short_below down short in omega (arith, ints, le)

  pub side_under : IsShort up → AtMost (parted p up.end) zero_fraction
  side_under short = let le = short_below up short in omega (arith, ints, le)

-- ---- one set for another

module _ (S U : Fraction → Type 0) (to : Within S U) (back : Within U S) where
  pub open_gap_same : (low high : Fraction) → IsOpenGap S low high → IsOpenGap U low high
  open_gap_same low high g = record {
    ends = record {
      low_is = g.ends.low_is;
      high_is = g.ends.high_is;
      ordered = g.ends.ordered;
      outside = λ y hy u. g.ends.outside y hy (back y hy u);
      between = λ y hy a b. to y hy (g.ends.between y hy a b);
    };
    no_integer = λ y hy u i. g.no_integer y hy (back y hy u) i;
    not_low = λ u. g.not_low (back low g.ends.low_is u);
    not_high = λ u. g.not_high (back high g.ends.high_is u);
  }

  pub forming_same : FormingPasses S → FormingPasses U
  forming_same (inl (x, pick, passes)) = inl (x, pick_same S U to back x pick, passes)
  forming_same (inr (low, high, gap, passes)) = inr (low, high, open_gap_same low high gap, passes)

  pub pick_of_same : (o : Option Fraction) → IsPickOf S o → IsPickOf U o
  pick_of_same None f = forming_same f
  pick_of_same (Some x) (low, pick) = (low, pick_same S U to back x pick)

-- ---- what is answered

pub whole_pick : (S : Fraction → Type 0) (x : Fraction) (n : ℤ) → x ≡ whole n → IsPick S (whole n) → IsLowest x × IsPick S x
whole_pick S x n e pick = subst (λ v. IsLowest v × IsPick S v) (sym e) (whole_is_lowest n, pick)

whole_passes : (n : ℤ) → (FitsBits n → ⊥) → SomePasses (lowest_numbers (whole n))
whole_passes n none =
    some_passes (lowest_numbers (whole n)) (λ all. none (subst FitsBits (ap (λ v. v.num) (whole_lowest n)) (recursion_from_All FitsBits (lowest_numbers (whole n)) all).0))

pub whole_too_far : (S : Fraction → Type 0) (o : Option Fraction) (n : ℤ) → o ≡ None → IsPick S (whole n) → (FitsBits n → ⊥) → IsPickOf S o
whole_too_far S o n e pick none = subst (IsPickOf S) (sym e) (inl (whole n, pick, whole_passes n none))

pub opposite_fits : (n : ℤ) → FitsBits (neg_ℤ n) → FitsBits n
opposite_fits n h = omega (arith, ints, h)

-- what is answered of one set is answered of the other
pub ok_same : (S U : Fraction → Type 0) → Within S U → Within U S → (r : Result Fraction RowFault) →
    IfOk r (λ v. IsLowest v × IsPick S v) → IfOk r (λ v. IsLowest v × IsPick U v)
ok_same S U to back (Ok v) (low, pick) = (low, pick_same S U to back v pick)
ok_same S U to back (Err e) h = tt
