-- The cap of rows in their first column.
use Rattle.std.proofs.Common.{◌≡◌, ◌↔◌, List, [], ◌∷◌, ◌++◌, sym, subst, arith, Bool, true, false, ◌||◌, Option, Some, None, ℤ, pos, ◌+ℤ◌, ◌*ℤ◌, ◌≤ℤ◌, ◌<ℤ◌, neg_ℤ}
use Rattle.std.specs.Prelude.{All}
use Rattle.std.specs.List.{AllByRecursion}
use Rattle.std.proofs.lemmas.Int.{ints}
use Rattle.std.proofs.lemmas.List.Elements.{All-push, All-from_recursion, recursion_from_All}
use Rattle.poly_specs.proofs.IntLemmas.{neg_mul}
use Rattle.poly_specs.proofs.FractionLemmas.{AtMost-trans, Below-AtMost, AtMost-Below, Below-AtMost_trans, same-AtMost}
use Rattle.poly_specs.proofs.LowestLemmas.{lowest-IsFraction, lowest-same}
use Rattle.poly_specs.specs.Arithmetic.{lowest}
use Rattle.poly_specs.specs.Fractions.{Fraction, IsFraction, SameFraction, AtMost, Below}
use Rattle.poly_specs.specs.Rows.{Row, Allows, coef_at}
use Rattle.poly_decide.specs.Caps.{HoldsAt, IsUpTo, IsCap, IsWithin, IsLeastCap}
use Rattle.poly_decide.specs.declared.caps.Cap.{Cap}

-- ---- numbers up to an end

up_to_most : (o : Bool) (a v : Fraction) → IsUpTo o a v → AtMost v a
up_to_most true a v h = Below-AtMost v a h
up_to_most false a v h = h

up_to_below : (o : Bool) (a v : Fraction) → Below v a → IsUpTo o a v
up_to_below true a v h = h
up_to_below false a v h = Below-AtMost v a h

up_to_lower : (o p : Bool) (a b v : Fraction) → IsFraction a → IsFraction b → IsFraction v → Below a b → IsUpTo o a v → IsUpTo p b v
up_to_lower o p a b v ha hb hv lt h = up_to_below p b v (AtMost-Below v a b hv ha hb (up_to_most o a v h) lt)

up_to_same : (o : Bool) (a b v : Fraction) → IsFraction a → IsFraction b → IsFraction v → SameFraction a b → IsUpTo o a v → IsUpTo o b v
up_to_same true a b v ha hb hv e h = Below-AtMost_trans v a b hv ha hb h (same-AtMost a b e).0
up_to_same false a b v ha hb hv e h = AtMost-trans v a b hv ha hb h (same-AtMost a b e).0

up_to_both : (o p : Bool) (a v : Fraction) → IsUpTo (o || p) a v ↔ (IsUpTo o a v × IsUpTo p a v)
up_to_both true p a v = (λ h. (h, up_to_below p a v h), λ h. h.0)
up_to_both false true a v = (λ h. (Below-AtMost v a h, h), λ h. h.1)
up_to_both false false a v = (λ h. (h, h), λ h. h.0)

abbrev pub Both : Cap → Cap → Fraction → Type 0
Both a b v = IsUpTo a.is_open a.end v × IsUpTo b.is_open b.end v

pub lesser_left : (a b : Cap) → IsFraction a.end → IsFraction b.end → Below a.end b.end → IsCap a (Both a b)
lesser_left a b ha hb lt = record {
  fraction = ha;
  same = λ v hv. (λ h. (h, up_to_lower a.is_open b.is_open a.end b.end v ha hb hv lt h), λ h. h.0);
}

pub lesser_right : (a b : Cap) → IsFraction a.end → IsFraction b.end → Below b.end a.end → IsCap b (Both a b)
lesser_right a b ha hb lt = record {
  fraction = hb;
  same = λ v hv. (λ h. (up_to_lower b.is_open a.is_open b.end a.end v hb ha hv lt h, h), λ h. h.1);
}

pub lesser_same : (a b : Cap) → IsFraction a.end → IsFraction b.end → SameFraction a.end b.end → IsCap (record { end = a.end; is_open = a.is_open || b.is_open }) (Both a b)
lesser_same a b ha hb e = record {
  fraction = ha;
  same = λ v hv. (
    λ h. (let k = (up_to_both a.is_open b.is_open a.end v).0 h in (k.0, up_to_same b.is_open a.end b.end v ha hb hv e k.1)),
    λ h. (up_to_both a.is_open b.is_open a.end v).1 (h.0, up_to_same b.is_open b.end a.end v hb ha hv (sym e) h.1),
  );
}

-- ---- the cap of one row

abbrev pub root : Row → Fraction
root r = record { num = neg_ℤ r.cst; den = coef_at 0 r }

root_holds : (s : Bool) (a c : ℤ) (v : Fraction) → IsUpTo s (record { num = neg_ℤ c; den = a }) v ↔ Allows s (a *ℤ v.num +ℤ c *ℤ v.den)
root_holds true a c v = (λ h. omega (arith, ints, h, neg_mul c v.den), λ h. omega (arith, ints, h, neg_mul c v.den))
root_holds false a c v = (λ h. omega (arith, ints, h, neg_mul c v.den), λ h. omega (arith, ints, h, neg_mul c v.den))

row_cap : (r : Row) → pos 0 <ℤ coef_at 0 r → IsCap (record { end = lowest (root r); is_open = r.strict }) (HoldsAt r)
row_cap r h =
    let hl : IsFraction (lowest (root r)) = lowest-IsFraction (root r) h in
    let e : SameFraction (lowest (root r)) (root r) = lowest-same (root r) in
    record {
      fraction = hl;
      same = λ v hv.
          let both = root_holds r.strict (coef_at 0 r) r.cst v in (
            λ k. both.0 (up_to_same r.strict (lowest (root r)) (root r) v hl h hv e k),
            λ k. up_to_same r.strict (root r) (lowest (root r)) v h hl hv (sym e) (both.1 k),
          );
    }

pub row_cap_at : (r : Row) (end : Fraction) (mark : Bool) → pos 0 <ℤ coef_at 0 r → end ≡ lowest (root r) → mark ≡ r.strict →
    IsCap (record { end = end; is_open = mark }) (HoldsAt r)
row_cap_at r end mark h e f =
    subst (λ o. IsCap (record { end = end; is_open = o }) (HoldsAt r)) (sym f)
    (subst (λ m. IsCap (record { end = m; is_open = r.strict }) (HoldsAt r)) (sym e) (row_cap r h))

-- ---- the cap of one row more

module _ (P : Row → Type 0) (r : Row) where
  all_push : (rows : List Row) → All P (rows ++ r ∷ []) → All P rows × P r
  all_push rows h = let k = go rows (recursion_from_All P (rows ++ r ∷ []) h) in (All-from_recursion P rows k.0, k.1)
    where
      go : (rows : List Row) → AllByRecursion P (rows ++ r ∷ []) → AllByRecursion P rows × P r
      go [] h = (tt, h.0)
      go (s ∷ rows) h = let k = go rows h.1 in ((h.0, k.0), k.1)

-- the cap is that of any set with the same numbers
cap_same : (cap : Cap) (S T : Fraction → Type 0) → ((v : Fraction) → IsFraction v → S v ↔ T v) → IsCap cap S → IsCap cap T
cap_same cap S T e c = record {
  fraction = c.fraction;
  same = λ v hv. (λ h. (e v hv).0 ((c.same v hv).0 h), λ h. (c.same v hv).1 ((e v hv).1 h));
}

abbrev AllWithin : List Row → Fraction → Type 0
AllWithin rows v = All (λ r. IsWithin r v) rows

module _ (rows : List Row) (r : Row) where
  pub no_cap_more : (least : Option Cap) → coef_at 0 r ≤ℤ pos 0 → IsLeastCap rows least → IsLeastCap (rows ++ r ∷ []) least
  no_cap_more None le h = All-push (λ s. coef_at 0 s ≤ℤ pos 0) rows r h le
  no_cap_more (Some cap) le h = cap_same cap (AllWithin rows) (AllWithin (rows ++ r ∷ [])) (λ v hv. (
    λ all. All-push (λ s. IsWithin s v) rows r all (λ lt. absurd (omega (arith, ints, le, lt))),
    λ all. (all_push (λ s. IsWithin s v) r rows all).0,
  )) h

  pub first_cap : (cap : Cap) → pos 0 <ℤ coef_at 0 r → IsCap cap (HoldsAt r) → All (λ s. coef_at 0 s ≤ℤ pos 0) rows → IsLeastCap (rows ++ r ∷ []) (Some cap)
  first_cap cap lt c none = cap_same cap (HoldsAt r) (AllWithin (rows ++ r ∷ [])) (λ v hv. (
    λ h. All-push (λ s. IsWithin s v) rows r (λ k d g up. (let le = none k d g in absurd (omega (arith, ints, le, up)))) (λ up. h),
    λ all. (all_push (λ s. IsWithin s v) r rows all).1 lt,
  )) c

  pub lesser_cap : (other cap new : Cap) → pos 0 <ℤ coef_at 0 r → IsCap cap (HoldsAt r) → IsCap other (AllWithin rows) → IsCap new (Both other cap) →
      IsLeastCap (rows ++ r ∷ []) (Some new)
  lesser_cap other cap new lt c o b = cap_same new (Both other cap) (AllWithin (rows ++ r ∷ [])) (λ v hv. (
    λ h. All-push (λ s. IsWithin s v) rows r ((o.same v hv).0 h.0) (λ up. (c.same v hv).0 h.1),
    λ all. (let k = all_push (λ s. IsWithin s v) r rows all in ((o.same v hv).1 k.0, (c.same v hv).1 (k.1 lt))),
  )) b
