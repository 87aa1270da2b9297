-- Whether the points of one system are all points of another can be told.
use Rattle.std.proofs.Common.{◌≡◌, ◌⊎◌, inl, inr, ℕ, Bool, true, false, List, [], ◌∷◌, length, map, refl, ◌∙◌, arith, ℤ, pos, ◌<ℤ◌, neg_ℤ}
use Rattle.std.specs.Prelude.{not}
use Rattle.std.proofs.lemmas.Int.{ints, by_lt_z}
use Rattle.std.proofs.lemmas.List.{length-map}
use Rattle.std.proofs.lemmas.List.Elements.{All-cons, All-head, All-tail}
use Rattle.poly_specs.proofs.IntLemmas.{neg_mul}
use Rattle.poly_specs.proofs.EliminationLemmas.{AllHold-from_in}
use Rattle.poly_specs.proofs.LineLemmas.{Allows-or_not}
use Rattle.poly_specs.proofs.PickingLemmas.{point_or_none}
use Rattle.run_specs.proofs.EndLemmas.{wide_first}
use Rattle.run_specs.proofs.GapPasses.{IsWithin}
use Rattle.poly_specs.specs.Lists.{dot}
use Rattle.poly_specs.specs.Rows.{Point, Row, row_value, Allows, Holds, AllHold, AllWide, HasPoint}

-- ---- the row that holds where another does not

abbrev denied : Row → Row
denied r = record { coef = map neg_ℤ r.coef; cst = neg_ℤ r.cst; strict = not r.strict }

dot_negated : (cs ns : List ℤ) → dot (map neg_ℤ cs) ns ≡ neg_ℤ (dot cs ns)
dot_negated [] ns = refl
dot_negated (c ∷ cs) [] = refl
dot_negated (c ∷ cs) (n ∷ ns) = let r = dot_negated cs ns in let m = neg_mul c n in omega (arith, ints, r, m)

denied_value : (r : Row) (p : Point) → row_value (denied r) p ≡ neg_ℤ (row_value r p)
denied_value r p = let d = dot_negated r.coef p.num in let m = neg_mul r.cst p.den in omega (arith, ints, d, m)

allows_denied : (s : Bool) (z w : ℤ) → w ≡ neg_ℤ z → (Allows s z → ⊥) → Allows (not s) w
allows_denied true z w e n = by_lt_z z (pos 0) (λ lt. absurd (n lt)) (λ le. omega (arith, ints, e, le))
allows_denied false z w e n = by_lt_z (pos 0) z (λ lt. omega (arith, ints, e, lt)) (λ le. absurd (n le))

denied_allows : (s : Bool) (z w : ℤ) → w ≡ neg_ℤ z → Allows (not s) w → Allows s z → ⊥
denied_allows true z w e h g = absurd (omega (arith, ints, e, h, g))
denied_allows false z w e h g = absurd (omega (arith, ints, e, h, g))

-- ---- inclusion

pub within_or_not : (n : ℕ) (rows more : List Row) → AllWide n rows → AllWide n more → IsWithin n rows more ⊎ (IsWithin n rows more → ⊥)
within_or_not n rows [] wide wide_more = inl (λ p hp lp h. AllHold-from_in [] p (λ r i. absurd i))
within_or_not n rows (r ∷ more) wide wide_more =
    both (point_or_none n (denied r ∷ rows)
    (wide_first n (denied r) rows (length-map r.coef neg_ℤ ∙ All-head (λ (s : Row). length s.coef ≡ n) r more wide_more) wide))
    (within_or_not n rows more wide (All-tail (λ (s : Row). length s.coef ≡ n) r more wide_more))
  where
    -- where no point of the rows denies r, it holds at each
    holds : (p : Point) → pos 0 <ℤ p.den → length p.num ≡ n → AllHold rows p → (HasPoint n (denied r ∷ rows) → ⊥) → Holds r p
    holds p hp lp h none = elim (Allows-or_not r.strict (row_value r p)) [
      | inl y ↦ y
      | inr no_hold ↦ absurd (none (p, hp, lp, All-cons (λ s. Holds s p) (denied r) rows (allows_denied r.strict (row_value r p) (row_value (denied r) p) (denied_value r p) no_hold) h))
    ]

    both : HasPoint n (denied r ∷ rows) ⊎ (HasPoint n (denied r ∷ rows) → ⊥) → IsWithin n rows more ⊎ (IsWithin n rows more → ⊥) →
        IsWithin n rows (r ∷ more) ⊎ (IsWithin n rows (r ∷ more) → ⊥)
    both (inl (p, hp, lp, h)) later =
        inr (λ within. denied_allows r.strict (row_value r p) (row_value (denied r) p) (denied_value r p) (All-head (λ s. Holds s p) (denied r) rows h)
        (All-head (λ s. Holds s p) r more (within p hp lp (All-tail (λ s. Holds s p) (denied r) rows h))))
    both (inr none) (inl later) = inl (λ p hp lp h. All-cons (λ s. Holds s p) r more (holds p hp lp h none) (later p hp lp h))
    both (inr none) (inr others) = inr (λ within. others (λ p hp lp h. All-tail (λ s. Holds s p) r more (within p hp lp h)))
