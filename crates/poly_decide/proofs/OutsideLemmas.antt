-- A row leaves out exactly the points at which its opposite holds.
use Rattle.std.proofs.Common.{◌≡◌, inl, inr, ℕ, Bool, true, false, not, List, [], ◌∷◌, ◌++◌, length, refl, sym, ◌∙◌, subst, arith, ℤ, pos, neg_ℤ}
use Rattle.std.specs.Prelude.{Any}
use Rattle.std.proofs.lemmas.Int.{ints, by_lt_z}
use Rattle.std.proofs.lemmas.List.{length-map}
use Rattle.std.proofs.lemmas.List.Elements.{All-nil, All-cons, All-append}
use Rattle.poly_specs.proofs.CombinationLemmas.{Holds-divided}
use Rattle.poly_specs.proofs.EliminationLemmas.{AllHold-from_in, AllHold-at_in, length-divided}
use Rattle.poly_specs.proofs.InclusionLemmas.{in_left, in_right, in_either}
use Rattle.poly_specs.proofs.IntLemmas.{neg_mul}
use Rattle.poly_specs.proofs.LineLemmas.{Allows-or_not}
use Rattle.poly_specs.proofs.RowLemmas.{Holds-dominated}
use Rattle.poly_specs.specs.Bounds.{Entails}
use Rattle.poly_specs.specs.Columns.{IsDominated}
use Rattle.poly_specs.specs.Elimination.{divided}
use Rattle.poly_specs.specs.Rows.{Point, Row, row_value, Allows, Holds, AllWide}
use Rattle.point_hints.specs.Showing.{IsShown}
use Rattle.point_hints.specs.declared.Shown.{Shown}
use Rattle.point_hints.specs.declared.Shown.TheVariants.{Empty, Inhabited, Nothing}
use Rattle.poly_decide.proofs.SumLemmas.{dot-opposite}
use Rattle.poly_decide.specs.Outside.{opposite_row, IsLeftOut, IsShownOutside}

-- ---- the opposite row

value-opposite : (r : Row) (p : Point) → row_value (opposite_row r) p ≡ neg_ℤ (row_value r p)
value-opposite r p = omega (arith, ints, neg_mul r.cst p.den, dot-opposite r.coef p.num)

-- one of a sum and its opposite is allowed
allows_one : (s : Bool) (z : ℤ) → (Allows s z → ⊥) → Allows (not s) (neg_ℤ z)
allows_one true z none = by_lt_z z (pos 0) (λ lt. absurd (none lt)) (λ le. omega (arith, ints, le))
allows_one false z none = by_lt_z (pos 0) z (λ lt. omega (arith, ints, lt)) (λ le. absurd (none le))

allows_no_other : (s : Bool) (z : ℤ) → Allows (not s) (neg_ℤ z) → Allows s z → ⊥
allows_no_other true z h g = omega (arith, ints, h, g)
allows_no_other false z h g = omega (arith, ints, h, g)

opposite_holds : (r : Row) (p : Point) → (Holds r p → ⊥) → Holds (divided (opposite_row r)) p
opposite_holds r p none =
    (Holds-divided (opposite_row r) p).0 (subst (Allows (not r.strict)) (sym (value-opposite r p)) (allows_one r.strict (row_value r p) none))

opposite_leaves_out : (r : Row) (p : Point) → Holds (divided (opposite_row r)) p → Holds r p → ⊥
opposite_leaves_out r p h =
    allows_no_other r.strict (row_value r p) (subst (Allows (not r.strict)) (value-opposite r p) ((Holds-divided (opposite_row r) p).1 h))

-- ---- what is shown of the system with it

module _ (n : ℕ) (rows : List Row) (r : Row) where
  abbrev with_opposite : List Row
  with_opposite = rows ++ divided (opposite_row r) ∷ []

  none_left_out : IsShown (record { width = n; rows = with_opposite }) Empty → Entails n rows r
  none_left_out none p point = elim (Allows-or_not r.strict (row_value r p)) [
    | inl h ↦ h
    | inr fails ↦ absurd (none (
      p,
      point.positive,
      point.sized,
      AllHold-from_in with_opposite p (λ s i. elim (in_either s rows _ i) [
        | inl j ↦ AllHold-at_in rows p point.holds s j
        | inr j ↦ elim j [ inl e ↦ subst (λ t. Holds t p) (sym e) (opposite_holds r p fails) | inr k ↦ absurd k ]
      ]),
    ))
  ]

  some_left_out : IsShown (record { width = n; rows = with_opposite }) Inhabited → IsLeftOut n rows r
  some_left_out (p, positive, sized, all) = (
    p,
    record {
      positive = positive;
      sized = sized;
      holds = AllHold-from_in rows p (λ s i. AllHold-at_in with_opposite p all s (in_left s rows _ i));
    },
    opposite_leaves_out r p (AllHold-at_in with_opposite p all (divided (opposite_row r)) (in_right (divided (opposite_row r)) rows _ (inl refl))),
  )

  pub shown_outside : (shown : Shown) → IsShown (record { width = n; rows = with_opposite }) shown → IsShownOutside n rows r shown
  shown_outside Empty h = none_left_out h
  shown_outside Inhabited h = some_left_out h
  shown_outside Nothing h = tt

  pub wide_with_opposite : AllWide n rows → length r.coef ≡ n → AllWide n with_opposite
  wide_with_opposite wide sized =
      let P : Row → Type 0 = λ s. length s.coef ≡ n in
      All-append P rows (divided (opposite_row r) ∷ []) wide
      (All-cons P (divided (opposite_row r)) [] (length-divided (opposite_row r) ∙ length-map r.coef neg_ℤ ∙ sized) (All-nil P))

-- a row is entailed by one that dominates it
pub dominated_entailed : (n : ℕ) (rows : List Row) (r : Row) → Any (λ other. IsDominated r other) rows → Entails n rows r
dominated_entailed n rows r (k, other, lt, at, dominates) p point =
    Holds-dominated r other p dominates point.positive (subst (λ (s : Row). Holds s p) at (point.holds k other lt))
