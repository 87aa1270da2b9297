-- What is left without a column is the projection of the rows.
use Rattle.std.proofs.Common.{◌≡◌, ◌⊎◌, inl, inr, ℕ, zero, suc, ◌<◌, Bool, true, false, cond, List, ◌++◌, length, refl, sym, ◌∙◌, ap, subst, arith, ℤ, pos, negsuc, ◌<ℤ◌, unsigned_abs}
use Rattle.std.specs.Prelude.{int_lt, ◌==◌}
use Rattle.std.specs.List.{flat_map}
use Rattle.std.proofs.lemmas.Int.{ints}
use Rattle.std.proofs.lemmas.Bool.{eq-eqb}
use Rattle.poly_specs.proofs.ColumnLemmas.{eliminated_wide}
use Rattle.poly_specs.proofs.DownLemmas.{column_projected}
use Rattle.poly_specs.proofs.EliminationLemmas.{AllHold-from_in, AllHold-at_in, width_in, test_lower, test_upper, test_free, out_flat_map, out_map}
use Rattle.poly_specs.proofs.InclusionLemmas.{in_either, out_filter}
use Rattle.poly_specs.proofs.RowLemmas.{combination-free}
use Rattle.poly_specs.specs.Elimination.{combination, lowers, uppers, free_of, eliminated}
use Rattle.poly_specs.specs.Lists.{In, IsAmong}
use Rattle.poly_specs.specs.Rows.{Point, Row, coef_at, AllHold, AllWide, SomeValueHolds}
use Rattle.poly_specs.specs.Systems.{IsProjection}
use Rattle.fm_eliminate.specs.Leaving.{IsLeft, is_zero, combinations, replaced}
use Rattle.fm_eliminate.proofs.LeavingLemmas.{all_from_in, left_more}

-- ---- plain elimination

plain_free : (x w : ℕ) (rows : List Row) → AllWide w rows → (r : Row) → In r (eliminated x rows) → coef_at x r ≡ pos 0
unfolding eliminated
plain_free x w rows wide r i = elim (in_either r (free_of x rows) _ i) [
  | inl j ↦ (let f = out_filter (λ s. unsigned_abs (coef_at x s) == 0) r rows j in test_free x r f.1)
  | inr j ↦ (
      let y = out_flat_map _ r (lowers x rows) j in
      let z = out_map (combination x y.0) r (uppers x rows) y.2 in
      let l = out_filter (λ s. int_lt (coef_at x s) (pos 0)) y.0 rows y.1 in
      let u = out_filter (λ s. int_lt (pos 0) (coef_at x s)) z.0 rows z.1 in
      let e = width_in w rows wide y.0 l.0 ∙ sym (width_in w rows wide z.0 u.0) in
      subst (λ s. coef_at x s ≡ pos 0) (sym z.2) (combination-free x y.0 z.0 e (test_lower x y.0 l.1) (test_upper x z.0 u.1)))
]

-- plain rows that have some value of the column wherever they hold
pub projection_by : (w x : ℕ) (rows left : List Row) → x < w → AllWide w rows → IsAmong left (eliminated x rows) →
    ((p : Point) → pos 0 <ℤ p.den → length p.num ≡ w → AllHold left p → SomeValueHolds x rows p) → IsProjection w x rows left
projection_by w x rows left h wide among complete = record {
  wide = all_from_in (λ r. length r.coef ≡ w) left (λ r i. width_in w (eliminated x rows) (eliminated_wide w x rows wide) r (among r i));
  free = all_from_in (λ r. coef_at x r ≡ pos 0) left (λ r i. plain_free x w rows wide r (among r i));
  plain = among;
  same = λ p d l. (
    complete p d l,
    λ s. let plain = (column_projected x w rows p h wide l d).1 s in
        AllHold-from_in left p (λ r i. AllHold-at_in (eliminated x rows) p plain r (among r i)),
  );
}

pub pairs_projection : (w x : ℕ) (rows left : List Row) → x < w → AllWide w rows → IsLeft (eliminated x rows) left → IsProjection w x rows left
pairs_projection w x rows left h wide l =
    projection_by w x rows left h wide l.among (λ p d s all. (column_projected x w rows p h wide s d).0 (l.enough p d all))

-- ---- the row in whose place another stands

pub kinds : (z : ℤ) → (z ≡ pos 0) ⊎ ((z <ℤ pos 0) ⊎ (pos 0 <ℤ z))
kinds (pos zero) = inl refl
kinds (pos (suc n)) = inr (inr (omega (arith, ints)))
kinds (negsuc n) = inr (inl (omega (arith, ints)))

chosen : {A : Type 0} (b : Bool) (x y : A) (c : Bool) → b ≡ c → cond b x y ≡ cond c x y
chosen b x y c e = ap (λ d. cond d x y) e

pub free-is_zero : (z : ℤ) → z ≡ pos 0 → is_zero z ≡ true
free-is_zero z e = eq-eqb _ _ (ap unsigned_abs e)

pub replaced_free : (x : ℕ) (lower upper r : Row) → coef_at x r ≡ pos 0 → replaced x lower upper r ≡ r
replaced_free x lower upper r z = chosen (is_zero (coef_at x r)) r _ true (free-is_zero (coef_at x r) z)

lower-not_zero : (z : ℤ) → z <ℤ pos 0 → is_zero z ≡ false
lower-not_zero z h = grind (arith, ints)

upper-not_zero : (z : ℤ) → pos 0 <ℤ z → is_zero z ≡ false
upper-not_zero z h = grind (arith, ints)

lower-tests : (z : ℤ) → z <ℤ pos 0 → int_lt z (pos 0) ≡ true
lower-tests z h = grind (arith, ints)

upper-tests : (z : ℤ) → pos 0 <ℤ z → int_lt z (pos 0) ≡ false
upper-tests z h = grind (arith, ints)

pub replaced_lower : (x : ℕ) (lower upper r : Row) → coef_at x r <ℤ pos 0 → replaced x lower upper r ≡ combination x r upper
replaced_lower x lower upper r h =
    chosen (is_zero (coef_at x r)) r _ false (lower-not_zero (coef_at x r) h)
    ∙ chosen (int_lt (coef_at x r) (pos 0)) (combination x r upper) (combination x lower r) true (lower-tests (coef_at x r) h)

pub replaced_upper : (x : ℕ) (lower upper r : Row) → pos 0 <ℤ coef_at x r → replaced x lower upper r ≡ combination x lower r
replaced_upper x lower upper r h =
    chosen (is_zero (coef_at x r)) r _ false (upper-not_zero (coef_at x r) h)
    ∙ chosen (int_lt (coef_at x r) (pos 0)) (combination x r upper) (combination x lower r) false (upper-tests (coef_at x r) h)

-- the rows without the column, then the combinations of the pairs
pub left_plain : (x : ℕ) (rows free left : List Row) → IsLeft (free_of x rows) free → IsLeft (free ++ flat_map (combinations x rows) (lowers x rows)) left →
    IsLeft (eliminated x rows) left
unfolding eliminated
left_plain x rows free left f g = left_more (free_of x rows) free (flat_map (combinations x rows) (lowers x rows)) left f g
