-- What is left of a system in its first columns says the same as plain elimination.
use Rattle.std.proofs.Common.{◌≡◌, ◌↔◌, ℕ, zero, suc, ◌+◌, ◌-◌, ◌<◌, ◌≤◌, List, [], ◌∷◌, ◌++◌, length, drop, map, get_or, refl, sym, ◌∙◌, ap, subst, arith, ℤ, pos, ◌<ℤ◌}
use Rattle.std.specs.List.{All, AllByRecursion}
use Rattle.std.specs.Prelude.{slice_index_or}
use Rattle.std.proofs.lemmas.List.{append-nil, length-append}
use Rattle.std.proofs.lemmas.List.Elements.{All-from_recursion}
use Rattle.poly_specs.proofs.DownLemmas.{columns_projected}
use Rattle.poly_specs.proofs.InclusionLemmas.{in_left}
use Rattle.poly_specs.proofs.EliminationLemmas.{out_map, in_map, width_in}
use Rattle.fm_eliminate.proofs.LeavingLemmas.{all_from_in}
use Rattle.fm_eliminate.proofs.PivotLemmas.{each_in}
use Rattle.run_specs.proofs.EndLemmas.{all_cut}
use Rattle.run_specs.proofs.StageLemmas.{length-zeros}
use Rattle.poly_specs.specs.Columns.{cut}
use Rattle.poly_specs.specs.Elimination.{eliminated_each, columns_down}
use Rattle.poly_specs.specs.Lists.{In, IsAmong}
use Rattle.poly_specs.specs.Rows.{Point, Row, over, coef_at, AllHold, AllWide, SomeValuesHold}
use Rattle.poly_specs.specs.Systems.{System, IsLevel}
use Rattle.run_specs.specs.Stages.{zeros, rows_after}
use Rattle.stage_rows.specs.Projecting.{projecting}

-- ---- the columns that are cut off hold zeros

zeros_from : (c w : ℕ) (cs : List ℤ) → length cs ≡ w → ((x : ℕ) → c ≤ x → x < w → get_or cs x (pos 0) ≡ pos 0) → AllByRecursion (λ z. z ≡ pos 0) (drop c cs)
zeros_from zero w [] l f = tt
zeros_from (suc c) w [] l f = tt
zeros_from zero w (z ∷ cs) l f = (f 0 (omega arith) (omega arith), zeros_from zero (length cs) cs refl (λ x h g. f (suc x) (omega arith) (omega arith)))
zeros_from (suc c) w (z ∷ cs) l f = zeros_from c (length cs) cs refl (λ x h g. f (suc x) (omega arith) (omega arith))

pub free_zeros : (w c : ℕ) (rows left : List Row) → IsLevel w c rows left → All (λ r. All (λ z. z ≡ pos 0) (drop c r.coef)) left
free_zeros w c rows left level = all_from_in (λ r. All (λ z. z ≡ pos 0) (drop c r.coef)) left (λ r i.
    All-from_recursion (λ z. z ≡ pos 0) (drop c r.coef) (zeros_from c w r.coef (width_in w left level.wide r i)
    (λ x h g. each_in (λ s. coef_at x s ≡ pos 0) left (level.free x h g) r i)))

-- ---- the rows that are left

module _ (s : System) (c : ℕ) (left : List Row) (within : c ≤ s.width) (wide : AllWide s.width s.rows) (level : IsLevel s.width c s.rows left) where
  abbrev gone : List Row
  gone = eliminated_each (columns_down c (s.width - c)) s.rows

  pub left_plain : IsAmong (map (cut c) left) (rows_after (projecting c s))
  unfolding rows_after
  left_plain r i =
      let y = out_map (cut c) r left i in
      subst (λ z. In z (map (cut c) (gone ++ []))) (sym y.2) (in_map (cut c) y.0 (gone ++ []) (in_left y.0 gone [] (level.plain y.0 y.1)))

  -- at a point with zeros in the columns that are cut off
  plain_law : (p : Point) → length p.num ≡ s.width → pos 0 <ℤ p.den → AllHold gone p ↔ SomeValuesHold s.width c s.rows p
  plain_law p l d =
      let e : c + (s.width - c) ≡ s.width = omega arith in
      subst (λ n. AllHold gone p ↔ SomeValuesHold n c s.rows p) e
      (columns_projected c (s.width - c) s.rows p (subst (λ n. AllWide n s.rows) (sym e) wide) (l ∙ sym e) d)

  pub left_same : (d : ℤ) (ns : List ℤ) → pos 0 <ℤ d → length ns ≡ c → AllHold (map (cut c) left) (over d ns) ↔ AllHold (rows_after (projecting c s)) (over d ns)
  unfolding rows_after
  left_same d ns hd l =
      let k : ℕ = s.width - c in
      let at : Point = over d (ns ++ zeros k) in
      let sized : length at.num ≡ s.width = omega (arith, length-append ns (zeros k), length-zeros k) in
      let here = all_cut c k d ns left l in
      let there = all_cut c k d ns gone l in
      let law = plain_law at sized hd in
      let same = level.same at hd sized in
      subst (λ rows. AllHold (map (cut c) left) (over d ns) ↔ AllHold (map (cut c) rows) (over d ns)) (sym (append-nil gone)) (
        λ h. there.1 (law.1 (same.0 (here.0 h))),
        λ h. here.1 (same.1 (law.0 (there.0 h))),
      )
