-- The rows after a stage have the columns that are left.
use Rattle.std.proofs.Common.{◌≡◌, inr, ℕ, ◌+◌, ◌<◌, ◌≤◌, List, [], ◌∷◌, ◌++◌, length, length-append, length-take, take, map, Option, arith, ℤ, pos, negsuc}
use Rattle.std.specs.List.{flat_map}
use Rattle.std.specs.Prelude.{filter}
use Rattle.std.proofs.lemmas.List.{length-set}
use Rattle.poly_specs.proofs.InclusionLemmas.{out_filter, in_flat_map}
use Rattle.poly_specs.proofs.EliminationLemmas.{width_in, out_flat_map}
use Rattle.poly_specs.proofs.ColumnLemmas.{eliminated_wide}
use Rattle.run_specs.proofs.StageLemmas.{length-zeros}
use Rattle.run_specs.proofs.EndLemmas.{wide_from, wide_both, wide_first, wide_moved, leg_wide, jump_wide}
use Rattle.run_specs.proofs.SampleEnds.{sample_wide}
use Rattle.poly_specs.specs.Fractions.{Fraction}
use Rattle.poly_specs.specs.Rows.{Row, AllWide, with_coef}
use Rattle.poly_specs.specs.Elimination.{eliminated, eliminated_each}
use Rattle.run_specs.specs.Automaton.{Automaton, nowhere, no_transition, width, location_at, transition_at}
use Rattle.run_specs.specs.WellFormed.{IsLocation, IsTransition, IsWellFormed}
use Rattle.run_specs.specs.Runs.{end_loc}
use Rattle.run_specs.specs.Passes.{Fits}
use Rattle.poly_specs.specs.Columns.{cut}
use Rattle.run_specs.specs.Stages.{zeros, rows_after, row_of, gap_start, leg_stage, leg_rows, jump_stage, jump_rows, sample_stage, sample_rows, seen_rows, seen_exactly, below, path_rows, gap_rows}

each_wide : (w : ℕ) (columns : List ℕ) (rows : List Row) → AllWide w rows → AllWide w (eliminated_each columns rows)
each_wide w [] rows wide = wide
each_wide w (x ∷ columns) rows wide = each_wide w columns (eliminated x rows) (eliminated_wide w x rows wide)

after_wide : (w : ℕ) (columns : List ℕ) (again : List Row) (left : ℕ) (sums : List ℤ) (rows : List Row) → left ≤ w → AllWide w rows → AllWide w again →
    AllWide left (rows_after (record { rows = rows; columns = columns; again = again; left = left; sums = sums }))
unfolding rows_after
after_wide w columns again left sums rows h wide more =
    wide_moved w left (cut left) (eliminated_each columns rows ++ again) (wide_both w (eliminated_each columns rows) again (each_wide w columns rows wide) more)
    (λ r e. omega (arith, length-take left r.coef, e))

none_wide : (w : ℕ) → AllWide w []
none_wide w = wide_from w [] (λ r i. absurd i)

pub leg_after_wide : (a : Automaton) (l : ℕ) (state : List Row) → IsLocation (width a) (location_at a l) → AllWide (width a + 1) state →
    AllWide (width a + 1) (rows_after (leg_stage a l state))
leg_after_wide a l state is wide =
    after_wide (width a + 1 + (width a + 1)) _ [] (width a + 1) [] (leg_rows a l state) (omega arith) (leg_wide a l state is wide) (none_wide _)

pub jump_after_wide : (a : Automaton) (e : ℕ) (state : List Row) → AllWide (width a + width a) (transition_at a e).relation →
    AllWide (width a) (location_at a (transition_at a e).target).invariant → AllWide (width a + 1) state → AllWide (width a + 1) (rows_after (jump_stage a e state))
jump_after_wide a e state wr wi wide =
    after_wide (width a + 1 + width a) _ [] (width a + 1) [] (jump_rows a e state) (omega arith) (jump_wide a e state wr wi wide) (none_wide _)

again_wide : (a : Automaton) (duration : Fraction) (cells : List (Option Fraction)) →
    AllWide (width a + 1) (flat_map (seen_rows a cells) (filter (seen_exactly a cells) (below (width a))))
again_wide a duration cells = wide_from (width a + 1) _ (λ r i.
    let y = out_flat_map (seen_rows a cells) r (filter (seen_exactly a cells) (below (width a))) i in
    let j = (out_filter (seen_exactly a cells) y.0 (below (width a)) y.1).0 in
    width_in (width a + 1) (sample_rows a duration cells []) (sample_wide a duration cells [] (none_wide (width a + 1))) r
    (inr (inr (in_flat_map (seen_rows a cells) y.0 r (below (width a)) j y.2))))

pub sample_after_wide : (a : Automaton) (duration : Fraction) (cells : List (Option Fraction)) (state : List Row) → AllWide (width a + 1) state →
    AllWide (width a) (rows_after (sample_stage a duration cells state))
sample_after_wide a duration cells state wide =
    after_wide (width a + 1) _ _ (width a) _ (sample_rows a duration cells state) (omega arith) (sample_wide a duration cells state wide) (again_wide a duration cells)

pub start_wide : (m : ℕ) (rows : List Row) → AllWide m rows → AllWide (m + 1) (gap_start m rows)
start_wide m rows wide =
    wide_both (m + 1) (map (λ r. with_coef (take m r.coef ++ pos 0 ∷ []) r) rows) (row_of (m + 1) m (pos 1) (pos 0) ∷ row_of (m + 1) m (negsuc 0) (pos 0) ∷ [])
    (wide_moved m (m + 1) (λ r. with_coef (take m r.coef ++ pos 0 ∷ []) r) rows wide (λ r e. omega (arith, length-append (take m r.coef) (pos 0 ∷ []), length-take m r.coef, e)))
    (wide_first (m + 1) (row_of (m + 1) m (pos 1) (pos 0)) (row_of (m + 1) m (negsuc 0) (pos 0) ∷ []) (last (pos 1))
    (wide_first (m + 1) (row_of (m + 1) m (negsuc 0) (pos 0)) [] (last (negsuc 0)) (none_wide (m + 1))))
  where
    last : (c : ℤ) → length (row_of (m + 1) m c (pos 0)).coef ≡ m + 1
    last c = omega (arith, length-set (zeros (m + 1)) m c, length-zeros (m + 1))

-- ---- the parts of a well-formed automaton

module _ (a : Automaton) (wf : IsWellFormed a) where
  pub location_is : (l : ℕ) → l < length a.locations → IsLocation (width a) (location_at a l)
  location_is l h = wf.each_location l nowhere h

  pub transition_is : (e : ℕ) → e < length a.transitions → IsTransition (width a) (length a.locations) (transition_at a e)
  transition_is e h = wf.each_transition e no_transition h

  -- what a jump's stage needs of its transition
  pub jump_wide_of : (e : ℕ) (state : List Row) → e < length a.transitions → AllWide (width a + 1) state → AllWide (width a + 1) (rows_after (jump_stage a e state))
  jump_wide_of e state h wide =
      let t = transition_is e h in jump_after_wide a e state t.relation (location_is (transition_at a e).target t.target).invariant wide

  -- a path ends in one of its locations
  pub end_within : (l : ℕ) (path : List ℕ) → l < length a.locations → Fits a l path → end_loc a l path < length a.locations
  end_within l [] h fits = h
  end_within l (e ∷ path) h fits = end_within (transition_at a e).target path (transition_is e fits.0).target fits.2

  pub path_wide : (l : ℕ) (path : List ℕ) (state : List Row) → l < length a.locations → Fits a l path → AllWide (width a + 1) state → AllWide (width a + 1) (path_rows a l path state)
  path_wide l [] state h fits wide = leg_after_wide a l state (location_is l h) wide
  path_wide l (e ∷ path) state h fits wide =
      path_wide (transition_at a e).target path (rows_after (jump_stage a e (rows_after (leg_stage a l state)))) (transition_is e fits.0).target fits.2
      (jump_wide_of e (rows_after (leg_stage a l state)) fits.0 (leg_after_wide a l state (location_is l h) wide))

  pub gap_wide : (l : ℕ) (path : List ℕ) (duration : Fraction) (cells : List (Option Fraction)) (rows : List Row) → l < length a.locations → Fits a l path →
      AllWide (width a) rows → AllWide (width a) (gap_rows a l path duration cells rows)
  gap_wide l path duration cells rows h fits wide =
      sample_after_wide a duration cells (path_rows a l path (gap_start (width a) rows)) (path_wide l path (gap_start (width a) rows) h fits (start_wide (width a) rows wide))
