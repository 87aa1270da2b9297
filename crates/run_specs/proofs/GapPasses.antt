-- What passes in a gap from some of a state's rows, which hold no further than it does, passes from the state.
use Rattle.std.proofs.Common.{◌≡◌, inl, inr, ℕ, zero, suc, subst, ◌+◌, ◌<◌, List, [], ◌∷◌, ◌++◌, length, length-append, Option, sym, ◌∙◌, arith, ℤ, pos, ◌-ℤ◌, ◌<ℤ◌}
use Rattle.std.specs.Prelude.{slice_index_or}
use Rattle.poly_specs.proofs.InclusionLemmas.{among_append, among_formed_each}
use Rattle.run_specs.proofs.PassesLemmas.{same_in, after_more, leg_rows_more, leg_more, jump_rows_more, jump_more, start_more, sample_rows_more}
use Rattle.run_specs.proofs.EndLemmas.{leg_ends, jump_ends}
use Rattle.run_specs.proofs.StageWidths.{location_is, transition_is, leg_after_wide, jump_wide_of, start_wide}
use Rattle.run_specs.proofs.SampleEnds.{split_last}
use Rattle.run_specs.proofs.GapEnds.{start_holds}
use Rattle.poly_specs.specs.Lists.{In, IsAmong}
use Rattle.poly_specs.specs.Bits.{SomePasses}
use Rattle.poly_specs.specs.Fractions.{Fraction}
use Rattle.poly_specs.specs.Rows.{Point, Row, over, AllHold, AllWide, HasPoint}
use Rattle.poly_specs.specs.Elimination.{columns_down}
use Rattle.run_specs.specs.Automaton.{Automaton, width, transition_at}
use Rattle.run_specs.specs.WellFormed.{IsWellFormed}
use Rattle.run_specs.specs.Passes.{Fits}
use Rattle.run_specs.specs.Ends.{SomeLegEnds, SomeJumpEnds}
use Rattle.run_specs.specs.Stages.{SomeReachedPasses, rows_after, stage_numbers, gap_start, leg_rows, leg_stage, jump_rows, jump_stage, sample_rows, sample_stage, path_rows, path_stages, gap_stages}

-- ---- numbers

number_in : (ns : List ℤ) (k : ℕ) (n : ℤ) → k < length ns → slice_index_or ns k n ≡ n → In n ns
number_in [] k n h e = absurd (omega arith)
number_in (m ∷ ns) zero n h e = inl (sym e)
number_in (m ∷ ns) (suc k) n h e = inr (number_in ns k n (omega arith) e)

place_of_number : (ns : List ℤ) (n : ℤ) → In n ns → (k : ℕ) × (k < length ns) × (slice_index_or ns k n ≡ n)
place_of_number [] n h = absurd h
place_of_number (m ∷ ns) n (inl e) = (0, omega arith, sym e)
place_of_number (m ∷ ns) n (inr i) = let (k, h, e) = place_of_number ns n i in (suc k, omega arith, e)

passes_more : (ns ms : List ℤ) → IsAmong ns ms → SomePasses ns → SomePasses ms
passes_more ns ms among (k, n, h, e, p) = let (j, g, f) = place_of_number ms n (among n (number_in ns k n h e)) in (j, n, g, f, p)

numbers_more : (columns : List ℕ) (again : List Row) (left : ℕ) (sums : List ℤ) (rows more : List Row) → IsAmong rows more →
    IsAmong (stage_numbers (record { rows = rows; columns = columns; again = again; left = left; sums = sums }))
    (stage_numbers (record { rows = more; columns = columns; again = again; left = left; sums = sums }))
unfolding stage_numbers
numbers_more columns again left sums rows more h =
    among_append _ _ _ _ (among_append _ _ _ _ (same_in sums) (among_formed_each columns rows more h))
    (among_formed_each (columns_down 0 left) _ _ (after_more columns again left sums rows more h))

-- ---- points

-- where these rows hold, so do those
abbrev pub IsWithin : ℕ → List Row → List Row → Type 0
IsWithin n rows more = (p : Point) → pos 0 <ℤ p.den → length p.num ≡ n → AllHold rows p → AllHold more p

point_more : (n : ℕ) (rows more : List Row) → IsWithin n rows more → HasPoint n rows → HasPoint n more
point_more n rows more within (p, hp, lp, h) = (p, hp, lp, within p hp lp h)

start_within : (m : ℕ) (rows more : List Row) → AllWide m rows → AllWide m more → IsWithin m rows more → IsWithin (m + 1) (gap_start m rows) (gap_start m more)
start_within m rows more wr wm within p hp lp h =
    let (v, e, s) = split_last m p.num lp in
    let there = (start_holds m p.den v e rows s.sized wr).0 (subst (λ z. AllHold (gap_start m rows) (over p.den z)) s.is h) in
    subst (λ z. AllHold (gap_start m more) (over p.den z)) (sym s.is)
    ((start_holds m p.den v e more s.sized wm).1 (within (over p.den v) hp s.sized there.0, there.1))

-- the first rows are some of the second and hold at the same points; both have n columns
pub record IsReduced (n : ℕ) (rows more : List Row) : Type 0 where
  pub among : IsAmong rows more
  pub within : IsWithin n rows more
  pub wide : AllWide n rows
  pub more_wide : AllWide n more

module _ (a : Automaton) (wf : IsWellFormed a) where
  leg_within : (l : ℕ) (rows more : List Row) → l < length a.locations → AllWide (width a + 1) rows → AllWide (width a + 1) more → IsWithin (width a + 1) rows more →
      IsWithin (width a + 1) (rows_after (leg_stage a l rows)) (rows_after (leg_stage a l more))
  leg_within l rows more hl wr wm within p hp lp h =
      let is = location_is a wf l hl in
      (leg_ends a l more p.den p.num is wm hp lp).1 (from_more ((leg_ends a l rows p.den p.num is wr hp lp).0 h))
    where
      from_more : SomeLegEnds a l rows (over p.den p.num) → SomeLegEnds a l more (over p.den p.num)
      from_more (d, q, elapsed, t, b, s) =
          let lb : length b ≡ width a = sym s.leg.same_size ∙ s.sized in
          let starts = within (over d (b ++ (elapsed -ℤ t) ∷ [])) s.positive (omega (arith, length-append b ((elapsed -ℤ t) ∷ []), lb)) s.starts in
          (d, q, elapsed, t, b, record { positive = s.positive; sized = s.sized; starts = starts; leg = s.leg; ends = s.ends })

  jump_within : (e : ℕ) (rows more : List Row) → e < length a.transitions → AllWide (width a + 1) rows → AllWide (width a + 1) more → IsWithin (width a + 1) rows more →
      IsWithin (width a + 1) (rows_after (jump_stage a e rows)) (rows_after (jump_stage a e more))
  jump_within e rows more he wr wm within p hp lp h =
      let t = transition_is a wf e he in
      let inside = (location_is a wf (transition_at a e).target t.target).invariant in
      (jump_ends a e more p.den p.num t.relation inside wm hp lp).1 (from_more ((jump_ends a e rows p.den p.num t.relation inside wr hp lp).0 h))
    where
      from_more : SomeJumpEnds a e rows (over p.den p.num) → SomeJumpEnds a e more (over p.den p.num)
      from_more (d, q, elapsed, b, s) =
          let lb : length b ≡ width a = sym s.jump.same_size ∙ s.sized in
          let starts = within (over d (b ++ elapsed ∷ [])) s.positive (omega (arith, length-append b (elapsed ∷ []), lb)) s.starts in
          (d, q, elapsed, b, record { positive = s.positive; sized = s.sized; starts = starts; jump = s.jump; ends = s.ends })

  -- ---- stages

  leg_reduced : (l : ℕ) (rows more : List Row) → l < length a.locations → IsReduced (width a + 1) rows more →
      IsReduced (width a + 1) (rows_after (leg_stage a l rows)) (rows_after (leg_stage a l more))
  leg_reduced l rows more hl reduced =
      let is = location_is a wf l hl in
      record {
        among = leg_more a l rows more reduced.among;
        within = leg_within l rows more hl reduced.wide reduced.more_wide reduced.within;
        wide = leg_after_wide a l rows is reduced.wide;
        more_wide = leg_after_wide a l more is reduced.more_wide;
      }

  jump_reduced : (e : ℕ) (rows more : List Row) → e < length a.transitions → IsReduced (width a + 1) rows more →
      IsReduced (width a + 1) (rows_after (jump_stage a e rows)) (rows_after (jump_stage a e more))
  jump_reduced e rows more he reduced = record {
    among = jump_more a e rows more reduced.among;
    within = jump_within e rows more he reduced.wide reduced.more_wide reduced.within;
    wide = jump_wide_of a wf e rows he reduced.wide;
    more_wide = jump_wide_of a wf e more he reduced.more_wide;
  }

  leg_passes : (l : ℕ) (rows more : List Row) → IsAmong rows more → SomePasses (stage_numbers (leg_stage a l rows)) → SomePasses (stage_numbers (leg_stage a l more))
  leg_passes l rows more h = passes_more _ _ (numbers_more _ _ _ _ (leg_rows a l rows) (leg_rows a l more) (leg_rows_more a l rows more h))

  jump_passes : (e : ℕ) (rows more : List Row) → IsAmong rows more → SomePasses (stage_numbers (jump_stage a e rows)) → SomePasses (stage_numbers (jump_stage a e more))
  jump_passes e rows more h = passes_more _ _ (numbers_more _ _ _ _ (jump_rows a e rows) (jump_rows a e more) (jump_rows_more a e rows more h))

  sample_passes : (duration : Fraction) (cells : List (Option Fraction)) (rows more : List Row) → IsAmong rows more →
      SomeReachedPasses (sample_stage a duration cells rows ∷ []) → SomeReachedPasses (sample_stage a duration cells more ∷ [])
  sample_passes duration cells rows more h (inl p) =
      inl (passes_more _ _ (numbers_more _ _ _ _ (sample_rows a duration cells rows) (sample_rows a duration cells more) (sample_rows_more a duration cells rows more h)) p)
  sample_passes duration cells rows more h (inr p) = absurd p.1

  path_passes : (l : ℕ) (path : List ℕ) (duration : Fraction) (cells : List (Option Fraction)) (rows more : List Row) → l < length a.locations → Fits a l path → IsReduced (width a + 1) rows more →
      SomeReachedPasses (path_stages a l path rows ++ sample_stage a duration cells (path_rows a l path rows) ∷ []) →
      SomeReachedPasses (path_stages a l path more ++ sample_stage a duration cells (path_rows a l path more) ∷ [])
  path_passes l [] duration cells rows more hl fits reduced (inl p) = inl (leg_passes l rows more reduced.among p)
  path_passes l [] duration cells rows more hl fits reduced (inr p) =
      let after = leg_reduced l rows more hl reduced in
      inr (point_more (width a + 1) _ _ after.within p.0, sample_passes duration cells (rows_after (leg_stage a l rows)) (rows_after (leg_stage a l more)) after.among p.1)
  path_passes l (e ∷ path) duration cells rows more hl fits reduced (inl p) = inl (leg_passes l rows more reduced.among p)
  path_passes l (e ∷ path) duration cells rows more hl fits reduced (inr (p, inl g)) =
      let after = leg_reduced l rows more hl reduced in
      inr (point_more (width a + 1) _ _ after.within p, inl (jump_passes e (rows_after (leg_stage a l rows)) (rows_after (leg_stage a l more)) after.among g))
  path_passes l (e ∷ path) duration cells rows more hl fits reduced (inr (p, inr g)) =
      let after = leg_reduced l rows more hl reduced in
      let jumped = jump_reduced e (rows_after (leg_stage a l rows)) (rows_after (leg_stage a l more)) fits.0 after in
      inr (
        point_more (width a + 1) _ _ after.within p,
        inr (
          point_more (width a + 1) _ _ jumped.within g.0,
          path_passes (transition_at a e).target path duration cells (rows_after (jump_stage a e (rows_after (leg_stage a l rows))))
              (rows_after (jump_stage a e (rows_after (leg_stage a l more)))) (transition_is a wf e fits.0).target fits.2 jumped g.1,
        ),
      )

  pub gap_passes : (l : ℕ) (path : List ℕ) (duration : Fraction) (cells : List (Option Fraction)) (rows more : List Row) → l < length a.locations → Fits a l path → IsReduced (width a) rows more →
      SomeReachedPasses (gap_stages a l path duration cells rows) → SomeReachedPasses (gap_stages a l path duration cells more)
  gap_passes l path duration cells rows more hl fits reduced = path_passes l path duration cells (gap_start (width a) rows) (gap_start (width a) more) hl fits (record {
    among = start_more (width a) rows more reduced.among;
    within = start_within (width a) rows more reduced.wide reduced.more_wide reduced.within;
    wide = start_wide (width a) rows reduced.wide;
    more_wide = start_wide (width a) more reduced.more_wide;
  })
