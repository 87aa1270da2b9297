-- What holds of the stages of a gap: their numbers, the points that they leave, and the rows of a sample.
use Rattle.std.proofs.Common.{◌≡◌, inl, inr, ℕ, zero, suc, ◌+◌, ◌<◌, take_all, List, [], ◌∷◌, ◌++◌, length, length-append, map, take, Option, Some, None, refl, sym, ◌∙◌, ap₂, subst, arith, ℤ, pos, ◌-ℤ◌}
use Rattle.std.specs.Prelude.{slice_index_or}
use Rattle.std.proofs.lemmas.List.{length-set, get_or-set_other}
use Rattle.std.proofs.lemmas.List.Elements.{All-head, All-tail}
use Rattle.poly_specs.proofs.InclusionLemmas.{among_append, among_formed_each}
use Rattle.poly_specs.proofs.EliminationLemmas.{divided_without, length-divided}
use Rattle.run_specs.proofs.PassesLemmas.{same_in, after_more}
use Rattle.run_specs.proofs.EndLemmas.{leg_ends, jump_ends}
use Rattle.run_specs.proofs.StageWidths.{location_is, transition_is}
use Rattle.run_specs.proofs.StageLemmas.{length-zeros}
use Rattle.run_specs.proofs.GapPasses.{IsWithin}
use Rattle.poly_specs.specs.Lists.{In, IsAmong, number_at}
use Rattle.poly_specs.specs.Bits.{SomePasses}
use Rattle.poly_specs.specs.Columns.{cut}
use Rattle.poly_specs.specs.Fractions.{Fraction}
use Rattle.poly_specs.specs.Rows.{Row, over, coef_at, AllWide}
use Rattle.poly_specs.specs.Elimination.{divided, columns_down}
use Rattle.run_specs.specs.Automaton.{Automaton, width, location_at, transition_at}
use Rattle.run_specs.specs.WellFormed.{IsWellFormed}
use Rattle.run_specs.specs.Ends.{SomeLegEnds, SomeJumpEnds}
use Rattle.run_specs.specs.Stages.{zeros, row_of, near_rows, rows_after, stage_numbers, opening_stage, leg_stage, jump_stage}

-- ---- numbers

number_in : (ns : List ℤ) (k : ℕ) (n : ℤ) → k < length ns → slice_index_or ns k n ≡ n → In n ns
number_in [] k n h e = absurd (omega arith)
number_in (m ∷ ns) zero n h e = inl (sym e)
number_in (m ∷ ns) (suc k) n h e = inr (number_in ns k n (omega arith) e)

place_of_number : (ns : List ℤ) (n : ℤ) → In n ns → (k : ℕ) × (k < length ns) × (slice_index_or ns k n ≡ n)
place_of_number [] n h = absurd h
place_of_number (m ∷ ns) n (inl e) = (0, omega arith, sym e)
place_of_number (m ∷ ns) n (inr i) = let (k, h, e) = place_of_number ns n i in (suc k, omega arith, e)

pub passes_more : (ns ms : List ℤ) → IsAmong ns ms → SomePasses ns → SomePasses ms
passes_more ns ms among (k, n, h, e, p) = let (j, g, f) = place_of_number ms n (among n (number_in ns k n h e)) in (j, n, g, f, p)

pub numbers_more : (columns : List ℕ) (again : List Row) (left : ℕ) (sums : List ℤ) (rows more : List Row) → IsAmong rows more →
    IsAmong (stage_numbers (record { rows = rows; columns = columns; again = again; left = left; sums = sums }))
    (stage_numbers (record { rows = more; columns = columns; again = again; left = left; sums = sums }))
unfolding stage_numbers
numbers_more columns again left sums rows more h =
    among_append _ _ _ _ (among_append _ _ _ _ (same_in sums) (among_formed_each columns rows more h))
    (among_formed_each (columns_down 0 left) _ _ (after_more columns again left sums rows more h))

-- ---- points

module _ (a : Automaton) (wf : IsWellFormed a) where
  pub leg_within : (l : ℕ) (rows more : List Row) → l < length a.locations → AllWide (width a + 1) rows → AllWide (width a + 1) more → IsWithin (width a + 1) rows more →
      IsWithin (width a + 1) (rows_after (leg_stage a l rows)) (rows_after (leg_stage a l more))
  leg_within l rows more hl wr wm within p hp lp h =
      let is = location_is a wf l hl in
      (leg_ends a l more p.den p.num is wm hp lp).1 (from_more ((leg_ends a l rows p.den p.num is wr hp lp).0 h))
    where
      from_more : SomeLegEnds a l rows (over p.den p.num) → SomeLegEnds a l more (over p.den p.num)
      from_more (d, q, elapsed, t, b, s) =
          let lb : length b ≡ width a = sym s.leg.same_size ∙ s.sized in
          let starts = within (over d (b ++ (elapsed -ℤ t) ∷ [])) s.positive (omega (arith, length-append b ((elapsed -ℤ t) ∷ []), lb)) s.starts in
          (d, q, elapsed, t, b, record { positive = s.positive; sized = s.sized; starts = starts; leg = s.leg; ends = s.ends })

  pub jump_within : (e : ℕ) (rows more : List Row) → e < length a.transitions → AllWide (width a + 1) rows → AllWide (width a + 1) more → IsWithin (width a + 1) rows more →
      IsWithin (width a + 1) (rows_after (jump_stage a e rows)) (rows_after (jump_stage a e more))
  jump_within e rows more he wr wm within p hp lp h =
      let t = transition_is a wf e he in
      let inside = (location_is a wf (transition_at a e).target t.target).invariant in
      (jump_ends a e more p.den p.num t.relation inside wm hp lp).1 (from_more ((jump_ends a e rows p.den p.num t.relation inside wr hp lp).0 h))
    where
      from_more : SomeJumpEnds a e rows (over p.den p.num) → SomeJumpEnds a e more (over p.den p.num)
      from_more (d, q, elapsed, b, s) =
          let lb : length b ≡ width a = sym s.jump.same_size ∙ s.sized in
          let starts = within (over d (b ++ elapsed ∷ [])) s.positive (omega (arith, length-append b (elapsed ∷ []), lb)) s.starts in
          (d, q, elapsed, b, record { positive = s.positive; sized = s.sized; starts = starts; jump = s.jump; ends = s.ends })

-- ---- the rows of observed values

pub record IsNearRow (m : ℕ) (r : Row) : Type 0 where
  pub wide : length r.coef ≡ m + 1
  pub free : coef_at m r ≡ pos 0

zero_at : (n j : ℕ) → number_at j (zeros n) ≡ pos 0
zero_at zero j = refl
zero_at (suc n) zero = refl
zero_at (suc n) (suc j) = zero_at n j

column_row : (m j : ℕ) (c b : ℤ) → j < m → IsNearRow m (divided (row_of (m + 1) j c b))
column_row m j c b h =
    let l : length (row_of (m + 1) j c b).coef ≡ m + 1 = length-set (zeros (m + 1)) j c ∙ length-zeros (m + 1) in
    let z : coef_at m (row_of (m + 1) j c b) ≡ pos 0 = get_or-set_other (zeros (m + 1)) j m c (pos 0) (λ e. absurd (omega (arith, e))) ∙ zero_at (m + 1) m in
    record {
      wide = length-divided (row_of (m + 1) j c b) ∙ l;
      free = divided_without m (row_of (m + 1) j c b) (omega (arith, l)) z;
    }

pub near_row : (m j : ℕ) (w : Fraction) (cell : Option Fraction) (r : Row) → j < m → In r (near_rows (m + 1) j w cell) → IsNearRow m r
near_row m j w None r h i = absurd i
near_row m j w (Some v) r h (inl e) = subst (IsNearRow m) (sym e) (column_row m j _ _ h)
near_row m j w (Some v) r h (inr (inl e)) = subst (IsNearRow m) (sym e) (column_row m j _ _ h)
near_row m j w (Some v) r h (inr (inr i)) = absurd i

-- ---- the opening

cut_same : (n : ℕ) (rows : List Row) → AllWide n rows → map (cut n) (rows ++ []) ≡ rows
cut_same n [] wide = refl
cut_same n (r ∷ rows) wide =
    let same : take n r.coef ≡ r.coef = take_all n r.coef (omega (arith, All-head (λ (s : Row). length s.coef ≡ n) r rows wide)) in
    ap₂ (λ (cs : List ℤ) (ss : List Row). record r { coef = cs } ∷ ss) same (cut_same n rows (All-tail (λ (s : Row). length s.coef ≡ n) r rows wide))

pub opening_rows_are : (a : Automaton) (l : ℕ) (init : List Row) → AllWide (width a) (init ++ (location_at a l).invariant) →
    rows_after (opening_stage a l init) ≡ init ++ (location_at a l).invariant
unfolding rows_after
opening_rows_are a l init wide = cut_same (width a) (init ++ (location_at a l).invariant) wide
