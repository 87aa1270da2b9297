-- Rows that hold where plain ones do, and are some of them, stay so under elimination and cuts.
use Rattle.std.proofs.Common.{◌≡◌, inl, inr, ℕ, zero, suc, ◌+◌, ◌<◌, ◌≤◌, Bool, true, false, List, [], ◌∷◌, ◌++◌, length, length-append, drop, map, refl, sym, ◌∙◌, ap, subst, arith, ℤ, pos, ◌<ℤ◌}
use Rattle.std.specs.Prelude.{All, filter, Option}
use Rattle.std.specs.List.{AllByRecursion, flat_map}
use Rattle.std.proofs.lemmas.List.{append-nil}
use Rattle.std.proofs.lemmas.List.Elements.{All-from_recursion, All-nil, All-cons}
use Rattle.poly_specs.proofs.ColumnLemmas.{each_projected, eliminated_wide}
use Rattle.poly_specs.proofs.DownLemmas.{column_projected}
use Rattle.poly_specs.proofs.EliminationLemmas.{out_flat_map, width_in}
use Rattle.poly_specs.proofs.InclusionLemmas.{in_left, in_right, in_either, out_filter, among_append, among_map, among_eliminated_each, among_formed_each}
use Rattle.fm_eliminate.proofs.LeavingLemmas.{all_from_in}
use Rattle.sample_succ.proofs.FreeColumns.{free_stays, each_wide}
use Rattle.fm_eliminate.proofs.PivotLemmas.{each_in}
use Rattle.run_specs.proofs.EndLemmas.{all_cut}
use Rattle.sample_succ.proofs.StageFacts.{passes_more}
use Rattle.run_specs.proofs.PassesLemmas.{same_in}
use Rattle.run_specs.proofs.SampleEnds.{sample_wide}
use Rattle.sample_succ.proofs.StageFacts.{IsNearRow, near_row}
use Rattle.run_specs.proofs.SampleLemmas.{out_below}
use Rattle.run_specs.proofs.StageLemmas.{holds_both, length-zeros}
use Rattle.poly_specs.specs.Bits.{SomePasses}
use Rattle.poly_specs.specs.Columns.{cut}
use Rattle.poly_specs.specs.Elimination.{eliminated, eliminated_each, formed, formed_each, columns_down}
use Rattle.poly_specs.specs.Fractions.{Fraction}
use Rattle.poly_specs.specs.Lists.{In, IsAmong, number_at}
use Rattle.poly_specs.specs.Rows.{Point, Row, over, coef_at, AllHold, AllWide, SomeValuesHoldIn}
use Rattle.poly_specs.specs.Systems.{System, AreFreeOf, IsProjection}
use Rattle.run_specs.specs.Automaton.{Automaton, width, tolerance_at}
use Rattle.run_specs.specs.Logs.{cell_at}
use Rattle.run_specs.specs.Stages.{Stage, zeros, rows_after, stage_numbers, at_most, at_least, seen_rows, seen_exactly, below, sample_stage}
use Rattle.sample_succ.specs.Plain.{IsPlain}

pub plain_same : (n : ℕ) (rows : List Row) → IsPlain n rows rows
plain_same n rows = record { among = same_in rows; same = λ p h l. (λ g. g, λ g. g) }

pub plain_then : (n : ℕ) (rows more plain : List Row) → IsPlain n rows more → IsPlain n more plain → IsPlain n rows plain
plain_then n rows more plain one two = record {
  among = λ r i. two.among r (one.among r i);
  same = λ p h l. (λ g. (two.same p h l).0 ((one.same p h l).0 g), λ g. (one.same p h l).1 ((two.same p h l).1 g));
}

-- ---- elimination

values_more : (n : ℕ) (columns : List ℕ) (rows more : List Row) (p : Point) → ((q : Point) → pos 0 <ℤ q.den → length q.num ≡ n → AllHold rows q → AllHold more q) → length p.num ≡ n →
    SomeValuesHoldIn columns rows p → SomeValuesHoldIn columns more p
values_more n columns rows more p within lp (q, e) = (q, record { positive = e.positive; sized = e.sized; same = e.same; holds = within q e.positive (e.sized ∙ lp) e.holds })

pub plain_each : (n : ℕ) (columns : List ℕ) (rows more : List Row) → All (λ x. x < n) columns → AllWide n rows → AllWide n more → IsPlain n rows more →
    IsPlain n (eliminated_each columns rows) (eliminated_each columns more)
plain_each n columns rows more within wr wm is = record {
  among = among_eliminated_each columns rows more is.among;
  same = λ p h l.
      let one = each_projected n columns rows p within wr l h in
      let two = each_projected n columns more p within wm l h in (
        λ g. two.1 (values_more n columns rows more p (λ q hq lq. (is.same q hq lq).0) l (one.0 g)),
        λ g. one.1 (values_more n columns more rows p (λ q hq lq. (is.same q hq lq).1) l (two.0 g)),
      );
}

pub plain_projection : (n x : ℕ) (rows left : List Row) → x < n → AllWide n rows → IsProjection n x rows left → IsPlain n left (eliminated x rows)
plain_projection n x rows left h wide is = record {
  among = is.plain;
  same = λ p hp lp.
      let law = column_projected x n rows p h wide lp hp in
      (λ g. law.1 ((is.same p hp lp).0 g), λ g. (is.same p hp lp).1 (law.0 g));
}

-- a column that no row has is in none that is left
pub free_left : (n x j : ℕ) (rows left : List Row) → j < n → AllWide n rows → AreFreeOf j rows → IsProjection n x rows left → AreFreeOf j left
free_left n x j rows left h wide free is = all_from_in (λ r. coef_at j r ≡ pos 0) left (λ r i. free_stays n x j rows h wide free r (is.plain r i))

-- ---- the columns that are observed exactly

down : (n : ℕ) → columns_down 0 (suc n) ≡ n ∷ columns_down 0 n
down n = let zero_plus : 0 + n ≡ n = omega arith in ap (λ k. k ∷ columns_down 0 n) zero_plus

module _ (p : ℕ → Bool) where
  pub one_column : (x : ℕ) → p x ≡ true → filter p (x ∷ []) ≡ x ∷ []
  one_column x e = rw e refl

  pub no_column : (x : ℕ) → p x ≡ false → filter p (x ∷ []) ≡ []
  no_column x e = rw e refl

  one_more : (w x : ℕ) (xs : List ℕ) → x < w → All (λ y. y < w) (filter p xs) → (b : Bool) → p x ≡ b → All (λ y. y < w) (filter p (x ∷ xs))
  one_more w x xs h all true e = rw e (All-cons (λ y. y < w) x (filter p xs) h all)
  one_more w x xs h all false e = rw e all

  pub columns_within : (n w : ℕ) → n ≤ w → All (λ x. x < w) (filter p (columns_down 0 n))
  columns_within zero w h = All-nil (λ x. x < w)
  columns_within (suc n) w h =
      subst (λ xs. All (λ x. x < w) (filter p xs)) (sym (down n)) (one_more w n (columns_down 0 n) (omega (arith, h)) (columns_within n w (omega (arith, h))) (p n) refl)

  first_then : (x : ℕ) (xs : List ℕ) (rows : List Row) → (b : Bool) → p x ≡ b → eliminated_each (filter p (x ∷ xs)) rows ≡ eliminated_each (filter p xs) (eliminated_each (filter p (x ∷ [])) rows)
  first_then x xs rows true e = rw e refl
  first_then x xs rows false e = rw e refl

  -- first the one before n, and then those before it
  pub columns_then : (n : ℕ) (rows : List Row) → eliminated_each (filter p (columns_down 0 (suc n))) rows ≡ eliminated_each (filter p (columns_down 0 n)) (eliminated_each (filter p (n ∷ [])) rows)
  columns_then n rows = ap (λ xs. eliminated_each (filter p xs) rows) (down n) ∙ first_then n (columns_down 0 n) rows (p n) refl

  first_formed : (x : ℕ) (xs : List ℕ) (rows : List Row) → (b : Bool) → p x ≡ b →
      formed_each (filter p (x ∷ xs)) rows ≡ formed_each (filter p (x ∷ [])) rows ++ formed_each (filter p xs) (eliminated_each (filter p (x ∷ [])) rows)
  first_formed x xs rows true e = rw e (ap (λ ns. ns ++ formed_each (filter p xs) (eliminated x rows)) (sym (append-nil (formed x rows))))
  first_formed x xs rows false e = rw e refl

  pub formed_then : (n : ℕ) (rows : List Row) →
      formed_each (filter p (columns_down 0 (suc n))) rows ≡ formed_each (filter p (n ∷ [])) rows ++ formed_each (filter p (columns_down 0 n)) (eliminated_each (filter p (n ∷ [])) rows)
  formed_then n rows = ap (λ xs. formed_each (filter p xs) rows) (down n) ∙ first_formed n (columns_down 0 n) rows (p n) refl

-- ---- the rows that are cut

last_zero : (m : ℕ) (cs : List ℤ) → length cs ≡ m + 1 → number_at m cs ≡ pos 0 → AllByRecursion (λ z. z ≡ pos 0) (drop m cs)
last_zero zero [] l e = tt
last_zero zero (c ∷ []) l e = (e, tt)
last_zero zero (c ∷ d ∷ cs) l e = absurd (omega arith)
last_zero (suc m) [] l e = tt
last_zero (suc m) (c ∷ cs) l e = last_zero m cs (omega arith) e

pub zeros_last : (m : ℕ) (rows : List Row) → AllWide (m + 1) rows → AreFreeOf m rows → All (λ r. All (λ z. z ≡ pos 0) (drop m r.coef)) rows
zeros_last m rows wide free = all_from_in (λ r. All (λ z. z ≡ pos 0) (drop m r.coef)) rows (λ r i.
    All-from_recursion (λ z. z ≡ pos 0) (drop m r.coef) (last_zero m r.coef (width_in (m + 1) rows wide r i) (each_in (λ s. coef_at m s ≡ pos 0) rows free r i)))

pub free_both : (m : ℕ) (rows more : List Row) → AreFreeOf m rows → AreFreeOf m more → AreFreeOf m (rows ++ more)
free_both m rows more h g = all_from_in (λ r. coef_at m r ≡ pos 0) (rows ++ more) (λ r i. elim (in_either r rows more i) [
  | inl j ↦ each_in (λ s. coef_at m s ≡ pos 0) rows h r j
  | inr j ↦ each_in (λ s. coef_at m s ≡ pos 0) more g r j
])

pub plain_cut : (m : ℕ) (rows plain more : List Row) → IsPlain (m + 1) rows plain → IsPlain m (map (cut m) (rows ++ more)) (map (cut m) (plain ++ more))
plain_cut m rows plain more is = record {
  among = among_map (cut m) (rows ++ more) (plain ++ more) (among_append rows plain more more is.among (same_in more));
  same = λ p h l.
      let at : Point = over p.den (p.num ++ zeros 1) in
      let sized : length at.num ≡ m + 1 = omega (arith, length-append p.num (zeros 1), length-zeros 1, l) in
      let one = all_cut m 1 p.den p.num (rows ++ more) l in
      let two = all_cut m 1 p.den p.num (plain ++ more) l in
      let both = holds_both rows more at in
      let all = holds_both plain more at in
      let same = is.same at h sized in (
        λ g. (let k = both.0 (one.0 g) in two.1 (all.1 (same.0 k.0, k.1))),
        λ g. (let k = all.0 (two.0 g) in one.1 (both.1 (same.1 k.0, k.1))),
      );
}

-- ---- the stage

module _ (a : Automaton) (cells : List (Option Fraction)) where
  pub again_wide : AllWide (width a + 1) (flat_map (seen_rows a cells) (filter (seen_exactly a cells) (below (width a))))
  again_wide = all_from_in (λ r. length r.coef ≡ width a + 1) _ (λ r i. (row_is r i).wide)
    where
      row_is : (r : Row) → In r (flat_map (seen_rows a cells) (filter (seen_exactly a cells) (below (width a)))) → IsNearRow (width a) r
      row_is r i =
          let y = out_flat_map (seen_rows a cells) r (filter (seen_exactly a cells) (below (width a))) i in
          near_row (width a) y.0 (tolerance_at a y.0) (cell_at y.0 cells) r (out_below (width a) y.0 (out_filter (seen_exactly a cells) y.0 (below (width a)) y.1).0) y.2

  pub again_free : AreFreeOf (width a) (flat_map (seen_rows a cells) (filter (seen_exactly a cells) (below (width a))))
  again_free = all_from_in (λ r. coef_at (width a) r ≡ pos 0) _ (λ r i. (row_is r i).free)
    where
      row_is : (r : Row) → In r (flat_map (seen_rows a cells) (filter (seen_exactly a cells) (below (width a)))) → IsNearRow (width a) r
      row_is r i =
          let y = out_flat_map (seen_rows a cells) r (filter (seen_exactly a cells) (below (width a))) i in
          near_row (width a) y.0 (tolerance_at a y.0) (cell_at y.0 cells) r (out_below (width a) y.0 (out_filter (seen_exactly a cells) y.0 (below (width a)) y.1).0) y.2

-- ---- the numbers of a stage

pub sums_pass : (s : Stage) → SomePasses s.sums → SomePasses (stage_numbers s)
unfolding stage_numbers
sums_pass s = passes_more s.sums _ (λ z i. in_left z (s.sums ++ formed_each s.columns s.rows) _ (in_left z s.sums (formed_each s.columns s.rows) i))

pub formed_pass : (s : Stage) → SomePasses (formed_each s.columns s.rows) → SomePasses (stage_numbers s)
unfolding stage_numbers
formed_pass s = passes_more (formed_each s.columns s.rows) _ (λ z i. in_left z (s.sums ++ formed_each s.columns s.rows) _ (in_right z s.sums (formed_each s.columns s.rows) i))

pub test_pass : (s : Stage) (rows : List Row) → IsAmong rows (rows_after s) → SomePasses (formed_each (columns_down 0 s.left) rows) → SomePasses (stage_numbers s)
unfolding stage_numbers
test_pass s rows among = passes_more (formed_each (columns_down 0 s.left) rows) _ (λ z i.
    in_right z (s.sums ++ formed_each s.columns s.rows) _ (among_formed_each (columns_down 0 s.left) rows (rows_after s) among z i))

-- the rows that a sample adds
pub added_wide : (a : Automaton) (duration : Fraction) (cells : List (Option Fraction)) →
    AllWide (width a + 1) (at_most (width a + 1) (width a) duration ∷ at_least (width a + 1) (width a) duration ∷ flat_map (seen_rows a cells) (below (width a)))
added_wide a duration cells = sample_wide a duration cells [] (All-nil (λ r. length r.coef ≡ width a + 1))

-- ---- one column after the other

module _ (p : ℕ → Bool) (n k : ℕ) (rows : List Row) (next : suc k ≡ n) where
  columns_step : eliminated_each (filter p (columns_down 0 n)) rows ≡ eliminated_each (filter p (columns_down 0 k)) (eliminated_each (filter p (k ∷ [])) rows)
  columns_step = ap (λ j. eliminated_each (filter p (columns_down 0 j)) rows) (sym next) ∙ columns_then p k rows

  formed_step : formed_each (filter p (columns_down 0 n)) rows ≡ formed_each (filter p (k ∷ [])) rows ++ formed_each (filter p (columns_down 0 k)) (eliminated_each (filter p (k ∷ [])) rows)
  formed_step = ap (λ j. formed_each (filter p (columns_down 0 j)) rows) (sym next) ∙ formed_then p k rows

  pub first_passes : SomePasses (formed_each (filter p (k ∷ [])) rows) → SomePasses (formed_each (filter p (columns_down 0 n)) rows)
  first_passes h = subst SomePasses (sym formed_step) (passes_more (formed_each (filter p (k ∷ [])) rows) _ (λ z i. in_left z (formed_each (filter p (k ∷ [])) rows) _ i) h)

  pub rest_passes : (left : List Row) → IsAmong left (eliminated_each (filter p (k ∷ [])) rows) → SomePasses (formed_each (filter p (columns_down 0 k)) left) →
      SomePasses (formed_each (filter p (columns_down 0 n)) rows)
  rest_passes left among h = subst SomePasses (sym formed_step) (passes_more (formed_each (filter p (columns_down 0 k)) left) _ (λ z i.
      in_right z (formed_each (filter p (k ∷ [])) rows) _ (among_formed_each (filter p (columns_down 0 k)) left (eliminated_each (filter p (k ∷ [])) rows) among z i)) h)

  pub plain_step : (w : ℕ) (left last : List Row) → n ≤ w → AllWide w rows → AllWide w left → IsPlain w left (eliminated_each (filter p (k ∷ [])) rows) →
      IsPlain w last (eliminated_each (filter p (columns_down 0 k)) left) → IsPlain w last (eliminated_each (filter p (columns_down 0 n)) rows)
  plain_step w left last h wr wl one two =
      let cols : List ℕ = filter p (columns_down 0 k) in
      let gone : List Row = eliminated_each (filter p (k ∷ [])) rows in
      subst (IsPlain w last) (sym columns_step)
      (plain_then w last (eliminated_each cols left) (eliminated_each cols gone) two
      (plain_each w cols left gone (columns_within p k w (omega (arith, h, next))) wl (each_wide w (filter p (k ∷ [])) rows wr) one))

-- ---- the whole stage

module _ (a : Automaton) (duration : Fraction) (cells : List (Option Fraction)) (state : List Row) where
  abbrev stage : Stage
  stage = sample_stage a duration cells state

  abbrev rest : List ℕ
  rest = filter (seen_exactly a cells) (columns_down 0 (width a))

  pub time_passes : SomePasses (formed (width a) stage.rows) → SomePasses (stage_numbers stage)
  time_passes h = formed_pass stage (passes_more (formed (width a) stage.rows) _ (λ z i. in_left z (formed (width a) stage.rows) (formed_each rest (eliminated (width a) stage.rows)) i) h)

  pub values_pass : (timeless : List Row) → IsAmong timeless (eliminated (width a) stage.rows) → SomePasses (formed_each rest timeless) → SomePasses (stage_numbers stage)
  values_pass timeless among h = formed_pass stage (passes_more (formed_each rest timeless) _ (λ z i.
      in_right z (formed (width a) stage.rows) (formed_each rest (eliminated (width a) stage.rows)) (among_formed_each rest timeless (eliminated (width a) stage.rows) among z i)) h)

  pub stage_plain : (timeless left : List Row) → AllWide (width a + 1) state → AllWide (width a + 1) timeless → IsProjection (width a + 1) (width a) stage.rows timeless →
      IsPlain (width a + 1) left (eliminated_each rest timeless) →
      IsPlain (width a) (map (cut (width a)) (left ++ flat_map (seen_rows a cells) (filter (seen_exactly a cells) (below (width a))))) (rows_after stage)
  unfolding rows_after
  stage_plain timeless left wide wt is h =
      let m : ℕ = width a in
      let gone : List Row = eliminated m stage.rows in
      let rows_wide = sample_wide a duration cells state wide in
      plain_cut m left (eliminated_each rest gone) stage.again
      (plain_then (m + 1) left (eliminated_each rest timeless) (eliminated_each rest gone) h
      (plain_each (m + 1) rest timeless gone (columns_within (seen_exactly a cells) m (m + 1) (omega arith)) wt (eliminated_wide (m + 1) m stage.rows rows_wide)
      (plain_projection (m + 1) m stage.rows timeless (omega arith) rows_wide is)))

pub projected_is : (m n : ℕ) (s : System) (rows left : List Row) → n ≡ m → s ≡ record { width = m + 1; rows = rows } → IsProjection s.width n s.rows left → IsProjection (m + 1) m rows left
projected_is m n s rows left e f is = subst (λ t. IsProjection t.width m t.rows left) f (subst (λ k. IsProjection s.width k s.rows left) e is)
