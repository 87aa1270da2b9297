-- Where the sample is passed after some parts of a gap, no more time had elapsed before them than the gap lasts.
use Rattle.std.proofs.Common.{◌≡◌, ℕ, ◌+◌, ◌<◌, List, [], ◌∷◌, ◌++◌, length, length-append, Option, Some, None, sym, ◌∙◌, ap, subst, arith, ℤ, pos, ◌+ℤ◌, ◌*ℤ◌, ◌≤ℤ◌, ◌<ℤ◌, neg_ℤ}
use Rattle.std.proofs.lemmas.Int.{ints}
use Rattle.std.proofs.lemmas.List.{length-set}
use Rattle.poly_specs.proofs.EliminationLemmas.{length-divided, AllHold-from_in}
use Rattle.poly_specs.proofs.FractionLemmas.{same-trans}
use Rattle.poly_specs.proofs.IntLemmas.{products, expand, mul_le}
use Rattle.run_specs.proofs.SampleEnds.{sample_ends}
use Rattle.run_specs.proofs.SampleLemmas.{at_most_holds, number_last}
use Rattle.run_specs.proofs.StageLemmas.{holds_both, holds_first, length-zeros}
use Rattle.run_specs.proofs.StageWidths.{path_wide}
use Rattle.poly_specs.specs.Fractions.{Fraction, IsFraction, SameFraction, AtMost}
use Rattle.poly_specs.specs.Lists.{In, number_at}
use Rattle.poly_specs.specs.Rows.{Point, Row, over, Holds, AllHold, AllWide, HasPoint}
use Rattle.poly_specs.specs.Systems.{System}
use Rattle.run_specs.specs.Automaton.{Automaton, width, transition_at, tolerance_at}
use Rattle.run_specs.specs.Ends.{EndsSample, SomeSampleEnds}
use Rattle.run_specs.specs.Keys.{Key}
use Rattle.run_specs.specs.Logs.{cell_at}
use Rattle.run_specs.specs.Passes.{Fits}
use Rattle.run_specs.specs.Runs.{Leg, Move, LeadOn, total}
use Rattle.run_specs.specs.Stages.{Stage, zeros, at_most, rows_after, row_of, sample_stage, path_rows}
use Rattle.run_specs.specs.WellFormed.{IsWellFormed}
use Rattle.sample_succ.specs.Plain.{IsPlain, IsLeft, IsLeftInTime, in_time}
use Rattle.run_specs.proofs.ScaledRuns.{last_same}
use Rattle.run_specs.proofs.GapBack.{PathBack, path_back}

-- ---- the row that no more time has elapsed than this

pub time_row_wide : (m : ℕ) (v : Fraction) → length (at_most (m + 1) m v).coef ≡ m + 1
time_row_wide m v = length-divided (row_of (m + 1) m v.den (neg_ℤ v.num)) ∙ length-set (zeros (m + 1)) m v.den ∙ length-zeros (m + 1)

time_row_holds : (m : ℕ) (v : Fraction) (d : ℤ) (ns : List ℤ) (e : ℤ) → length ns ≡ m → AtMost (record { num = e; den = d }) v → Holds (at_most (m + 1) m v) (over d (ns ++ e ∷ []))
time_row_holds m v d ns e l h =
    let last : number_at m (ns ++ e ∷ []) ≡ e = ap (λ k. number_at k (ns ++ e ∷ [])) (sym l) ∙ number_last ns e in
    (at_most_holds (m + 1) m v (over d (ns ++ e ∷ [])) (omega arith)).1 (rw last h)

-- ---- time that elapses

no_later : (e t b : ℤ) (v : Fraction) → IsFraction v → pos 0 ≤ℤ t → SameFraction (record { num = e +ℤ t; den = b }) v → AtMost (record { num = e; den = b }) v
no_later e t b v hv ht same =
    let sum : (e +ℤ t) *ℤ v.den ≡ e *ℤ v.den +ℤ v.den *ℤ t = simp expand (omega (arith, products)) in
    let more : (v.den *ℤ pos 0) ≤ℤ (v.den *ℤ t) = mul_le v.den (pos 0) t hv ht in
    let none : v.den *ℤ pos 0 ≡ pos 0 = omega (arith, products) in
    omega (arith, ints, sum, more, none, same)

no_row : (at : Point) (r : Row) → In r [] → Holds r at
no_row at r i = absurd i

module _ (a : Automaton) (wf : IsWellFormed a) where
  total_is : (d : ℤ) (l : ℕ) (p : List ℤ) (ms : List Move) (f : Leg) → LeadOn a d l p ms f → pos 0 ≤ℤ total ms f
  total_is d l p [] f h = h.lasts
  total_is d l p (y ∷ ms) f h =
      let rest = total_is d (transition_at a y.transition).target y.after ms f h.3 in
      let first = h.0.lasts in
      omega (arith, ints, rest, first)

  -- the same parts, from a point that passes the sample
  in_time_of : (l : ℕ) (path : List ℕ) (gap : Fraction) (cells : List (Option Fraction)) (state rows : List Row) (y : Point) (c : ℤ) (v : List ℤ) (el : ℤ) → IsFraction gap →
      EndsSample a gap cells rows y c v el → PathBack a wf l path state (over c (v ++ el ∷ [])) → HasPoint (width a + 1) (state ++ at_most (width a + 1) (width a) gap ∷ [])
  in_time_of l path gap cells state rows y c v el hg S T =
      let m : ℕ = width a in
      let b : ℤ = T.den in
      let t : ℤ = total T.moves T.last in
      let time : ℤ = T.elapsed +ℤ t in
      let joined = last_same c b el time v T.last.at_end (S.sized ∙ sym T.sized_end) T.ends in
      let lasts = same-trans (record { num = time; den = b }) (record { num = el; den = c }) gap T.positive S.positive hg (sym joined.1) S.lasts in
      let most = no_later T.elapsed t b gap hg (total_is b l T.start T.moves T.last T.leads) lasts in
      let at : Point = over b (T.start ++ T.elapsed ∷ []) in
      let row : Holds (at_most (m + 1) m gap) at = time_row_holds m gap b T.start T.elapsed T.sized most in
      let held = (holds_both state (at_most (m + 1) m gap ∷ []) at).1 (T.starts, (holds_first (at_most (m + 1) m gap) [] at).1 (row, AllHold-from_in [] at (no_row at))) in
      (at, T.positive, omega (arith, length-append T.start (T.elapsed ∷ []), T.sized), held)

  -- the parts of a gap after a state: where the sample is passed after them, the state has a point in time
  pub starts_in_time : (l : ℕ) (path : List ℕ) (gap : Fraction) (cells : List (Option Fraction)) (state : List Row) (d : ℤ) (ns : List ℤ) →
      ((j : ℕ) → IsFraction (tolerance_at a j)) → ((j : ℕ) (x : Fraction) → cell_at j cells ≡ Some x → IsFraction x) → length cells ≡ width a → IsFraction gap →
      l < length a.locations → Fits a l path → AllWide (width a + 1) state → pos 0 <ℤ d → length ns ≡ width a →
      AllHold (rows_after (sample_stage a gap cells (path_rows a l path state))) (over d ns) → HasPoint (width a + 1) (state ++ at_most (width a + 1) (width a) gap ∷ [])
  starts_in_time l path gap cells state d ns ht hc lc hg hl fits wide hd ln h =
      onwards ((sample_ends a gap cells rows d ns ht hc lc (path_wide a wf l path state hl fits wide) hd ln).0 h)
    where
      rows : List Row
      rows = path_rows a l path state

      onwards : SomeSampleEnds a gap cells rows (over d ns) → HasPoint (width a + 1) (state ++ at_most (width a + 1) (width a) gap ∷ [])
      onwards (c, v, el, S) =
          in_time_of l path gap cells state rows (over d ns) c v el hg S
          (path_back a wf l path state c (v ++ el ∷ []) hl fits wide S.positive (omega (arith, length-append v (el ∷ []), S.sized)) S.starts)

-- ---- what is left in time

-- with a row more
pub point_back_with : (n : ℕ) (r : Row) (rows plain : List Row) → IsPlain n rows plain → HasPoint n (plain ++ r ∷ []) → HasPoint n (rows ++ r ∷ [])
point_back_with n r rows plain is (p, hp, lp, h) =
    let both = (holds_both plain (r ∷ []) p).0 h in
    (p, hp, lp, (holds_both rows (r ∷ []) p).1 ((is.same p hp lp).1 both.0, both.1))

point_without : (n : ℕ) (r : Row) (rows : List Row) → HasPoint n (rows ++ r ∷ []) → HasPoint n rows
point_without n r rows (p, hp, lp, h) = (p, hp, lp, ((holds_both rows (r ∷ []) p).0 h).0)

pub left_in_time : (key : Key) (s : Stage) (o : Option System) → IsLeft s o → IsLeftInTime key s o
left_in_time key s None none = λ point. none (point_without s.left (at_most (width key.automaton + 1) (width key.automaton) key.gap) (rows_after s) point)
left_in_time key s (Some left) is = is

module _ (key : Key) (s : Stage) (system timely : System) (same : timely ≡ record { width = system.width; rows = in_time key system.rows }) (w : system.width ≡ s.left) (plain : IsPlain s.left system.rows (rows_after s)) where
  pub none_in_time : (HasPoint timely.width timely.rows → ⊥) → HasPoint s.left (in_time key (rows_after s)) → ⊥
  none_in_time none point =
      let late : HasPoint system.width (in_time key system.rows) → ⊥ = subst (λ (t : System). HasPoint t.width t.rows → ⊥) same none in
      late (subst (λ n. HasPoint n (in_time key system.rows)) (sym w) (point_back_with s.left (at_most (width key.automaton + 1) (width key.automaton) key.gap) system.rows (rows_after s) plain point))

  pub some_in_time : HasPoint timely.width timely.rows → IsLeftInTime key s (Some system)
  some_in_time point =
      let soon : HasPoint system.width (in_time key system.rows) = subst (λ (t : System). HasPoint t.width t.rows) same point in
      (w, plain, point_without s.left (at_most (width key.automaton + 1) (width key.automaton) key.gap) system.rows (subst (λ n. HasPoint n (in_time key system.rows)) w soon))
