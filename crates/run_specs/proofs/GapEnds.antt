-- A gap run from where the rows of a state hold ends where the rows after its gap's stages hold, and each stage has a point.
use Rattle.std.proofs.Common.{◌≡◌, ◌↔◌, inr, ℕ, ◌+◌, ◌<◌, List, [], ◌∷◌, ◌++◌, length, length-append, take, map, Option, Some, refl, sym, ◌∙◌, ap, subst, arith, ℤ, pos, negsuc, ◌+ℤ◌, ◌-ℤ◌, ◌<ℤ◌}
use Rattle.std.proofs.lemmas.Int.{ints}
use Rattle.std.proofs.lemmas.List.{take_all}
use Rattle.poly_specs.proofs.LinearLemmas.{dot-append}
use Rattle.run_specs.proofs.StageLemmas.{holds_both, holds_first, holds_moved, by_value, row_of_value}
use Rattle.run_specs.proofs.EndLemmas.{leg_ends, jump_ends}
use Rattle.run_specs.proofs.SampleLemmas.{number_last}
use Rattle.run_specs.proofs.SampleEnds.{sample_ends}
use Rattle.run_specs.proofs.StageWidths.{location_is, transition_is, leg_after_wide, jump_wide_of, path_wide, start_wide}
use Rattle.poly_specs.specs.Lists.{dot, number_at}
use Rattle.poly_specs.specs.Fractions.{Fraction, IsFraction}
use Rattle.poly_specs.specs.Rows.{Point, Row, over, with_coef, Holds, AllHold, AllWide, HasPoint}
use Rattle.run_specs.specs.Automaton.{Automaton, width, location_at, transition_at, tolerance_at}
use Rattle.run_specs.specs.WellFormed.{IsWellFormed}
use Rattle.run_specs.specs.Logs.{IsPassing, cell_at}
use Rattle.run_specs.specs.Runs.{Leg, Move, GapRun, IsLeg, IsJump, LeadOn, IsGapRun, path_of, total, start_point, end_point}
use Rattle.run_specs.specs.Passes.{Fits}
use Rattle.run_specs.specs.PlainHistories.{AllReached}
use Rattle.run_specs.specs.Stages.{Stage, SomeReachedPasses, rows_after, row_of, gap_start, leg_stage, jump_stage, sample_stage, path_rows, path_stages, gap_rows, gap_stages}

-- ---- stages that have points

pub reached_then : (xs ys : List Stage) → AllReached xs → SomeReachedPasses ys → SomeReachedPasses (xs ++ ys)
reached_then [] ys h p = p
reached_then (x ∷ xs) ys h p = inr (h.0, reached_then xs ys h.1 p)

pub reached_both : (xs ys : List Stage) → AllReached xs → AllReached ys → AllReached (xs ++ ys)
reached_both [] ys h g = g
reached_both (x ∷ xs) ys h g = (h.0, reached_both xs ys h.1 g)

-- ---- the start of a gap

start_row_holds : (m : ℕ) (d : ℤ) (v : List ℤ) (e : ℤ) → length v ≡ m → (r : Row) → length r.coef ≡ m →
    Holds (with_coef (take m r.coef ++ pos 0 ∷ []) r) (over d (v ++ e ∷ [])) ↔ Holds r (over d v)
start_row_holds m d v e lv r lr =
    by_value r.strict _ _
    (let same : take m r.coef ≡ r.coef = take_all m r.coef (omega (arith, lr)) in
    let a = dot-append (take m r.coef) (pos 0 ∷ []) v (e ∷ []) (ap length same ∙ lr ∙ sym lv) in
    let b : dot (take m r.coef) v ≡ dot r.coef v = ap (λ cs. dot cs v) same in
    omega (arith, ints, a, b))

-- the rows at the start of a gap hold where the state's rows do, with the elapsed time 0
pub start_holds : (m : ℕ) (d : ℤ) (v : List ℤ) (e : ℤ) (rows : List Row) → length v ≡ m → AllWide m rows →
    AllHold (gap_start m rows) (over d (v ++ e ∷ [])) ↔ AllHold rows (over d v) × (e ≡ pos 0)
start_holds m d v e rows lv wide =
    let at : Point = over d (v ++ e ∷ []) in
    let s1 = holds_moved m (λ r. with_coef (take m r.coef ++ pos 0 ∷ []) r) at (over d v) (start_row_holds m d v e lv) rows wide in
    let low : Row = row_of (m + 1) m (pos 1) (pos 0) in
    let up : Row = row_of (m + 1) m (negsuc 0) (pos 0) in
    let last : number_at m (v ++ e ∷ []) ≡ e = ap (λ k. number_at k (v ++ e ∷ [])) (sym lv) ∙ number_last v e in
    let v1 = rw last at (row_of_value (m + 1) m (pos 1) (pos 0) at (omega arith)) in
    let v2 = rw last at (row_of_value (m + 1) m (negsuc 0) (pos 0) at (omega arith)) in
    let b1 = holds_both (map (λ r. with_coef (take m r.coef ++ pos 0 ∷ []) r) rows) (low ∷ up ∷ []) at in
    let b2 = holds_first low (up ∷ []) at in
    let b3 = holds_first up [] at in (
      λ h.
          let h1 = b1.0 h in
          let h2 = b2.0 h1.1 in
          let h3 = b3.0 h2.1 in
          (s1.0 h1.0, omega (arith, ints, v1, v2, h2.0, h3.0)),
      λ h.
          let z = h.1 in
          b1.1 (s1.1 h.0, b2.1 (omega (arith, ints, v1, z), b3.1 (omega (arith, ints, v2, z), λ i r g. absurd (omega arith)))),
    )

-- ---- along a path

-- what a gap's stages need of its start and its sample
pub record IsGapCase (a : Automaton) (l : ℕ) (cells : List (Option Fraction)) (rows : List Row) : Type 0 where
  pub loc : l < length a.locations
  pub wide : AllWide (width a) rows
  pub tolerances : (j : ℕ) → IsFraction (tolerance_at a j)
  pub values : (j : ℕ) (x : Fraction) → cell_at j cells ≡ Some x → IsFraction x
  pub sized : length cells ≡ width a

module _ (a : Automaton) (wf : IsWellFormed a) where
  leg_there : (l : ℕ) (state : List Row) (d : ℤ) (p : List ℤ) (t : ℤ) (q : List ℤ) (elapsed : ℤ) → l < length a.locations → AllWide (width a + 1) state → pos 0 <ℤ d →
      length p ≡ width a → IsLeg (location_at a l) d p t q → AllHold state (over d (p ++ elapsed ∷ [])) → AllHold (rows_after (leg_stage a l state)) (over d (q ++ (elapsed +ℤ t) ∷ []))
  leg_there l state d p t q elapsed hl wide hd lp leg h =
      let lq : length q ≡ width a = leg.same_size ∙ lp in
      let back : elapsed ≡ (elapsed +ℤ t) -ℤ t = omega (arith, ints) in
      (leg_ends a l state d (q ++ (elapsed +ℤ t) ∷ []) (location_is a wf l hl) wide hd (omega (arith, length-append q ((elapsed +ℤ t) ∷ []), lq))).1
      (d, q, elapsed +ℤ t, t, p, record { positive = hd; sized = lq; starts = subst (λ z. AllHold state (over d (p ++ z ∷ []))) back h; leg = leg; ends = refl })

  jump_there : (e : ℕ) (state : List Row) (d : ℤ) (p q : List ℤ) (elapsed : ℤ) → e < length a.transitions → AllWide (width a + 1) state → pos 0 <ℤ d →
      length p ≡ width a → IsJump a e d p q → AllHold state (over d (p ++ elapsed ∷ [])) → AllHold (rows_after (jump_stage a e state)) (over d (q ++ elapsed ∷ []))
  jump_there e state d p q elapsed he wide hd lp jump h =
      let lq : length q ≡ width a = jump.same_size ∙ lp in
      let t = transition_is a wf e he in
      (jump_ends a e state d (q ++ elapsed ∷ []) t.relation (location_is a wf (transition_at a e).target t.target).invariant wide hd (omega (arith, length-append q (elapsed ∷ []), lq))).1
      (d, q, elapsed, p, record { positive = hd; sized = lq; starts = h; jump = jump; ends = refl })

  has_point : (rows : List Row) (d : ℤ) (q : List ℤ) (elapsed : ℤ) → pos 0 <ℤ d → length q ≡ width a → AllHold rows (over d (q ++ elapsed ∷ [])) → HasPoint (width a + 1) rows
  has_point rows d q elapsed hd lq h = (over d (q ++ elapsed ∷ []), hd, omega (arith, length-append q (elapsed ∷ []), lq), h)

  path_there : (l : ℕ) (state : List Row) (d : ℤ) (p : List ℤ) (ms : List Move) (f : Leg) (elapsed : ℤ) → l < length a.locations → Fits a l (map (λ m. m.transition) ms) →
      AllWide (width a + 1) state → pos 0 <ℤ d → length p ≡ width a → LeadOn a d l p ms f → AllHold state (over d (p ++ elapsed ∷ [])) →
      AllReached (path_stages a l (map (λ m. m.transition) ms) state)
      × (length f.at_end ≡ width a)
      × AllHold (path_rows a l (map (λ m. m.transition) ms) state) (over d (f.at_end ++ (elapsed +ℤ total ms f) ∷ []))
  path_there l state d p [] f elapsed hl fits wide hd lp leads h =
      let there = leg_there l state d p f.length_of f.at_end elapsed hl wide hd lp leads h in
      let lf : length f.at_end ≡ width a = leads.same_size ∙ lp in
      ((has_point (rows_after (leg_stage a l state)) d f.at_end (elapsed +ℤ f.length_of) hd lf there, tt), lf, there)
  path_there l state d p (m ∷ ms) f elapsed hl fits wide hd lp leads h =
      let q : List ℤ = m.leg.at_end in
      let e : ℕ = m.transition in
      let next : ℤ = elapsed +ℤ m.leg.length_of in
      let after_leg : List Row = rows_after (leg_stage a l state) in
      let leg_wide = leg_after_wide a l state (location_is a wf l hl) wide in
      let lq : length q ≡ width a = leads.0.same_size ∙ lp in
      let lr : length m.after ≡ width a = leads.2.same_size ∙ lq in
      let there = leg_there l state d p m.leg.length_of q elapsed hl wide hd lp leads.0 h in
      let jumped = jump_there e after_leg d q m.after next fits.0 leg_wide hd lq leads.2 there in
      let rest = path_there (transition_at a e).target (rows_after (jump_stage a e after_leg)) d m.after ms f next (transition_is a wf e fits.0).target fits.2
      (jump_wide_of a wf e after_leg fits.0 leg_wide) hd lr leads.3 jumped in
      let whole : next +ℤ total ms f ≡ elapsed +ℤ (m.leg.length_of +ℤ total ms f) = omega (arith, ints) in (
        (has_point after_leg d q next hd lq there, (has_point (rows_after (jump_stage a e after_leg)) d m.after next hd lr jumped, rest.0)),
        rest.1,
        subst (λ z. AllHold (path_rows a l (map (λ x. x.transition) (m ∷ ms)) state) (over d (f.at_end ++ z ∷ []))) whole rest.2,
      )

  -- ---- a whole gap

  pub gap_there : (duration : Fraction) (cells : List (Option Fraction)) (rows : List Row) (g : GapRun) → IsGapCase a g.start_loc cells rows → Fits a g.start_loc (path_of g) →
      length g.start ≡ width a → IsGapRun a duration g → IsPassing a cells (end_point g) → AllHold rows (start_point g) →
      AllReached (gap_stages a g.start_loc (path_of g) duration cells rows) × AllHold (gap_rows a g.start_loc (path_of g) duration cells rows) (end_point g)
  gap_there duration cells rows g is fits lp run passes h =
      let start : List Row = gap_start (width a) rows in
      let begins = (start_holds (width a) g.den g.start (pos 0) rows lp is.wide).1 (h, refl) in
      let wide = start_wide (width a) rows is.wide in
      let along = path_there g.start_loc start g.den g.start g.moves g.last (pos 0) is.loc fits wide run.positive lp run.leads begins in
      let state : List Row = path_rows a g.start_loc (path_of g) start in
      let time : pos 0 +ℤ total g.moves g.last ≡ total g.moves g.last = omega (arith, ints) in
      let ends : AllHold (gap_rows a g.start_loc (path_of g) duration cells rows) (end_point g) =
      (sample_ends a duration cells state g.den g.last.at_end is.tolerances is.values is.sized (path_wide a wf g.start_loc (path_of g) start is.loc fits wide) run.positive along.1).1 (
        g.den,
        g.last.at_end,
        total g.moves g.last,
        record {
          positive = run.positive;
          sized = along.1;
          starts = subst (λ z. AllHold state (over g.den (g.last.at_end ++ z ∷ []))) time along.2;
          lasts = run.lasts;
          passes = passes;
          ends = refl;
        },
      ) in
      (reached_both (path_stages a g.start_loc (path_of g) start) (sample_stage a duration cells state ∷ []) along.0 ((end_point g, run.positive, along.1, ends), tt), ends)
