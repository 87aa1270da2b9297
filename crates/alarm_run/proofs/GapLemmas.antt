-- One gap of a run: the run before it, the gaps after it, and its pickings.
use Rattle.std.proofs.Common.{◌≡◌, inl, inr, ℕ, zero, suc, ◌<◌, List, [], ◌∷◌, ◌++◌, length, map, take, drop, refl, sym, ◌∙◌, ap, subst, arith, pos, ◌<ℤ◌}
use Rattle.poly_specs.proofs.InclusionLemmas.{in_left, in_right}
use Rattle.poly_specs.specs.Fractions.{Fraction, difference}
use Rattle.poly_specs.specs.Lists.{In}
use Rattle.poly_specs.specs.Pickings.{Picking}
use Rattle.poly_specs.specs.Rows.{Row, AllHold, AllWide}
use Rattle.run_parts.proofs.RestParts.{AreSamples}
use Rattle.run_specs.proofs.GapEnds.{IsGapCase, gap_there}
use Rattle.run_specs.proofs.MixRuns.{length-same_point}
use Rattle.run_specs.proofs.RunEndLemmas.{IsAt, all_same, fits}
use Rattle.run_specs.proofs.SessionLemmas.{last_from}
use Rattle.run_specs.proofs.StageWidths.{end_within, gap_wide}
use Rattle.run_specs.specs.Automaton.{Automaton, width}
use Rattle.run_specs.specs.Logs.{Sample}
use Rattle.run_specs.specs.Passes.{AllFit}
use Rattle.run_specs.specs.RunPasses.{path_pickings, gaps_pickings}
use Rattle.run_specs.specs.Runs.{GapRun, Place, Continues, Follows, path_of, end_of, end_loc, end_point, start_point}
use Rattle.run_specs.specs.Stages.{Stage, SomeReachedPasses, gap_start, gap_rows, gap_stages, gaps_rows, gaps_stages}
use Rattle.run_specs.specs.StateHistories.{place_after}
use Rattle.run_specs.specs.PlainHistories.{AllReached}
use Rattle.run_specs.specs.WellFormed.{IsWellFormed}

-- ---- a gap and its sample

-- the rows before gap number i
abbrev pub rows_before : Automaton → Place → Fraction → List Sample → List GapRun → ℕ → List Row → List Row
rows_before a p t ss gs i rows = gaps_rows a p.loc t (take i ss) (map path_of (take i gs)) rows

-- the pickings of this gap run, from these rows
abbrev pub gap_pickings : Automaton → List Row → GapRun → List Picking
gap_pickings a rows g = path_pickings a g.den g.start_loc (pos 0) (gap_start (width a) rows) g.start g.moves g.last

-- gap number i is g, and its sample is s
pub record IsGapAt (a : Automaton) (k : ℕ) (p : Place) (t : Fraction) (ss : List Sample) (gs : List GapRun) (i : ℕ) (s : Sample) (g : GapRun) : Type 0 where
  pub log_is : take (suc i) ss ≡ take i ss ++ s ∷ []
  pub gaps_are : take (suc i) gs ≡ take i gs ++ g ∷ []
  pub later : drop i gs ≡ g ∷ drop (suc i) gs
  pub continues : Continues a k (place_after a p (take i gs)) (difference s.time (last_from t (take i ss))) s g
  pub has : In g gs
  pub picks : (rows : List Row) (pk : Picking) → In pk (gap_pickings a (rows_before a p t ss gs i rows) g) → In pk (gaps_pickings a t ss rows gs)

pub gap_at : (a : Automaton) (k : ℕ) (p : Place) (t : Fraction) (ss : List Sample) (gs : List GapRun) (i : ℕ) → Follows a k p t ss gs → i < length ss →
    (s : Sample) × (g : GapRun) × IsGapAt a k p t ss gs i s g
gap_at a k p t [] gs i f h = absurd (omega (arith, h))
gap_at a k p t (s ∷ ss) [] i f h = absurd f
gap_at a k p t (s ∷ ss) (g ∷ gs) zero f h = (
  s,
  g,
  record {
    log_is = refl;
    gaps_are = refl;
    later = refl;
    continues = f.0;
    has = inl refl;
    picks = λ rows pk j. in_left pk (gap_pickings a rows g) (gaps_pickings a s.time ss (gap_rows a g.start_loc (path_of g) (difference s.time t) s.cells rows) gs) j;
  },
)
gap_at a k p t (s ∷ ss) (g ∷ gs) (suc i) f h =
    let (x, y, r) = gap_at a k (end_of a g) s.time ss gs i f.1 (omega (arith, h)) in (
      x,
      y,
      record {
        log_is = ap (λ (zs : List Sample). s ∷ zs) r.log_is;
        gaps_are = ap (λ (zs : List GapRun). g ∷ zs) r.gaps_are;
        later = r.later;
        continues = r.continues;
        has = inr r.has;
        picks = λ rows pk j.
            let next : ℕ → List Row = λ l. gap_rows a l (path_of g) (difference s.time t) s.cells rows in
            let there : ℕ → List Row = λ l. gaps_rows a (end_loc a l (path_of g)) s.time (take i ss) (map path_of (take i gs)) (next l) in
            in_right pk (gap_pickings a rows g) (gaps_pickings a s.time ss (next g.start_loc) gs)
            (r.picks (next g.start_loc) pk (subst (λ l. In pk (gap_pickings a (there l) y)) (sym f.0.same_loc) j));
      },
    )

-- the gaps before number i follow too
pub follows_to : (a : Automaton) (k : ℕ) (p : Place) (t : Fraction) (ss : List Sample) (gs : List GapRun) (i : ℕ) → Follows a k p t ss gs → Follows a k p t (take i ss) (take i gs)
follows_to a k p t ss gs zero f = tt
follows_to a k p t [] [] (suc i) f = tt
follows_to a k p t [] (g ∷ gs) (suc i) f = absurd f
follows_to a k p t (s ∷ ss) [] (suc i) f = absurd f
follows_to a k p t (s ∷ ss) (g ∷ gs) (suc i) f = (f.0, follows_to a k (end_of a g) s.time ss gs i f.1)

-- ---- rows and stages

pub rows_wide : (a : Automaton) (k l : ℕ) (t : Fraction) (ss : List Sample) (paths : List (List ℕ)) (rows : List Row) → IsWellFormed a → l < length a.locations → AllFit a k l paths →
    AllWide (width a) rows → AllWide (width a) (gaps_rows a l t ss paths rows)
rows_wide a k l t [] paths rows wf hl fit wide = wide
rows_wide a k l t (s ∷ ss) [] rows wf hl fit wide = wide
rows_wide a k l t (s ∷ ss) (path ∷ paths) rows wf hl fit wide =
    rows_wide a k (end_loc a l path) s.time ss paths (gap_rows a l path (difference s.time t) s.cells rows) wf (end_within a wf l path hl fit.1) fit.2
    (gap_wide a wf l path (difference s.time t) s.cells rows hl fit.1 wide)

-- a stage of one gap more passes: so do the stages with this gap
pub reached_more : (xs ys : List Stage) → AllReached xs → SomeReachedPasses ys → SomeReachedPasses (xs ++ ys)
reached_more [] ys h p = p
reached_more (x ∷ xs) ys h p = inr (h.0, reached_more xs ys h.1 p)

pub passes_first : (xs ys : List Stage) → SomeReachedPasses xs → SomeReachedPasses (xs ++ ys)
passes_first [] ys p = absurd p
passes_first (x ∷ xs) ys (inl p) = inl p
passes_first (x ∷ xs) ys (inr (h, p)) = inr (h, passes_first xs ys p)

pub reached_parts : (xs ys : List Stage) → AllReached (xs ++ ys) → AllReached xs × AllReached ys
reached_parts [] ys h = (tt, h)
reached_parts (x ∷ xs) ys h = let r = reached_parts xs ys h.1 in ((h.0, r.0), r.1)

-- where the last of these paths ends
abbrev pub last_loc : Automaton → ℕ → List (List ℕ) → ℕ
last_loc a l [] = l
last_loc a l (path ∷ paths) = last_loc a (end_loc a l path) paths

pub gap_passes : (a : Automaton) (l : ℕ) (t : Fraction) (ss : List Sample) (s : Sample) (paths : List (List ℕ)) (path : List ℕ) (rows : List Row) → length paths ≡ length ss →
    AllReached (gaps_stages a l t ss paths rows) →
    SomeReachedPasses (gap_stages a (last_loc a l paths) path (difference s.time (last_from t ss)) s.cells (gaps_rows a l t ss paths rows)) →
    SomeReachedPasses (gaps_stages a l t (ss ++ s ∷ []) (paths ++ path ∷ []) rows)
gap_passes a l t [] s [] path rows e h p = passes_first (gap_stages a l path (difference s.time t) s.cells rows) [] p
gap_passes a l t [] s (x ∷ paths) path rows e h p = absurd (omega (arith, e))
gap_passes a l t (x ∷ ss) s [] path rows e h p = absurd (omega (arith, e))
gap_passes a l t (x ∷ ss) s (y ∷ paths) path rows e h p =
    let here : List Stage = gap_stages a l y (difference x.time t) x.cells rows in
    let next : List Row = gap_rows a l y (difference x.time t) x.cells rows in
    let parts = reached_parts here (gaps_stages a (end_loc a l y) x.time ss paths next) h in
    reached_more here (gaps_stages a (end_loc a l y) x.time (ss ++ s ∷ []) (paths ++ path ∷ []) next) parts.0
    (gap_passes a (end_loc a l y) x.time ss s paths path next (omega (arith, e)) parts.1 p)

-- the last stage forms the test of its rows: where this passes, so do the stages
pub fit_parts : (a : Automaton) (k l : ℕ) (paths : List (List ℕ)) (path : List ℕ) → AllFit a k l (paths ++ path ∷ []) → AllFit a k l paths
fit_parts a k l [] path h = tt
fit_parts a k l (p ∷ paths) path h = (h.0, h.1, fit_parts a k (end_loc a l p) paths path h.2)

place_loc : (a : Automaton) (k : ℕ) (p : Place) (t : Fraction) (ss : List Sample) (gs : List GapRun) → Follows a k p t ss gs → (place_after a p gs).loc ≡ last_loc a p.loc (map path_of gs)
place_loc a k p t [] [] f = refl
place_loc a k p t [] (g ∷ gs) f = absurd f
place_loc a k p t (s ∷ ss) [] f = absurd f
place_loc a k p t (s ∷ ss) (g ∷ gs) f = place_loc a k (end_of a g) s.time ss gs f.1 ∙ ap (λ l. last_loc a (end_loc a l (path_of g)) (map path_of gs)) f.0.same_loc

pub ends_at : (a : Automaton) (k : ℕ) (p : Place) (t : Fraction) (ss : List Sample) (gs : List GapRun) → Follows a k p t ss gs → (place_after a p gs).loc ≡ last_loc a p.loc (map path_of gs)
ends_at a k p t ss gs f = place_loc a k p t ss gs f

-- ---- where the rows hold

samples_to : (a : Automaton) (ss : List Sample) (i : ℕ) → AreSamples a ss → AreSamples a (take i ss)
samples_to a ss zero ok = λ s j. absurd j
samples_to a [] (suc i) ok = λ s j. absurd j
samples_to a (x ∷ ss) (suc i) ok = λ s j. elim j [ inl e ↦ ok s (inl e) | inr m ↦ samples_to a ss i (λ y n. ok y (inr n)) s m ]

-- the rows after these gaps hold where they end
holds_after : (a : Automaton) (k : ℕ) (p : Place) (t : Fraction) (ss : List Sample) (gs : List GapRun) (rows : List Row) → IsWellFormed a → AreSamples a ss → p.loc < length a.locations →
    IsAt a p.point → AllWide (width a) rows → Follows a k p t ss gs → AllHold rows p.point → AllHold (gaps_rows a p.loc t ss (map path_of gs) rows) (place_after a p gs).point
holds_after a k p t [] [] rows wf ok hl at wide f h = h
holds_after a k p t [] (g ∷ gs) rows wf ok hl at wide f h = absurd f
holds_after a k p t (s ∷ ss) [] rows wf ok hl at wide f h = absurd f
holds_after a k p t (s ∷ ss) (g ∷ gs) rows wf ok hl at wide f h =
    let c = f.0 in
    let d : Fraction = difference s.time t in
    let hg : g.start_loc < length a.locations = subst (λ l. l < length a.locations) (sym c.same_loc) hl in
    let path = fits a g.den g.start_loc g.start g.moves g.last c.gap_run.positive c.gap_run.leads in
    let next : List Row = gap_rows a g.start_loc (path_of g) d s.cells rows in
    let are = (ok s (inl refl)).0 in
    let gap_case : IsGapCase a g.start_loc s.cells rows = record { loc = hg; wide = wide; tolerances = are.tolerances; values = are.values; sized = are.sized } in
    let begins : AllHold rows (start_point g) = all_same rows p.point (start_point g) at.positive c.gap_run.positive (sym c.same_point) h in
    let here : AllHold next (end_point g) = (gap_there a wf d s.cells rows g gap_case path (length-same_point (start_point g) p.point c.same_point ∙ at.sized) c.gap_run c.passes begins).1 in
    let rest = holds_after a k (end_of a g) s.time ss gs next wf (λ x j. ok x (inr j)) (end_within a wf g.start_loc (path_of g) hg path)
    (record { positive = c.gap_run.positive; sized = c.passes.sized }) (gap_wide a wf g.start_loc (path_of g) d s.cells rows hg path wide) f.1 here in
    subst (λ l. AllHold (gaps_rows a (end_loc a l (path_of g)) s.time ss (map path_of gs) (gap_rows a l (path_of g) d s.cells rows)) (place_after a (end_of a g) gs).point) c.same_loc rest

pub holds_before : (a : Automaton) (k : ℕ) (p : Place) (t : Fraction) (ss : List Sample) (gs : List GapRun) (i : ℕ) (s : Sample) (g : GapRun) (rows : List Row) → IsWellFormed a → AreSamples a ss →
    p.loc < length a.locations → IsAt a p.point → AllWide (width a) rows → Follows a k p t ss gs → AllHold rows p.point → IsGapAt a k p t ss gs i s g →
    pos 0 <ℤ (place_after a p (take i gs)).point.den → AllHold (rows_before a p t ss gs i rows) (start_point g)
holds_before a k p t ss gs i s g rows wf ok hl at wide f h is hp =
    all_same (rows_before a p t ss gs i rows) (place_after a p (take i gs)).point (start_point g) hp is.continues.gap_run.positive (sym is.continues.same_point)
    (holds_after a k p t (take i ss) (take i gs) rows wf (samples_to a ss i ok) hl at wide (follows_to a k p t ss gs i f) h)

pub place_positive : (a : Automaton) (k : ℕ) (p : Place) (t : Fraction) (ss : List Sample) (gs : List GapRun) → pos 0 <ℤ p.point.den → Follows a k p t ss gs → pos 0 <ℤ (place_after a p gs).point.den
place_positive a k p t [] [] hp f = hp
place_positive a k p t [] (g ∷ gs) hp f = absurd f
place_positive a k p t (s ∷ ss) [] hp f = absurd f
place_positive a k p t (s ∷ ss) (g ∷ gs) hp f = place_positive a k (end_of a g) s.time ss gs f.0.gap_run.positive f.1
