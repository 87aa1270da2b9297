-- The rows after the plain stages of a history hold exactly where runs with this history end, and the last values are picked from them.
use Rattle.std.proofs.Common.{◌≡◌, ◌↔◌, inl, inr, ℕ, suc, ◌<◌, ◌≤◌, List, [], ◌∷◌, ◌++◌, length, map, get_or, IfSome, Some, refl, sym, ◌∙◌, ap, ap₂, subst, arith, pos, ◌<ℤ◌}
use Rattle.std.specs.Prelude.{IsSomeAnd}
use Rattle.std.proofs.lemmas.List.{get_or_append_left, get_or-map}
use Rattle.poly_specs.proofs.IntLemmas.{product_positive}
use Rattle.poly_specs.proofs.LinearLemmas.{SamePoint-trans}
use Rattle.poly_specs.proofs.ColumnLemmas.{coordinates}
use Rattle.run_specs.proofs.StageLemmas.{holds_both}
use Rattle.run_specs.proofs.EndLemmas.{wide_both}
use Rattle.run_specs.proofs.HistorySystems.{AreCells}
use Rattle.run_specs.proofs.StageWidths.{location_is, end_within, gap_wide}
use Rattle.run_specs.proofs.GapEnds.{IsGapCase, gap_there}
use Rattle.run_specs.proofs.GapBack.{gap_back}
use Rattle.run_specs.proofs.OverflowLemmas.{opening_rows_are, starts_within}
use Rattle.run_specs.proofs.MixRuns.{length-same_point, runs_alike}
use Rattle.run_specs.proofs.RunNumbers.{visits_same}
use Rattle.run_specs.proofs.RunEndLemmas.{all_same, IsAt, fits, starts_inside, length_path, run_inside}
use Rattle.run_specs.proofs.PickedLemmas.{length-fractions, picked_numbers}
use Rattle.run_specs.proofs.PickedValues.{zip_at_take, zip_take}
use Rattle.run_specs.proofs.AimLemmas.{gaps_end, last_of}
use Rattle.run_specs.proofs.StateLemmas.{ends_end}
use Rattle.run_specs.proofs.FirstRunExists.{same-through, cells_are, all_in}
use Rattle.poly_specs.specs.Lists.{In}
use Rattle.poly_specs.specs.Fractions.{Fraction, IsFraction, SameFraction, difference, zero_fraction}
use Rattle.poly_specs.specs.Rows.{Point, Row, coordinate, SamePoint, AllHold, AllWide}
use Rattle.poly_specs.specs.Pickings.{IsOpen}
use Rattle.run_specs.specs.Automaton.{Automaton, width, location_at}
use Rattle.run_specs.specs.WellFormed.{IsWellFormed}
use Rattle.run_specs.specs.Logs.{Sample, IsSample, IsLog}
use Rattle.run_specs.specs.Runs.{GapRun, Place, Run, Follows, IsRun, path_of, end_of, end_loc, start_point, end_point}
use Rattle.run_specs.specs.Stages.{rows_after, opening_stage, gap_rows, gaps_rows}
use Rattle.run_specs.specs.Passes.{Fits, AllFit, history_rows}
use Rattle.run_specs.specs.Histories.{History, history_of}
use Rattle.run_specs.specs.Aims.{Aim, IsAimedRun}
use Rattle.run_specs.specs.FirstRun.{last_values, numbers_before, picked, pick_at, IsLeft}
use Rattle.run_specs.specs.RunPasses.{last_picking}
use Rattle.run_specs.specs.StateHistories.{place_after, run_end, EndsRun}

-- ---- equal places

follows_from : (a : Automaton) (k : ℕ) (p r : Place) (t : Fraction) (ss : List Sample) (gs : List GapRun) → p.loc ≡ r.loc → SamePoint p.point r.point → pos 0 <ℤ p.point.den →
    Follows a k p t ss gs → Follows a k r t ss gs
follows_from a k p r t [] [] e same hp f = tt
follows_from a k p r t [] (g ∷ gs) e same hp f = absurd f
follows_from a k p r t (s ∷ ss) [] e same hp f = absurd f
follows_from a k p r t (s ∷ ss) (g ∷ gs) e same hp f =
    let c = f.0 in
    (record { same_loc = c.same_loc ∙ e; same_point = SamePoint-trans (start_point g) p.point r.point hp c.same_point same; few = c.few; gap_run = c.gap_run; passes = c.passes }, f.1)

ends_from : (a : Automaton) (p r : Place) (gs : List GapRun) (q : Point) → SamePoint p.point r.point → pos 0 <ℤ p.point.den → SamePoint (place_after a p gs).point q →
    SamePoint (place_after a r gs).point q
ends_from a p r [] q same hp e = SamePoint-trans r.point p.point q hp (sym same) e
ends_from a p r (g ∷ gs) q same hp e = e

-- ---- gaps

-- the samples' cells and times are as they ought to be
abbrev AreSamples : Automaton → List Sample → Type 0
AreSamples a ss = (s : Sample) → In s ss → AreCells a s.cells × IsFraction s.time

samples_are : (a : Automaton) (log : List Sample) → IsWellFormed a → IsLog (width a) log → AreSamples a log
samples_are a log wf is s i = (cells_are a log wf is s i, (all_in (IsSample (width a)) log is.each s i).time.positive)

-- the rows hold where the first gap run starts; where there is none, at the place itself
abbrev Begins : List Row → Place → List GapRun → Type 0
Begins rows before [] = AllHold rows before.point
Begins rows before (g ∷ gs) = AllHold rows (start_point g)

module _ (a : Automaton) (k : ℕ) (wf : IsWellFormed a) where
  case_of : (l : ℕ) (s : Sample) (rows : List Row) → l < length a.locations → AllWide (width a) rows → AreCells a s.cells → IsGapCase a l s.cells rows
  case_of l s rows hl wide are = record { loc = hl; wide = wide; tolerances = are.tolerances; values = are.values; sized = are.sized }

  begins : (before : Place) (t : Fraction) (ss : List Sample) (gs : List GapRun) (rows : List Row) → pos 0 <ℤ before.point.den → Follows a k before t ss gs → AllHold rows before.point →
      Begins rows before gs
  begins before t ss [] rows hb f h = h
  begins before t [] (g ∷ gs) rows hb f h = absurd f
  begins before t (s ∷ ss) (g ∷ gs) rows hb f h = all_same rows before.point (start_point g) hb f.0.gap_run.positive (sym f.0.same_point) h

  -- the rows after the gaps hold where gap runs lead from where the rows before them hold
  there : (before : Place) (t : Fraction) (ss : List Sample) (gs : List GapRun) (rows : List Row) → AreSamples a ss → before.loc < length a.locations → length before.point.num ≡ width a →
      AllWide (width a) rows → Follows a k before t ss gs → Begins rows before gs → AllHold (gaps_rows a before.loc t ss (map path_of gs) rows) (place_after a before gs).point
  there before t [] [] rows ok hl lb wide f h = h
  there before t [] (g ∷ gs) rows ok hl lb wide f h = absurd f
  there before t (s ∷ ss) [] rows ok hl lb wide f h = absurd f
  there before t (s ∷ ss) (g ∷ gs) rows ok hl lb wide f h =
      let c = f.0 in
      let d : Fraction = difference s.time t in
      let hg : g.start_loc < length a.locations = subst (λ l. l < length a.locations) (sym c.same_loc) hl in
      let path = fits a g.den g.start_loc g.start g.moves g.last c.gap_run.positive c.gap_run.leads in
      let next : List Row = gap_rows a g.start_loc (path_of g) d s.cells rows in
      let here : AllHold next (end_point g) =
      (gap_there a wf d s.cells rows g (case_of g.start_loc s rows hg wide (ok s (inl refl)).0) path (length-same_point (start_point g) before.point c.same_point ∙ lb) c.gap_run c.passes h).1 in
      let rest = there (end_of a g) s.time ss gs next (λ x i. ok x (inr i)) (end_within a wf g.start_loc (path_of g) hg path) c.passes.sized
      (gap_wide a wf g.start_loc (path_of g) d s.cells rows hg path wide) f.1 (begins (end_of a g) s.time ss gs next c.gap_run.positive f.1 here) in
      subst (λ l. AllHold (gaps_rows a (end_loc a l (path_of g)) s.time ss (map path_of gs) (gap_rows a l (path_of g) d s.cells rows)) (place_after a (end_of a g) gs).point) c.same_loc rest

  -- gap runs from a point of the rows in location l along these paths that end at q
  record Arrives (l : ℕ) (t : Fraction) (ss : List Sample) (paths : List (List ℕ)) (rows : List Row) (q : Point) : Type 0 where
    start : Point
    at : IsAt a start
    starts : AllHold rows start
    gaps : List GapRun
    follows : Follows a k (record { loc = l; point = start }) t ss gaps
    paths_are : map path_of gaps ≡ paths
    ends : SamePoint (place_after a (record { loc = l; point = start }) gaps).point q

  back : (l : ℕ) (t : Fraction) (ss : List Sample) (paths : List (List ℕ)) (rows : List Row) (q : Point) → AreSamples a ss → l < length a.locations → AllWide (width a) rows →
      AllFit a k l paths → length paths ≡ length ss → IsFraction t → IsAt a q → AllHold (gaps_rows a l t ss paths rows) q → Arrives l t ss paths rows q
  back l t [] [] rows q ok hl wide fit e ht at h = record { start = q; at = at; starts = h; gaps = []; follows = tt; paths_are = refl; ends = refl }
  back l t [] (path ∷ paths) rows q ok hl wide fit e ht at h = absurd (omega arith)
  back l t (s ∷ ss) [] rows q ok hl wide fit e ht at h = absurd (omega arith)
  back l t (s ∷ ss) (path ∷ paths) rows q ok hl wide fit e ht at h =
      let d : Fraction = difference s.time t in
      let time : IsFraction s.time = (ok s (inl refl)).1 in
      let r = back (end_loc a l path) s.time ss paths (gap_rows a l path d s.cells rows) q (λ x i. ok x (inr i)) (end_within a wf l path hl fit.1)
      (gap_wide a wf l path d s.cells rows hl fit.1 wide) fit.2 (omega arith) time at h in
      let b = gap_back a wf l path d s.cells rows r.start.den r.start.num (case_of l s rows hl wide (ok s (inl refl)).0) (product_positive s.time.den t.den time ht) fit.1
      r.at.positive r.at.sized r.starts in
      let g : GapRun = b.gap in
      let first : Place = record { loc = end_loc a l path; point = r.start } in
      let loc : first.loc ≡ (end_of a g).loc = sym (ap₂ (end_loc a) b.loc b.along) in
      let point : SamePoint r.start (end_point g) = sym b.ends in
      record {
        start = start_point g;
        at = record { positive = b.gap_run.positive; sized = b.sized };
        starts = b.starts;
        gaps = g ∷ r.gaps;
        follows = (
          record { same_loc = b.loc; same_point = refl; few = omega (arith, fit.0, length_path g path b.along); gap_run = b.gap_run; passes = b.passes },
          follows_from a k first (end_of a g) s.time ss r.gaps loc point r.at.positive r.follows,
        );
        paths_are = λ i. b.along i ∷ r.paths_are i;
        ends = ends_from a first (end_of a g) r.gaps q point r.at.positive r.ends;
      }

  -- ---- histories

  -- the rows of the opening are the init rows and the invariant, and have their width
  record IsOpened (l : ℕ) (init : List Row) : Type 0 where
    within : l < length a.locations
    rows : rows_after (opening_stage a l init) ≡ init ++ (location_at a l).invariant
    wide : AllWide (width a) (rows_after (opening_stage a l init))

  opened : (l : ℕ) (init : List Row) → (location_at a l).init ≡ Some init → IsOpened l init
  opened l init e =
      let hl = starts_within a l init e in
      let loc = location_is a wf l hl in
      let wide = wide_both (width a) init (location_at a l).invariant (subst (λ o. IfSome o (AllWide (width a))) e loc.init) loc.invariant in
      let rows = opening_rows_are a l init wide in
      record { within = hl; rows = rows; wide = subst (AllWide (width a)) (sym rows) wide }

  ends_hold : (log : List Sample) (run : Run) (init : List Row) → AreSamples a log → 0 < length log → IsRun a k log run → (location_at a run.start.loc).init ≡ Some init →
      AllHold (history_rows a log run.start.loc (map path_of run.gaps) init) (run_end a run).point
  ends_hold log run init ok some is e =
      let o = opened run.start.loc init e in
      there run.start zero_fraction log run.gaps (rows_after (opening_stage a run.start.loc init)) ok o.within is.starts.sized o.wide is.follows (first log run.gaps some is.follows)
    where
      first : (ss : List Sample) (gs : List GapRun) → 0 < length ss → Follows a k run.start zero_fraction ss gs → Begins (rows_after (opening_stage a run.start.loc init)) run.start gs
      first [] gs h f = absurd (omega arith)
      first (s ∷ ss) [] h f = absurd f
      first (s ∷ ss) (g ∷ gs) h f =
          let c = f.0 in
          let inside : List Row = (location_at a run.start.loc).invariant in
          let allowed : AllHold init run.start.point = subst (λ o. IsSomeAnd o (λ rows. AllHold rows run.start.point)) e is.starts.allowed in
          let one = all_same init run.start.point (start_point g) is.starts.positive c.gap_run.positive (sym c.same_point) allowed in
          let two = subst (λ l. AllHold (location_at a l).invariant (start_point g)) c.same_loc (starts_inside a g.den g.start_loc g.start g.moves g.last c.gap_run.leads) in
          subst (λ rows. AllHold rows (start_point g)) (sym (opened run.start.loc init e).rows) ((holds_both init inside (start_point g)).1 (one, two))

  ends_back : (log : List Sample) (h : History) (init : List Row) (q : Point) → AreSamples a log → length h.paths ≡ length log → AllFit a k h.start h.paths →
      (location_at a h.start).init ≡ Some init → IsAt a q → AllHold (history_rows a log h.start h.paths init) q → (run : Run) × EndsRun a k log h q run
  ends_back log h init q ok many fit e at holds =
      let o = opened h.start init e in
      let r = back h.start zero_fraction log h.paths (rows_after (opening_stage a h.start init)) q ok o.within o.wide fit many (record { lt = tt }) at holds in
      let begin = (holds_both init (location_at a h.start).invariant r.start).0 (subst (λ rows. AllHold rows r.start) o.rows r.starts) in (
        record { start = record { loc = h.start; point = r.start }; gaps = r.gaps },
        record {
          run_of = record {
            starts = record {
              positive = r.at.positive;
              sized = r.at.sized;
              allowed = subst (λ o. IsSomeAnd o (λ rows. AllHold rows r.start)) (sym e) begin.0;
            };
            follows = r.follows;
          };
          along = λ i. record { start = h.start; paths = r.paths_are i };
          ends = r.ends;
        },
      )

pub history_exact : (a : Automaton) (k : ℕ) (log : List Sample) (h : History) (init : List Row) (q : Point) → IsWellFormed a → IsLog (width a) log → 0 < length log →
    length h.paths ≡ length log → AllFit a k h.start h.paths → (location_at a h.start).init ≡ Some init → pos 0 <ℤ q.den → length q.num ≡ width a →
    AllHold (history_rows a log h.start h.paths init) q ↔ ((run : Run) × EndsRun a k log h q run)
history_exact a k log h init q wf is some many fit e hq lq =
    let ok = samples_are a log wf is in (
      λ holds. ends_back a k wf log h init q ok many fit e (record { positive = hq; sized = lq }) holds,
      λ ends.
          let (run, r) = ends in
          let start : (location_at a run.start.loc).init ≡ Some init = ap (λ (x : History). (location_at a x.start).init) r.along ∙ e in
          let there = ends_hold a k wf log run init ok some r.run_of start in
          let at = (run_inside a k log run some r.run_of).at in
          all_same (history_rows a log h.start h.paths init) (run_end a run).point q at.positive hq r.ends
          (subst (λ (x : History). AllHold (history_rows a log x.start x.paths init) (run_end a run).point) r.along there),
    )

-- ---- the last values

-- a last value of a run is a coordinate of its end
record HasLast (a : Automaton) (run : Run) : Type 0 where
  long : length (last_values run.gaps) ≡ width a
  first : (j : ℕ) → j < width a → pick_at j run ≡ get_or (last_values run.gaps) j zero_fraction
  value : (j : ℕ) → j < width a → pick_at j run ≡ coordinate j (run_end a run).point

has_last : (a : Automaton) (k : ℕ) (log : List Sample) (run : Run) → (run.gaps ≡ [] → ⊥) → IsRun a k log run → HasLast a run
has_last a k log run some is =
    let (g, l) = last_of a k run.start zero_fraction log run.gaps some is.follows in
    let long : length (last_values run.gaps) ≡ width a = ap length l.values ∙ length-fractions g.den g.last.at_end ∙ l.sized in
    let first : (j : ℕ) → j < width a → pick_at j run ≡ get_or (last_values run.gaps) j zero_fraction =
    λ j h. get_or_append_left (last_values run.gaps) (numbers_before run.gaps) zero_fraction j (subst (λ n. j < n) (sym long) h) in
    let end : end_point g ≡ (run_end a run).point = sym (ap (λ (p : Place). p.point) (l.place run.start)) in
    record {
      long = long;
      first = first;
      value = λ j h.
          first j h ∙ ap (λ fs. get_or fs j zero_fraction) l.values
          ∙ get_or-map (λ n. record { num = n; den = g.den }) g.last.at_end j (pos 0) zero_fraction (subst (λ n. j < n) (sym l.sized) h) ∙ ap (coordinate j) end;
    }

some_samples : (a : Automaton) (k : ℕ) (before : Place) (t : Fraction) (log : List Sample) (gs : List GapRun) → (gs ≡ [] → ⊥) → Follows a k before t log gs → 0 < length log
some_samples a k before t [] [] some f = absurd (some refl)
some_samples a k before t [] (g ∷ gs) some f = absurd f
some_samples a k before t (s ∷ ss) gs some f = omega arith

paths_many : (a : Automaton) (k : ℕ) (before : Place) (t : Fraction) (log : List Sample) (gs : List GapRun) → Follows a k before t log gs →
    (length (map path_of gs) ≡ length log) × AllFit a k before.loc (map path_of gs)
paths_many a k before t [] [] f = (refl, tt)
paths_many a k before t [] (g ∷ gs) f = absurd f
paths_many a k before t (s ∷ ss) [] f = absurd f
paths_many a k before t (s ∷ ss) (g ∷ gs) f =
    let c = f.0 in
    let r = paths_many a k (end_of a g) s.time ss gs f.1 in
    let few : length (path_of g) ≤ k = omega (arith, c.few, length_path g (path_of g) refl) in
    let path = fits a g.den g.start_loc g.start g.moves g.last c.gap_run.positive c.gap_run.leads in
    (ap suc r.0, subst (λ l. (length (path_of g) ≤ k) × Fits a l (path_of g) × AllFit a k (end_loc a l (path_of g)) (map path_of gs)) c.same_loc (few, path, r.1))

module _ (a : Automaton) (k : ℕ) (log : List Sample) (aim : Aim) (run : Run) (init : List Row) (wf : IsWellFormed a) (is : IsLog (width a) log) (aimed : IsAimedRun a k log aim run)
    (e : (location_at a run.start.loc).init ≡ Some init) where
  some_run : run.gaps ≡ [] → ⊥
  some_run = gaps_end aim.rows run.gaps aimed.meets.ends

  some_log : 0 < length log
  some_log = some_samples a k run.start zero_fraction log run.gaps some_run aimed.run_of.follows

  own : HasLast a run
  own = has_last a k log run some_run aimed.run_of

  -- the rows of the last state
  abbrev last_rows : List Row
  last_rows = history_rows a log run.start.loc (map path_of run.gaps) init

  open_there : (i : ℕ) (v : Fraction) → i < width a → IsLeft a k log aim run i v → IsOpen (last_picking a log run init aim.rows) i v
  open_there i v hi (other, t) =
      let at = (run_inside a k log other some_log t.aimed.run_of).at in
      let q : Point = (run_end a other).point in
      let last = has_last a k log other (gaps_end aim.rows other.gaps t.aimed.meets.ends) t.aimed.run_of in
      let start : (location_at a other.start.loc).init ≡ Some init = ap (λ (x : History). (location_at a x.start).init) t.same_history ∙ e in
      let rows : AllHold last_rows q = subst (λ (x : History). AllHold (history_rows a log x.start x.paths init) q) t.same_history
      (ends_hold a k wf log other init (samples_are a log wf is) some_log t.aimed.run_of start) in
      let more : AllHold aim.rows q = (ends_end a k log other aim.rows some_log t.aimed.run_of).0 t.aimed.meets.ends in (
        q,
        record {
          point = record { positive = at.positive; sized = at.sized ∙ sym own.long; holds = (holds_both last_rows aim.rows q).1 (rows, more) };
          agrees = λ j hj.
              let jn : j < width a = omega (arith, hj, hi) in
              subst (λ x. SameFraction x (get_or (last_values run.gaps) j zero_fraction)) (last.value j jn)
              (subst (SameFraction (pick_at j other)) (own.first j jn) (zip_at_take i j (picked other) (picked run) hj t.same_numbers));
          value = subst (λ x. SameFraction x v) (last.value i hi) t.value;
        },
      )

  left_there : (i : ℕ) (v : Fraction) → i < width a → IsOpen (last_picking a log run init aim.rows) i v → IsLeft a k log aim run i v
  left_there i v hi (q, c) =
      let many = paths_many a k run.start zero_fraction log run.gaps aimed.run_of.follows in
      let both = (holds_both last_rows aim.rows q).0 c.point.holds in
      let point : IsAt a q = record { positive = c.point.positive; sized = c.point.sized ∙ own.long } in
      let (other, r) = ends_back a k wf log (history_of run) init q (samples_are a log wf is) many.0 many.1 e point both.0 in
      let at = (run_inside a k log other some_log r.run_of).at in
      let there : AllHold aim.rows (run_end a other).point = all_same aim.rows q (run_end a other).point point.positive at.positive (sym r.ends) both.1 in
      let ends = (ends_end a k log other aim.rows some_log r.run_of).1 there in
      let last = has_last a k log other (gaps_end aim.rows other.gaps ends) r.run_of in
      let same : (j : ℕ) → j < width a → SameFraction (pick_at j other) (coordinate j q) =
      λ j h. subst (λ x. SameFraction x (coordinate j q)) (sym (last.value j h)) (coordinates (run_end a other).point q r.ends j) in (
        other,
        record {
          aimed = record { run_of = r.run_of; meets = record { visits = λ t. visits_same a k log run other (sym r.along) aimed.run_of r.run_of (aimed.meets.visits t); ends = ends } };
          same_history = r.along;
          same_numbers = zip_take i (picked other) (picked run) (picked_numbers a (pos 1) (pos 1) other run (runs_alike a k log other run r.along r.run_of aimed.run_of)).long
              (λ j hj lt.
              let jn : j < width a = omega (arith, hj, hi) in
              same-through (pick_at j other) (coordinate j q) (pick_at j run) point.positive (same j jn) (subst (SameFraction (coordinate j q)) (sym (own.first j jn)) (c.agrees j hj)));
          value = same-through (pick_at i other) (coordinate i q) v point.positive (same i hi) c.value;
        },
      )

pub last_open : (a : Automaton) (k : ℕ) (log : List Sample) (aim : Aim) (run : Run) (init : List Row) (i : ℕ) (v : Fraction) → IsWellFormed a → IsLog (width a) log →
    IsAimedRun a k log aim run → (location_at a run.start.loc).init ≡ Some init → i < width a → IsLeft a k log aim run i v ↔ IsOpen (last_picking a log run init aim.rows) i v
last_open a k log aim run init i v wf is aimed e hi = (open_there a k log aim run init wf is aimed e i v hi, left_there a k log aim run init wf is aimed e i v hi)
