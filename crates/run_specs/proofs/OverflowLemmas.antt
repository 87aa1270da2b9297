-- Where an entry of a session passes, so does its log: each state stands in a history of the log whose stages have points.
use Rattle.std.proofs.Common.{◌≡◌, inl, inr, ℕ, ◌+◌, ◌<◌, take_all, IfSome, List, [], ◌∷◌, ◌++◌, append_assoc, length, map, take, Option, Some, None, refl, sym, ◌∙◌, ap, ap₂, subst, arith, ℤ}
use Rattle.std.specs.Prelude.{IsSomeAnd}
use Rattle.std.specs.List.{flat_map}
use Rattle.std.proofs.lemmas.Bool.{cases_lt}
use Rattle.std.proofs.lemmas.List.{get_or_past}
use Rattle.std.proofs.lemmas.List.Elements.{All-head, All-tail}
use Rattle.run_specs.proofs.PassesLemmas.{gap_more}
use Rattle.run_specs.proofs.EndLemmas.{wide_both}
use Rattle.run_specs.proofs.RunEndLemmas.{all_same}
use Rattle.run_specs.proofs.StateHistoryLemmas.{in_at}
use Rattle.run_specs.proofs.ScaledRows.{at_most-lowest, at_least-lowest}
use Rattle.run_specs.proofs.StageWidths.{location_is, end_within, gap_wide}
use Rattle.run_specs.specs.PlainHistories.{AllReached}
use Rattle.run_specs.proofs.GapEnds.{IsGapCase, reached_then, gap_there}
use Rattle.run_specs.proofs.GapPasses.{IsWithin, IsReduced, gap_passes}
use Rattle.poly_specs.specs.Lists.{In, IsAmong}
use Rattle.poly_specs.specs.Fractions.{Fraction, IsFraction, difference, zero_fraction}
use Rattle.poly_specs.specs.Arithmetic.{lowest}
use Rattle.poly_specs.specs.LowestTerms.{IsLowest}
use Rattle.poly_specs.specs.Rows.{Point, Row, AllHold, AllWide, HasPoint}
use Rattle.run_specs.specs.Automaton.{Automaton, width, nowhere, location_at}
use Rattle.run_specs.specs.WellFormed.{IsWellFormed}
use Rattle.run_specs.specs.Logs.{Sample}
use Rattle.run_specs.specs.Runs.{path_of, end_point, start_point}
use Rattle.poly_specs.specs.Columns.{cut}
use Rattle.run_specs.specs.Stages.{Stage, SomeReachedPasses, rows_after, opening_stage, seen_rows, below, sample_stage, path_rows, path_stages, gap_start, gap_rows, gap_stages, gaps_stages}
use Rattle.run_specs.specs.Passes.{Fits, AllFit, LogPasses, history_stages}
use Rattle.run_specs.specs.Keys.{State, Key, IsKey, no_state, parent_at}
use Rattle.run_specs.specs.Outcomes.{Item, IsItem, IsEnd, AreExact, KeyPasses}
use Rattle.run_specs.specs.Openings.{AreOpening, IsOpeningState}
use Rattle.run_specs.specs.SessionHistories.{states}

in_states : (items : List Item) (x : State) → In x (states items) → (y : Item) × In y items × (x ≡ y.state)
in_states [] x h = absurd h
in_states (y ∷ items) x (inl e) = (y, inl refl, e)
in_states (y ∷ items) x (inr h) = let (z, i, e) = in_states items x h in (z, inr i, e)

-- ---- a gap's length in lowest terms has the stages of the length

lowest_stage : (a : Automaton) (v : Fraction) (cells : List (Option Fraction)) (rows : List Row) → IsFraction v → sample_stage a (lowest v) cells rows ≡ sample_stage a v cells rows
lowest_stage a v cells rows hv =
    ap₂ (λ (low up : Row). record (sample_stage a v cells rows) { rows = rows ++ low ∷ up ∷ flat_map (seen_rows a cells) (below (width a)) })
    (at_most-lowest (width a + 1) (width a) v (omega arith) hv) (at_least-lowest (width a + 1) (width a) v (omega arith) hv)

lowest_rows : (a : Automaton) (l : ℕ) (path : List ℕ) (v : Fraction) (cells : List (Option Fraction)) (rows : List Row) → IsFraction v →
    gap_rows a l path (lowest v) cells rows ≡ gap_rows a l path v cells rows
lowest_rows a l path v cells rows hv = ap rows_after (lowest_stage a v cells (path_rows a l path (gap_start (width a) rows)) hv)

lowest_stages : (a : Automaton) (l : ℕ) (path : List ℕ) (v : Fraction) (cells : List (Option Fraction)) (rows : List Row) → IsFraction v →
    gap_stages a l path (lowest v) cells rows ≡ gap_stages a l path v cells rows
lowest_stages a l path v cells rows hv =
    ap (λ s. path_stages a l path (gap_start (width a) rows) ++ s ∷ []) (lowest_stage a v cells (path_rows a l path (gap_start (width a) rows)) hv)

-- ---- states in histories

-- these plain rows are those of a history of the log up to time t that leads to the state; what passes in a gap later passes for the log
pub record IsHistoryOf (a : Automaton) (k : ℕ) (before : List Sample) (t : Fraction) (x : State) (rows : List Row) : Type 0 where
  pub loc : x.loc < length a.locations
  pub among : IsAmong x.rows rows
  pub within : IsWithin (width a) x.rows rows
  pub wide : AllWide (width a) rows
  pub goes_on : (later : List Sample) (paths : List (List ℕ)) → length paths ≡ length later → AllFit a k x.loc paths →
      SomeReachedPasses (gaps_stages a x.loc t later paths rows) → LogPasses a k (before ++ later)

-- each state has such a history
abbrev pub HaveHistories : Automaton → ℕ → List Sample → Fraction → List State → Type 0
HaveHistories a k before t belief = (x : State) → In x belief → (rows : List Row) × IsHistoryOf a k before t x rows

-- ---- the opening

cut_same : (n : ℕ) (rows : List Row) → AllWide n rows → map (cut n) (rows ++ []) ≡ rows
cut_same n [] wide = refl
cut_same n (r ∷ rows) wide =
    let same : take n r.coef ≡ r.coef = take_all n r.coef (omega (arith, All-head (λ (s : Row). length s.coef ≡ n) r rows wide)) in
    ap₂ (λ (cs : List ℤ) (ss : List Row). record r { coef = cs } ∷ ss) same (cut_same n rows (All-tail (λ (s : Row). length s.coef ≡ n) r rows wide))

pub opening_rows_are : (a : Automaton) (l : ℕ) (init : List Row) → AllWide (width a) (init ++ (location_at a l).invariant) →
    rows_after (opening_stage a l init) ≡ init ++ (location_at a l).invariant
unfolding rows_after
opening_rows_are a l init wide = cut_same (width a) (init ++ (location_at a l).invariant) wide

-- a location where runs start is one of the automaton
pub starts_within : (a : Automaton) (l : ℕ) (init : List Row) → (location_at a l).init ≡ Some init → l < length a.locations
starts_within a l init e = elim (cases_lt l (length a.locations)) [
  | inl lt ↦ lt
  | inr ge ↦ absurd (let none = get_or_past a.locations l nowhere ge in let n : (location_at a l).init ≡ None = ap (λ x. x.init) none in let f : ⊥ = cc in f)
]

pub opening_histories : (a : Automaton) (k : ℕ) (belief : List State) → IsWellFormed a → AreOpening a belief → HaveHistories a k [] zero_fraction belief
opening_histories a k belief wf is x i = go (location_at a x.loc).init refl (is.each x i)
  where
    go : (o : Option (List Row)) → (location_at a x.loc).init ≡ o → IsSomeAnd (elim o as (λ _. Option (List Row)) [ None ↦ None | Some init ↦ Some (init ++ (location_at a x.loc).invariant) ]) (λ rows. IsOpeningState (width a) rows x) →
        (rows : List Row) × IsHistoryOf a k [] zero_fraction x rows
    go None e s = absurd s
    go (Some init) e s =
        let inside : List Row = (location_at a x.loc).invariant in
        let hl : x.loc < length a.locations = starts_within a x.loc init e in
        let loc = location_is a wf x.loc hl in
        let wide_init : AllWide (width a) init = subst (λ o. IfSome o (AllWide (width a))) e loc.init in
        let wide : AllWide (width a) (init ++ inside) = wide_both (width a) init inside wide_init loc.invariant in
        let same : init ++ inside ≡ rows_after (opening_stage a x.loc init) = sym (opening_rows_are a x.loc init wide) in (
          rows_after (opening_stage a x.loc init),
          record {
            loc = hl;
            among = subst (λ rows. IsAmong x.rows rows) same s.plain;
            within = λ q hq lq h. subst (λ rows. AllHold rows q) same ((s.same q hq lq).0 h);
            wide = subst (AllWide (width a)) same wide;
            goes_on = λ later paths n fit h. (
              x.loc,
              paths,
              record {
                one_for_each_gap = n;
                fit = fit;
                passes = subst (λ o. IsSomeAnd o (λ init. SomeReachedPasses (history_stages a later x.loc paths init))) (sym e)
                    (inr (subst (HasPoint (width a)) same s.some_point, h));
              },
            );
          },
        )

-- ---- a gap

-- what a gap's key says of its sample and the time before
pub record IsGapOf (t : Fraction) (s : Sample) (key : Key) : Type 0 where
  pub gap : key.gap ≡ lowest (difference s.time t)
  pub duration : IsFraction (difference s.time t)
  pub seen : key.seen ≡ s.cells

pub key_case : (key : Key) (l : ℕ) (rows : List Row) → IsWellFormed key.automaton → IsKey key → l < length key.automaton.locations → AllWide (width key.automaton) rows →
    IsGapCase key.automaton l key.seen rows
key_case key l rows wf is hl wide = record {
  loc = hl;
  wide = wide;
  tolerances = λ j. elim (cases_lt j (length key.automaton.obs)) [
    | inl lt ↦ (wf.tolerances.1 j zero_fraction lt).0.positive
    | inr ge ↦ subst IsFraction (sym (get_or_past key.automaton.obs j zero_fraction ge)) (record { lt = tt })
  ];
  values = λ j x e. elim (cases_lt j (length key.seen)) [
    | inl lt ↦ (subst (λ (o : Option Fraction). IfSome o IsLowest) e (is.seen j None lt)).positive
    | inr ge ↦ absurd (let n = get_or_past key.seen j None ge in let f : ⊥ = cc in f)
  ];
  sized = is.sized;
}

pub key_rows : (t : Fraction) (s : Sample) (key : Key) (l : ℕ) (path : List ℕ) (rows : List Row) → IsGapOf t s key →
    gap_rows key.automaton l path key.gap key.seen rows ≡ gap_rows key.automaton l path (difference s.time t) s.cells rows
key_rows t s key l path rows is =
    ap₂ (λ v cells. gap_rows key.automaton l path v cells rows) is.gap is.seen ∙ lowest_rows key.automaton l path (difference s.time t) s.cells rows is.duration

pub key_stages : (t : Fraction) (s : Sample) (key : Key) (l : ℕ) (path : List ℕ) (rows : List Row) → IsGapOf t s key →
    gap_stages key.automaton l path key.gap key.seen rows ≡ gap_stages key.automaton l path (difference s.time t) s.cells rows
key_stages t s key l path rows is =
    ap₂ (λ v cells. gap_stages key.automaton l path v cells rows) is.gap is.seen ∙ lowest_stages key.automaton l path (difference s.time t) s.cells rows is.duration

-- an end along a path from a state, from plain rows of a history of the state
pub end_there : (key : Key) (i : ℕ) (path : List ℕ) (rows : List Row) (q : Point) → IsWellFormed key.automaton → IsKey key → (parent_at key i).loc < length key.automaton.locations →
    Fits key.automaton (parent_at key i).loc path → AllWide (width key.automaton) rows → IsWithin (width key.automaton) (parent_at key i).rows rows → IsEnd key i path q →
    AllReached (gap_stages key.automaton (parent_at key i).loc path key.gap key.seen rows) × AllHold (gap_rows key.automaton (parent_at key i).loc path key.gap key.seen rows) q
end_there key i path rows q wf is hl fits wide within end =
    let a : Automaton = key.automaton in
    let (g, l) = end.reached in
    let here : IsGapCase a g.start_loc key.seen rows = subst (λ j. IsGapCase a j key.seen rows) (sym l.same_loc) (key_case key (parent_at key i).loc rows wf is hl wide) in
    let fits_here : Fits a g.start_loc (path_of g) = subst (λ j. Fits a j (path_of g)) (sym l.same_loc) (subst (λ p. Fits a (parent_at key i).loc p) (sym l.along) fits) in
    let h = gap_there a wf key.gap key.seen rows g here fits_here l.sized l.gap_run l.passes (within (start_point g) l.gap_run.positive l.sized l.allowed) in
    let ends = all_same (gap_rows a g.start_loc (path_of g) key.gap key.seen rows) (end_point g) q l.gap_run.positive end.positive l.same_point h.1 in (
      subst (λ j. AllReached (gap_stages a j path key.gap key.seen rows)) l.same_loc (subst (λ p. AllReached (gap_stages a g.start_loc p key.gap key.seen rows)) l.along h.0),
      subst (λ j. AllHold (gap_rows a j path key.gap key.seen rows) q) l.same_loc (subst (λ p. AllHold (gap_rows a g.start_loc p key.gap key.seen rows) q) l.along ends),
    )

item_history : (before : List Sample) (t : Fraction) (s : Sample) (key : Key) (y : Item) (rows : List Row) → IsWellFormed key.automaton → IsKey key → IsGapOf t s key → IsItem key y →
    IsHistoryOf key.automaton key.jumps before t (parent_at key y.parent) rows →
    IsHistoryOf key.automaton key.jumps (before ++ s ∷ []) s.time y.state (gap_rows key.automaton (parent_at key y.parent).loc y.path (difference s.time t) s.cells rows)
item_history before t s key y rows wf is gap item old =
    let a : Automaton = key.automaton in
    let p : State = parent_at key y.parent in
    let fits : Fits a p.loc y.path = item.may_take.fits in
    let same = key_rows t s key p.loc y.path rows gap in
    let (q, some) = item.some_end in
    let reached : AllReached (gap_stages a p.loc y.path (difference s.time t) s.cells rows) =
    subst AllReached (key_stages t s key p.loc y.path rows gap) (end_there key y.parent y.path rows q wf is old.loc fits old.wide old.within some).0 in
    record {
      loc = subst (λ l. l < length a.locations) (sym item.loc) (end_within a wf p.loc y.path old.loc fits);
      among = λ r i. subst (λ rs. In r rs) same (gap_more a p.loc y.path key.gap key.seen p.rows rows old.among r (item.plain r i));
      within = λ q hq lq h. subst (λ rs. AllHold rs q) same (end_there key y.parent y.path rows q wf is old.loc fits old.wide old.within ((item.ends q hq lq).0 h)).1;
      wide = gap_wide a wf p.loc y.path (difference s.time t) s.cells rows old.loc fits old.wide;
      goes_on = λ later paths n fit h.
          let fit_all : AllFit a key.jumps p.loc (y.path ∷ paths) = (item.may_take.few, fits, subst (λ l. AllFit a key.jumps l paths) item.loc fit) in
          let stages : SomeReachedPasses (gaps_stages a p.loc t (s ∷ later) (y.path ∷ paths) rows) =
          reached_then (gap_stages a p.loc y.path (difference s.time t) s.cells rows) _ reached
          (subst (λ l. SomeReachedPasses (gaps_stages a l s.time later paths (gap_rows a p.loc y.path (difference s.time t) s.cells rows))) item.loc h) in
          subst (LogPasses a key.jumps) (sym (append_assoc before (s ∷ []) later)) (old.goes_on (s ∷ later) (y.path ∷ paths) (omega (arith, n)) fit_all stages);
    }

pub items_histories : (before : List Sample) (t : Fraction) (s : Sample) (key : Key) (items : List Item) → IsWellFormed key.automaton → IsKey key → IsGapOf t s key → AreExact key items →
    HaveHistories key.automaton key.jumps before t key.belief → HaveHistories key.automaton key.jumps (before ++ s ∷ []) s.time (states items)
items_histories before t s key items wf is gap exact old x i =
    let (y, iy, e) = in_states items x i in
    let item = exact.each y iy in
    let (rows, h) = old (parent_at key y.parent) (in_at key.belief y.parent item.may_take.parent) in (
      gap_rows key.automaton (parent_at key y.parent).loc y.path (difference s.time t) s.cells rows,
      subst (λ z. IsHistoryOf key.automaton key.jumps (before ++ s ∷ []) s.time z (gap_rows key.automaton (parent_at key y.parent).loc y.path (difference s.time t) s.cells rows)) (sym e)
          (item_history before t s key y rows wf is gap item h),
    )

-- ---- an entry that passed

reached_first : (xs ys : List Stage) → SomeReachedPasses xs → SomeReachedPasses (xs ++ ys)
reached_first [] ys h = absurd h
reached_first (x ∷ xs) ys (inl p) = inl p
reached_first (x ∷ xs) ys (inr h) = inr (h.0, reached_first xs ys h.1)

pub key_passes : (before : List Sample) (t : Fraction) (s : Sample) (key : Key) → IsWellFormed key.automaton → IsKey key → IsGapOf t s key → KeyPasses key →
    HaveHistories key.automaton key.jumps before t key.belief → LogPasses key.automaton key.jumps (before ++ s ∷ [])
key_passes before t s key wf is gap (i, path, passes) old =
    let a : Automaton = key.automaton in
    let p : State = parent_at key i in
    let take = passes.may_take in
    let (rows, h) = old p (in_at key.belief i take.parent) in
    let reduced : IsReduced (width a) p.rows rows = record { among = h.among; within = h.within; wide = (is.belief i no_state take.parent).wide; more_wide = h.wide } in
    let there = gap_passes a wf p.loc path key.gap key.seen p.rows rows h.loc take.fits reduced passes.passes in
    h.goes_on (s ∷ []) (path ∷ []) refl (take.few, take.fits, tt)
    (reached_first (gap_stages a p.loc path (difference s.time t) s.cells rows) [] (subst SomeReachedPasses (key_stages t s key p.loc path rows gap) there))
