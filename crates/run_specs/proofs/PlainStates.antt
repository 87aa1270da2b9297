-- Each state stands in its history: the stages of the history have points, and the state's rows are among those after them.
use Rattle.std.proofs.Common.{◌≡◌, ℕ, zero, suc, ◌<◌, ◌≤◌, IfSome, List, [], ◌∷◌, ◌++◌, append_assoc, append-nil, length, length-append, take, Option, Some, None, refl, sym, ◌∙◌, ap, subst, arith}
use Rattle.std.specs.Prelude.{All, IsSomeAnd, slice_index_or}
use Rattle.std.proofs.lemmas.List.{get_or-map}
use Rattle.std.proofs.lemmas.List.Elements.{All-head, All-tail}
use Rattle.poly_specs.proofs.IntLemmas.{product_positive}
use Rattle.poly_specs.proofs.EliminationLemmas.{AllHold-at_in, AllHold-from_in}
use Rattle.run_specs.proofs.SessionLemmas.{last_from}
use Rattle.run_specs.proofs.RunEndLemmas.{last_from-append}
use Rattle.run_specs.proofs.PassesLemmas.{gap_more}
use Rattle.run_specs.proofs.EndLemmas.{wide_both}
use Rattle.run_specs.proofs.HistoryLogLemmas.{HasLog}
use Rattle.run_specs.proofs.StateHistoryLemmas.{in_at, item_number}
use Rattle.run_specs.proofs.StageWidths.{location_is, end_within, gap_wide}
use Rattle.run_specs.proofs.GapEnds.{reached_both}
use Rattle.run_specs.proofs.GapPasses.{IsWithin}
use Rattle.run_specs.proofs.OverflowLemmas.{IsGapOf, opening_rows_are, starts_within, key_rows, key_stages, end_there}
use Rattle.poly_specs.specs.Lists.{In, IsAmong}
use Rattle.poly_specs.specs.Fractions.{Fraction, IsFraction, difference, zero_fraction}
use Rattle.poly_specs.specs.Rows.{Row, AllHold, AllWide, HasPoint}
use Rattle.run_specs.specs.Automaton.{Automaton, width, location_at}
use Rattle.run_specs.specs.WellFormed.{IsWellFormed}
use Rattle.run_specs.specs.Logs.{Sample, IsSample}
use Rattle.run_specs.specs.Runs.{end_loc}
use Rattle.run_specs.specs.Stages.{Stage, rows_after, opening_stage, gap_rows, gap_stages, gaps_rows, gaps_stages}
use Rattle.run_specs.specs.Passes.{Fits, AllFit, history_stages, history_rows}
use Rattle.run_specs.specs.Histories.{History}
use Rattle.run_specs.specs.Keys.{State, Key, IsKey, no_state, parent_at}
use Rattle.run_specs.specs.Outcomes.{Item, Outcome, Next, Passed, AreExact, IsExact}
use Rattle.run_specs.specs.Openings.{AreOpening, IsOpening, IsOpeningState}
use Rattle.run_specs.specs.SessionHistories.{Entry, SessionHistory, AreLinked, states, states_left, opening_states, belief_after}
use Rattle.run_specs.specs.Sessions.{AreEntriesOf}
use Rattle.run_specs.specs.StateHistories.{no_history, opening_histories, followed, item_histories, histories_left, histories_after, states_at, history_at, state_at}
use Rattle.run_specs.specs.PlainHistories.{AllReached, HasPlainRows, IsPlainState}

-- ---- one gap more

-- where the last of these paths ends
abbrev pub last_loc : Automaton → ℕ → List (List ℕ) → ℕ
last_loc a l [] = l
last_loc a l (path ∷ paths) = last_loc a (end_loc a l path) paths

last_loc-append : (a : Automaton) (l : ℕ) (paths : List (List ℕ)) (path : List ℕ) → last_loc a l (paths ++ path ∷ []) ≡ end_loc a (last_loc a l paths) path
last_loc-append a l [] path = refl
last_loc-append a l (p ∷ paths) path = last_loc-append a (end_loc a l p) paths path

fit-append : (a : Automaton) (k l : ℕ) (paths : List (List ℕ)) (path : List ℕ) → AllFit a k l paths → length path ≤ k → Fits a (last_loc a l paths) path →
    AllFit a k l (paths ++ path ∷ [])
fit-append a k l [] path h few fits = (few, fits, tt)
fit-append a k l (p ∷ paths) path h few fits = (h.0, h.1, fit-append a k (end_loc a l p) paths path h.2 few fits)

rows-append : (a : Automaton) (l : ℕ) (t : Fraction) (ss : List Sample) (s : Sample) (paths : List (List ℕ)) (path : List ℕ) (rows : List Row) → length paths ≡ length ss →
    gaps_rows a l t (ss ++ s ∷ []) (paths ++ path ∷ []) rows
    ≡ gap_rows a (last_loc a l paths) path (difference s.time (last_from t ss)) s.cells (gaps_rows a l t ss paths rows)
rows-append a l t [] s [] path rows e = refl
rows-append a l t [] s (p ∷ paths) path rows e = absurd (omega arith)
rows-append a l t (x ∷ ss) s [] path rows e = absurd (omega arith)
rows-append a l t (x ∷ ss) s (p ∷ paths) path rows e =
    rows-append a (end_loc a l p) x.time ss s paths path (gap_rows a l p (difference x.time t) x.cells rows) (omega arith)

reached_parts : (xs ys : List Stage) → AllReached (xs ++ ys) → AllReached xs × AllReached ys
reached_parts [] ys h = (tt, h)
reached_parts (x ∷ xs) ys h = let r = reached_parts xs ys h.1 in ((h.0, r.0), r.1)

stages-append : (a : Automaton) (l : ℕ) (t : Fraction) (ss : List Sample) (s : Sample) (paths : List (List ℕ)) (path : List ℕ) (rows : List Row) → length paths ≡ length ss →
    AllReached (gaps_stages a l t ss paths rows) →
    AllReached (gap_stages a (last_loc a l paths) path (difference s.time (last_from t ss)) s.cells (gaps_rows a l t ss paths rows)) →
    AllReached (gaps_stages a l t (ss ++ s ∷ []) (paths ++ path ∷ []) rows)
stages-append a l t [] s [] path rows e h g = reached_both (gap_stages a l path (difference s.time t) s.cells rows) [] g tt
stages-append a l t [] s (p ∷ paths) path rows e h g = absurd (omega arith)
stages-append a l t (x ∷ ss) s [] path rows e h g = absurd (omega arith)
stages-append a l t (x ∷ ss) s (p ∷ paths) path rows e h g =
    let here : List Stage = gap_stages a l p (difference x.time t) x.cells rows in
    let next : List Row = gap_rows a l p (difference x.time t) x.cells rows in
    let parts = reached_parts here (gaps_stages a (end_loc a l p) x.time ss paths next) h in
    reached_both here (gaps_stages a (end_loc a l p) x.time (ss ++ s ∷ []) (paths ++ path ∷ []) next) parts.0
    (stages-append a (end_loc a l p) x.time ss s paths path next (omega arith) parts.1 g)

-- ---- states in their histories

-- the plain rows of a history with these init rows
abbrev plain_rows : Automaton → List Sample → History → List Row → List Row
plain_rows a samples h init = history_rows a samples h.start h.paths init

-- what is known of a state and its history after these samples
record StandsIn (a : Automaton) (k : ℕ) (samples : List Sample) (h : History) (x : State) (init : List Row) : Type 0 where
  starts : (location_at a h.start).init ≡ Some init
  many : length h.paths ≡ length samples
  fit : AllFit a k h.start h.paths
  loc : x.loc < length a.locations
  ends : x.loc ≡ last_loc a h.start h.paths
  among : IsAmong x.rows (plain_rows a samples h init)
  within : IsWithin (width a) x.rows (plain_rows a samples h init)
  wide : AllWide (width a) (plain_rows a samples h init)
  reached : AllReached (history_stages a samples h.start h.paths init)

-- each state stands in its history
abbrev AllStand : Automaton → ℕ → List Sample → List State → List History → Type 0
AllStand a k samples belief hs =
    (j : ℕ) → j < length belief → (init : List Row) × StandsIn a k samples (slice_index_or hs j no_history) (slice_index_or belief j no_state) init

-- ---- the opening

opening_stand : (a : Automaton) (k : ℕ) (belief : List State) → IsWellFormed a → AreOpening a belief → AllStand a k [] belief (opening_histories belief)
opening_stand a k belief wf is j hj = go (location_at a x.loc).init refl (is.each x (in_at belief j hj))
  where
    x : State
    x = slice_index_or belief j no_state

    alone : History
    alone = record { start = x.loc; paths = [] }

    same : slice_index_or (opening_histories belief) j no_history ≡ alone
    same = get_or-map (λ (y : State). record { start = y.loc; paths = [] }) belief j no_state no_history hj

    go : (o : Option (List Row)) → (location_at a x.loc).init ≡ o → IsSomeAnd (elim o as (λ _. Option (List Row)) [ None ↦ None | Some init ↦ Some (init ++ (location_at a x.loc).invariant) ]) (λ rows. IsOpeningState (width a) rows x) →
        (init : List Row) × StandsIn a k [] (slice_index_or (opening_histories belief) j no_history) x init
    go None e s = absurd s
    go (Some init) e s =
        let inside : List Row = (location_at a x.loc).invariant in
        let hl : x.loc < length a.locations = starts_within a x.loc init e in
        let loc = location_is a wf x.loc hl in
        let wide_init : AllWide (width a) init = subst (λ o. IfSome o (AllWide (width a))) e loc.init in
        let wide : AllWide (width a) (init ++ inside) = wide_both (width a) init inside wide_init loc.invariant in
        let rows : init ++ inside ≡ rows_after (opening_stage a x.loc init) = sym (opening_rows_are a x.loc init wide) in (
          init,
          subst (λ h. StandsIn a k [] h x init) (sym same) (record {
            starts = e;
            many = refl;
            fit = tt;
            loc = hl;
            ends = refl;
            among = subst (λ rs. IsAmong x.rows rs) rows s.plain;
            within = λ q hq lq h. subst (λ rs. AllHold rs q) rows ((s.same q hq lq).0 h);
            wide = subst (AllWide (width a)) rows wide;
            reached = (subst (HasPoint (width a)) rows s.some_point, tt);
          }),
        )

-- ---- a gap

item_stands : (before : List Sample) (s : Sample) (key : Key) (items : List Item) (y : Item) (h : History) (init : List Row) → IsWellFormed key.automaton → IsKey key →
    IsGapOf (last_from zero_fraction before) s key → AreExact key items → In y items → StandsIn key.automaton key.jumps before h (parent_at key y.parent) init →
    StandsIn key.automaton key.jumps (before ++ s ∷ []) (followed h y.path) y.state init
item_stands before s key items y h init wf is gap exact iy old =
    let a : Automaton = key.automaton in
    let p : State = parent_at key y.parent in
    let item = exact.each y iy in
    let t : Fraction = last_from zero_fraction before in
    let d : Fraction = difference s.time t in
    let fits : Fits a p.loc y.path = item.may_take.fits in
    let rows : List Row = plain_rows a before h init in
    let first : List Row = rows_after (opening_stage a h.start init) in
    let same = key_rows t s key p.loc y.path rows gap in
    let (q, some) = item.some_end in
    let reached : AllReached (gap_stages a p.loc y.path d s.cells rows) =
    subst AllReached (key_stages t s key p.loc y.path rows gap) (end_there key y.parent y.path rows q wf is old.loc fits old.wide old.within some).0 in
    let here : gap_rows a p.loc y.path d s.cells rows ≡ plain_rows a (before ++ s ∷ []) (followed h y.path) init =
    ap (λ l. gap_rows a l y.path d s.cells rows) old.ends ∙ sym (rows-append a h.start zero_fraction before s h.paths y.path first old.many) in
    record {
      starts = old.starts;
      many = omega (arith, length-append h.paths (y.path ∷ []), length-append before (s ∷ []), old.many);
      fit = fit-append a key.jumps h.start h.paths y.path old.fit item.may_take.few (subst (λ l. Fits a l y.path) old.ends fits);
      loc = subst (λ l. l < length a.locations) (sym item.loc) (end_within a wf p.loc y.path old.loc fits);
      ends = item.loc ∙ ap (λ l. end_loc a l y.path) old.ends ∙ sym (last_loc-append a h.start h.paths y.path);
      among = subst (λ rs. IsAmong y.state.rows rs) here (λ r i. subst (λ rs. In r rs) same (gap_more a p.loc y.path key.gap key.seen p.rows rows old.among r (item.plain r i)));
      within = λ u hu lu g. subst (λ rs. AllHold rs u) here
          (subst (λ rs. AllHold rs u) same (end_there key y.parent y.path rows u wf is old.loc fits old.wide old.within ((item.ends u hu lu).0 g)).1);
      wide = subst (AllWide (width a)) here (gap_wide a wf p.loc y.path d s.cells rows old.loc fits old.wide);
      reached = (
        old.reached.0,
        stages-append a h.start zero_fraction before s h.paths y.path first old.many old.reached.1 (subst (λ l. AllReached (gap_stages a l y.path d s.cells rows)) old.ends reached),
      );
    }

items_stand : (before : List Sample) (s : Sample) (key : Key) (items : List Item) (hs : List History) → IsWellFormed key.automaton → IsKey key →
    IsGapOf (last_from zero_fraction before) s key → AreExact key items → AllStand key.automaton key.jumps before key.belief hs →
    AllStand key.automaton key.jumps (before ++ s ∷ []) (states items) (item_histories hs items)
items_stand before s key items hs wf is gap exact old j hj =
    let (y, iy, e, f) = item_number hs items j hj in
    let (init, w) = old y.parent (exact.each y iy).may_take.parent in (
      init,
      subst (λ x. StandsIn key.automaton key.jumps (before ++ s ∷ []) (slice_index_or (item_histories hs items) j no_history) x init) (sym e)
          (subst (λ h. StandsIn key.automaton key.jumps (before ++ s ∷ []) h y.state init) (sym f)
          (item_stands before s key items y (slice_index_or hs y.parent no_history) init wf is gap exact iy w)),
    )

-- ---- entries

-- an entry's gap, in the words of the automaton, the jumps and the states that its key has
entry_stand : (a : Automaton) (k : ℕ) (before : List Sample) (s : Sample) (belief : List State) (hs : List History) (key : Key) (items : List Item) → IsWellFormed a → IsKey key →
    key.automaton ≡ a → key.jumps ≡ k → key.belief ≡ belief → IsGapOf (last_from zero_fraction before) s key → AreExact key items → AllStand a k before belief hs →
    AllStand a k (before ++ s ∷ []) (states items) (item_histories hs items)
entry_stand a k before s belief hs key items wf is ea ek eb gap exact f =
    let old : AllStand key.automaton key.jumps before key.belief hs =
    subst (λ b. AllStand b key.jumps before key.belief hs) (sym ea) (subst (λ j. AllStand a j before key.belief hs) (sym ek) (subst (λ b. AllStand a k before b hs) (sym eb) f)) in
    subst (λ b. AllStand b k (before ++ s ∷ []) (states items) (item_histories hs items)) ea
    (subst (λ j. AllStand key.automaton j (before ++ s ∷ []) (states items) (item_histories hs items)) ek
    (items_stand before s key items hs (subst IsWellFormed (sym ea) wf) is gap exact old))

none_stand : (a : Automaton) (k : ℕ) (samples : List Sample) (es : List Entry) (i : ℕ) → es ≡ [] → AllStand a k samples (belief_after [] (take i es)) (histories_after [] (take i es))
none_stand a k samples [] zero e = λ j hj. absurd (omega arith)
none_stand a k samples [] (suc i) e = λ j hj. absurd (omega arith)
none_stand a k samples (x ∷ es) i e = absurd (let f : ⊥ = cc in f)

entries_stand : (a : Automaton) (k m : ℕ) (before : List Sample) (belief : List State) (hs : List History) (samples : List Sample) (es : List Entry) (t : Fraction) (i : ℕ) → IsWellFormed a →
    AllStand a k before belief hs → AreLinked a k belief es → AreEntriesOf t samples es → t ≡ last_from zero_fraction before → IsFraction t → All (IsSample m) samples → i ≤ length es →
    AllStand a k (before ++ take i samples) (belief_after belief (take i es)) (histories_after hs (take i es))
entries_stand a k m before belief hs samples es t zero wf f linked entries et ht all h = subst (λ log. AllStand a k log belief hs) (sym (append-nil before)) f
entries_stand a k m before belief hs samples [] t (suc i) wf f linked entries et ht all h = absurd (omega arith)
entries_stand a k m before belief hs [] (x ∷ es) t (suc i) wf f linked entries et ht all h = absurd entries
entries_stand a k m before belief hs (s ∷ ss) (x ∷ es) t (suc i) wf f linked entries et ht all h =
    let sample = All-head (IsSample m) s ss all in
    let gap : IsGapOf (last_from zero_fraction before) s x.key = subst (λ u. IsGapOf u s x.key) et
    (record { gap = entries.0; duration = product_positive s.time.den t.den sample.time.positive ht; seen = entries.1 }) in
    next x.outcome linked.0.exact linked.4 gap
    (λ b hs g l. entries_stand a k m (before ++ s ∷ []) b hs ss es s.time i wf g l entries.2 (sym (last_from-append zero_fraction before s)) sample.time.positive (All-tail (IsSample m) s ss all) (omega arith))
  where
    next : (o : Outcome) → IsExact x.key o → elim o as (λ _. Type 0) [ Next items ↦ AreLinked a k (states items) es | Passed ↦ es ≡ [] ] → IsGapOf (last_from zero_fraction before) s x.key →
        ((b : List State) (hs : List History) → AllStand a k (before ++ s ∷ []) b hs → AreLinked a k b es →
        AllStand a k ((before ++ s ∷ []) ++ take i ss) (belief_after b (take i es)) (histories_after hs (take i es))) →
        AllStand a k (before ++ s ∷ take i ss) (belief_after (states_left o) (take i es)) (histories_after (histories_left hs o) (take i es))
    next Passed exact l gap later = none_stand a k (before ++ s ∷ take i ss) es i l
    next (Next items) exact l gap later =
        subst (λ log. AllStand a k log (belief_after (states items) (take i es)) (histories_after (item_histories hs items) (take i es)))
        (append_assoc before (s ∷ []) (take i ss))
        (later (states items) (item_histories hs items) (entry_stand a k before s belief hs x.key items wf linked.0.key linked.1 linked.2 linked.3 gap exact f) l)

-- ---- histories

opened_stand : (hist : SessionHistory) → IsWellFormed hist.automaton → IsOpening hist.automaton hist.opening → AllStand hist.automaton hist.jumps [] (opening_states hist) (opening_histories (opening_states hist))
opened_stand hist wf opening = go hist.opening opening
  where
    go : (o : Option (List State)) → IsOpening hist.automaton o →
        AllStand hist.automaton hist.jumps [] (elim o as (λ _. List State) [ None ↦ [] | Some b ↦ b ]) (opening_histories (elim o as (λ _. List State) [ None ↦ [] | Some b ↦ b ]))
    go None opening = λ j hj. absurd (omega arith)
    go (Some belief) opening = opening_stand hist.automaton hist.jumps belief wf opening

pub states_plain : (hist : SessionHistory) (log : List Sample) (i j : ℕ) → HasLog hist log → i ≤ length hist.gaps → j < length (states_at hist i) →
    IsPlainState hist.automaton hist.jumps (take i log) (history_at hist i j) (state_at hist i j)
states_plain hist log i j is h hj =
    let a : Automaton = hist.automaton in
    let x : State = state_at hist i j in
    let y : History = history_at hist i j in
    let (init, w) = entries_stand a hist.jumps (width a) [] (opening_states hist) (opening_histories (opening_states hist)) log hist.gaps zero_fraction i is.history.automaton
    (opened_stand hist is.history.automaton is.history.opening) is.history.linked is.entries refl (record { lt = tt }) is.is_log.each h j hj in
    record {
      one_for_each_gap = w.many;
      fit = w.fit;
      starts = subst (λ o. IsSomeAnd o (λ init. HasPlainRows a (take i log) y x init)) (sym w.starts) (record {
        reached = w.reached;
        plain = w.among;
        same = λ q hq lq. (
          w.within q hq lq,
          λ g. AllHold-from_in x.rows q (λ r m. AllHold-at_in (plain_rows a (take i log) y init) q g r (w.among r m)),
        );
      });
    }
