-- The states of a history: where runs of a log with its entries end, in the order of their histories.
use Rattle.std.proofs.Common.{◌≡◌, ◌⊎◌, ◌↔◌, inl, inr, ℕ, zero, suc, ◌<◌, ◌≤◌, Bool, true, false, List, [], ◌∷◌, ◌++◌, append_assoc, append-nil, length, take, Option, Some, None, refl, sym, ◌∙◌, ap, subst, arith, pos, ◌<ℤ◌}
use Rattle.std.specs.Prelude.{All, IsTrue, slice_index_or}
use Rattle.std.proofs.lemmas.List.{length-take-le}
use Rattle.std.proofs.lemmas.List.Elements.{All-head, All-tail}
use Rattle.std.proofs.lemmas.List.Folds.{Any-from_list_any, list_any-from_Any}
use Rattle.poly_specs.proofs.EliminationLemmas.{AllHold-from_in}
use Rattle.run_specs.proofs.StageLemmas.{holds_both}
use Rattle.run_specs.proofs.SessionLemmas.{last_from, entries_few}
use Rattle.run_specs.proofs.RunEndLemmas.{all_same, marked, IsAt, run_inside, IsKeyOf, last_from-append, key_of}
use Rattle.run_specs.proofs.HistoryLogLemmas.{HasLog}
use Rattle.run_specs.proofs.AimLemmas.{some_gap, last_of}
use Rattle.run_specs.proofs.StateHistoryLemmas.{rise_at, Stands, AreFollowed, opening_are, items_are}
use Rattle.poly_specs.specs.Fractions.{Fraction, IsFraction, zero_fraction}
use Rattle.poly_specs.specs.Rows.{Point, Row, AllHold}
use Rattle.run_specs.specs.Automaton.{Automaton, width, location_at}
use Rattle.run_specs.specs.Logs.{Sample, IsSample}
use Rattle.run_specs.specs.Runs.{Place, Run, IsRun, VisitsUnsafe, path_of, end_point, goes_unsafe}
use Rattle.run_specs.specs.Histories.{History, history_of, IsEarlier}
use Rattle.run_specs.specs.Aims.{Aim, EndsWhere, IsAimedRun, to_alarm}
use Rattle.run_specs.specs.FirstRun.{IsFirstRun}
use Rattle.run_specs.specs.Keys.{State, Key, no_state}
use Rattle.run_specs.specs.Outcomes.{Item, Outcome, Next, Passed, AreExact, IsExact}
use Rattle.run_specs.specs.Openings.{IsOpening}
use Rattle.run_specs.specs.SessionHistories.{Entry, SessionHistory, AreLinked, states, states_left, opening_states, belief_after, has_passed}
use Rattle.run_specs.specs.Sessions.{AreEntriesOf}
use Rattle.run_specs.specs.StateHistories.{no_history, opening_histories, item_histories, histories_left, histories_after, states_at, histories_at, state_at, history_at, HistoriesRise, run_end, EndsRun, HasMarksOf, EndsInState, CanMeet, IsOfFirstState, IsNoLater}

-- ---- entries

-- an entry's gap, in the words of the automaton, the jumps and the states that its key has
pub entry_are : (a : Automaton) (k : ℕ) (before : List Sample) (s : Sample) (belief : List State) (hs : List History) (key : Key) (items : List Item) →
    key.automaton ≡ a → key.jumps ≡ k → key.belief ≡ belief → IsKeyOf before s key → AreExact key items → AreFollowed a k before belief hs →
    AreFollowed a k (before ++ s ∷ []) (states items) (item_histories hs items)
entry_are a k before s belief hs key items ea ek eb is exact f =
    let old : AreFollowed key.automaton key.jumps before key.belief hs =
    subst (λ b. AreFollowed b key.jumps before key.belief hs) (sym ea) (subst (λ j. AreFollowed a j before key.belief hs) (sym ek) (subst (λ b. AreFollowed a k before b hs) (sym eb) f)) in
    subst (λ b. AreFollowed b k (before ++ s ∷ []) (states items) (item_histories hs items)) ea
    (subst (λ j. AreFollowed key.automaton j (before ++ s ∷ []) (states items) (item_histories hs items)) ek (items_are before s key items hs is exact old))

-- an entry passed, and left nothing
record AreGone (belief : List State) (hs : List History) (passed : Bool) : Type 0 where
  no_states : belief ≡ []
  no_histories : hs ≡ []
  passed_is : passed ≡ true

abbrev AreReached : Automaton → ℕ → List Sample → List State → List History → Bool → Type 0
AreReached a k log belief hs passed = AreFollowed a k log belief hs ⊎ AreGone belief hs passed

gone : (es : List Entry) (i : ℕ) → es ≡ [] → AreGone (belief_after [] (take i es)) (histories_after [] (take i es)) true
gone [] zero e = record { no_states = refl; no_histories = refl; passed_is = refl }
gone [] (suc i) e = record { no_states = refl; no_histories = refl; passed_is = refl }
gone (x ∷ es) i e = absurd (let f : ⊥ = cc in f)

entries_are : (a : Automaton) (k m : ℕ) (before : List Sample) (belief : List State) (hs : List History) (samples : List Sample) (es : List Entry) (t : Fraction) (i : ℕ) →
    AreFollowed a k before belief hs → AreLinked a k belief es → AreEntriesOf t samples es → t ≡ last_from zero_fraction before → IsFraction t → All (IsSample m) samples → i ≤ length es →
    AreReached a k (before ++ take i samples) (belief_after belief (take i es)) (histories_after hs (take i es)) (has_passed (take i es))
entries_are a k m before belief hs samples es t zero f linked entries et ht all h =
    inl (subst (λ log. AreFollowed a k log belief hs) (sym (append-nil before)) f)
entries_are a k m before belief hs samples [] t (suc i) f linked entries et ht all h = absurd (omega arith)
entries_are a k m before belief hs [] (x ∷ es) t (suc i) f linked entries et ht all h = absurd entries
entries_are a k m before belief hs (s ∷ ss) (x ∷ es) t (suc i) f linked entries et ht all h =
    let sample = All-head (IsSample m) s ss all in
    let key = key_of before s t m x linked.0 sample et ht entries.0 entries.1 in
    next x.outcome linked.0.exact linked.4 key
    (λ b hs g l. entries_are a k m (before ++ s ∷ []) b hs ss es s.time i g l entries.2 (sym (last_from-append zero_fraction before s)) sample.time.positive (All-tail (IsSample m) s ss all) (omega arith))
  where
    next : (o : Outcome) → IsExact x.key o → elim o as (λ _. Type 0) [ Next items ↦ AreLinked a k (states items) es | Passed ↦ es ≡ [] ] → IsKeyOf before s x.key →
        ((b : List State) (hs : List History) → AreFollowed a k (before ++ s ∷ []) b hs → AreLinked a k b es →
        AreReached a k ((before ++ s ∷ []) ++ take i ss) (belief_after b (take i es)) (histories_after hs (take i es)) (has_passed (take i es))) →
        AreReached a k (before ++ s ∷ take i ss) (belief_after (states_left o) (take i es)) (histories_after (histories_left hs o) (take i es))
        (elim o as (λ _. Bool) [ Next items ↦ has_passed (take i es) | Passed ↦ true ])
    next Passed exact l key later = inr (gone es i l)
    next (Next items) exact l key later =
        subst (λ log. AreReached a k log (belief_after (states items) (take i es)) (histories_after (item_histories hs items) (take i es)) (has_passed (take i es)))
        (append_assoc before (s ∷ []) (take i ss))
        (later (states items) (item_histories hs items) (entry_are a k before s belief hs x.key items linked.1 linked.2 linked.3 key exact f) l)

-- ---- histories

-- no state is left after i gaps: the opening or an entry passed
record NoneLeft (h : SessionHistory) (i : ℕ) : Type 0 where
  no_states : states_at h i ≡ []
  no_histories : histories_at h i ≡ []
  passed : 0 < i → has_passed (take i h.gaps) ≡ true

not_opened : (h : SessionHistory) (i : ℕ) → opening_states h ≡ [] → h.gaps ≡ [] → i ≤ length h.gaps → NoneLeft h i
not_opened h i e f l = record {
  no_states = ap (λ b. belief_after b (take i h.gaps)) e ∙ ap (λ es. belief_after [] (take i es)) f ∙ (gone [] i refl).no_states;
  no_histories = ap (λ b. histories_after (opening_histories b) (take i h.gaps)) e ∙ ap (λ es. histories_after [] (take i es)) f ∙ (gone [] i refl).no_histories;
  passed = λ p. absurd (omega (arith, ap length f));
}

reached : (hist : SessionHistory) (log : List Sample) (i : ℕ) → HasLog hist log → i ≤ length hist.gaps →
    AreFollowed hist.automaton hist.jumps (take i log) (states_at hist i) (histories_at hist i) ⊎ NoneLeft hist i
reached hist log i is h = go hist.opening refl is.history.opening
  where
    go : (o : Option (List State)) → hist.opening ≡ o → IsOpening hist.automaton o →
        AreFollowed hist.automaton hist.jumps (take i log) (states_at hist i) (histories_at hist i) ⊎ NoneLeft hist i
    go None f opening =
        inr (not_opened hist i (ap (λ o. elim o as (λ _. List State) [ None ↦ [] | Some b ↦ b ]) f) (is.history.not_opened f) h)
    go (Some belief) f opening =
        let a : Automaton = hist.automaton in
        let k : ℕ = hist.jumps in
        let states_are : opening_states hist ≡ belief = ap (λ o. elim o as (λ _. List State) [ None ↦ [] | Some b ↦ b ]) f in
        let start : AreFollowed a k [] (opening_states hist) (opening_histories (opening_states hist)) =
        subst (λ b. AreFollowed a k [] b (opening_histories b)) (sym states_are) (opening_are a k belief opening) in
        elim (entries_are a k (width a) [] (opening_states hist) (opening_histories (opening_states hist)) log hist.gaps zero_fraction i
        start is.history.linked is.entries refl (record { lt = tt }) is.is_log.each h) [
          | inl f ↦ inl f
          | inr g ↦ inr (record { no_states = g.no_states; no_histories = g.no_histories; passed = λ p. g.passed_is })
        ]

-- ---- runs and states

pub mark_visits : (a : Automaton) (run : Run) (b : Bool) → marked a run.gaps ≡ b → IsTrue b ↔ VisitsUnsafe a run
mark_visits a run b e = (
  λ t. Any-from_list_any (λ g. goes_unsafe a g.start_loc (path_of g)) run.gaps (e ∙ t),
  λ v. sym e ∙ list_any-from_Any (λ g. goes_unsafe a g.start_loc (path_of g)) run.gaps v,
)

-- the state in which a run of a log of at least one sample ends
pub state_of_run : (a : Automaton) (k : ℕ) (log : List Sample) (belief : List State) (hs : List History) → AreFollowed a k log belief hs → 0 < length log →
    (run : Run) → IsRun a k log run → (j : ℕ) × Stands a belief hs run (run_end a run).point j
state_of_run a k log belief hs f h run r =
    let inside = run_inside a k log run h r in f.all run (run_end a run).point (record { run_of = r; ends = refl; at = inside.at; inside = inside.inside })

-- a run along the history of state number j
pub record RunOf (a : Automaton) (k : ℕ) (log : List Sample) (belief : List State) (hs : List History) (j : ℕ) (run : Run) : Type 0 where
  pub run_of : IsRun a k log run
  pub along : history_of run ≡ slice_index_or hs j no_history
  pub mark : marked a run.gaps ≡ (slice_index_or belief j no_state).seen_unsafe

pub run_of_state : (a : Automaton) (k : ℕ) (log : List Sample) (belief : List State) (hs : List History) → AreFollowed a k log belief hs → (j : ℕ) → j < length belief →
    (run : Run) × RunOf a k log belief hs j run
run_of_state a k log belief hs f j h =
    let x = f.each j h in
    let (q, at, holds) = x.some_point in
    let (run, e) = x.ends q at holds in (run, record { run_of = e.run_of; along = e.along; mark = x.mark run e.run_of e.along })

-- the rows hold at the last values of a run of a log of at least one sample exactly where they hold at its end
pub ends_end : (a : Automaton) (k : ℕ) (log : List Sample) (run : Run) (rows : List Row) → 0 < length log → IsRun a k log run → EndsWhere rows run.gaps ↔ AllHold rows (run_end a run).point
ends_end a k log run rows h r =
    let (g, l) = last_of a k run.start zero_fraction log run.gaps (some_gap a k run.start zero_fraction log run.gaps (λ e. omega (arith, ap length e, h)) r.follows) r.follows in
    let last : end_point g ≡ (run_end a run).point = sym (ap (λ (p : Place). p.point) (l.place run.start)) in
    subst (λ q. EndsWhere rows run.gaps ↔ AllHold rows q) last (l.ends rows)

-- where state number j can meet the aim, a run along its history does
run_meets : (a : Automaton) (k : ℕ) (log : List Sample) (belief : List State) (hs : List History) (aim : Aim) → AreFollowed a k log belief hs → 0 < length log → (j : ℕ) → j < length belief →
    CanMeet (width a) aim (slice_index_or belief j no_state) → (run : Run) × IsAimedRun a k log aim run × (history_of run ≡ slice_index_or hs j no_history)
run_meets a k log belief hs aim f some j h can =
    let x = f.each j h in
    let state : State = slice_index_or belief j no_state in
    let (q, positive, sized, holds) = can.some_point in
    let both = (holds_both state.rows aim.rows q).0 holds in
    let (run, e) = x.ends q (record { positive = positive; sized = sized }) both.0 in
    let end = (run_inside a k log run some e.run_of).at in (
      run,
      record {
        run_of = e.run_of;
        meets = record {
          visits = λ t. (mark_visits a run state.seen_unsafe (x.mark run e.run_of e.along)).0 (can.marked t);
          ends = (ends_end a k log run aim.rows some e.run_of).1 (all_same aim.rows q (run_end a run).point positive end.positive (sym e.ends) both.1);
        };
      },
      e.along,
    )

-- a state that can meet the aim has no earlier history than the first run, and the first run's state has its history
meeting_later : (a : Automaton) (k : ℕ) (log : List Sample) (belief : List State) (hs : List History) (aim : Aim) → AreFollowed a k log belief hs → 0 < length log →
    (first : Run) → IsFirstRun a k log aim first → (j : ℕ) → j < length belief → CanMeet (width a) aim (slice_index_or belief j no_state) →
    IsEarlier (slice_index_or hs j no_history) (history_of first) → ⊥
meeting_later a k log belief hs aim f some first is j h can e =
    let (run, aimed, along) = run_meets a k log belief hs aim f some j h can in is.earliest run aimed (subst (λ x. IsEarlier x (history_of first)) (sym along) e)

-- state number j is the first that can meet the aim, and the run has its history
pub record IsFirstState (m : ℕ) (aim : Aim) (belief : List State) (hs : List History) (run : Run) (j : ℕ) : Type 0 where
  pub below : j < length belief
  pub meets : CanMeet m aim (slice_index_or belief j no_state)
  pub along : slice_index_or hs j no_history ≡ history_of run
  pub first : (e : ℕ) → e < j → CanMeet m aim (slice_index_or belief e no_state) → ⊥

first_state : (a : Automaton) (k : ℕ) (log : List Sample) (belief : List State) (hs : List History) (aim : Aim) → AreFollowed a k log belief hs → 0 < length log →
    (run : Run) → IsFirstRun a k log aim run → (j : ℕ) × IsFirstState (width a) aim belief hs run j
first_state a k log belief hs aim f some run is =
    let (j, x) = state_of_run a k log belief hs f some run is.aimed.run_of in
    let state : State = slice_index_or belief j no_state in
    let end = (run_inside a k log run some is.aimed.run_of).at in
    let rows : AllHold aim.rows (run_end a run).point = (ends_end a k log run aim.rows some is.aimed.run_of).0 is.aimed.meets.ends in
    let can : CanMeet (width a) aim state = record {
      marked = λ t. (mark_visits a run state.seen_unsafe x.mark).1 (is.aimed.meets.visits t);
      some_point = ((run_end a run).point, end.positive, end.sized, (holds_both state.rows aim.rows (run_end a run).point).1 (x.holds, rows));
    } in
    let along : slice_index_or hs j no_history ≡ history_of run = same j x.below can x.no_later in
    (j, record { below = x.below; meets = can; along = along; first = λ e l. none e j l x.below along })
  where
    same : (j : ℕ) → j < length belief → CanMeet (width a) aim (slice_index_or belief j no_state) →
        IsNoLater (slice_index_or hs j no_history) (history_of run) → slice_index_or hs j no_history ≡ history_of run
    same j h can (inl e) = e
    same j h can (inr e) = absurd (meeting_later a k log belief hs aim f some run is j h can e)

    none : (e j : ℕ) → e < j → j < length belief → slice_index_or hs j no_history ≡ history_of run → CanMeet (width a) aim (slice_index_or belief e no_state) → ⊥
    none e j l below along can =
        let earlier = rise_at hs e j f.rise l (omega (arith, below, f.as_many)) in
        meeting_later a k log belief hs aim f some run is e (omega arith) can (subst (IsEarlier (slice_index_or hs e no_history)) along earlier)

-- ---- the laws

no_number : (h : SessionHistory) (i j : ℕ) → NoneLeft h i → j < length (states_at h i) → ⊥
no_number h i j n l = omega (arith, l, ap length n.no_states)

some_sample : (hist : SessionHistory) (log : List Sample) (i : ℕ) → HasLog hist log → 0 < i → i ≤ length hist.gaps → 0 < length (take i log)
some_sample hist log i is p h =
    let few = entries_few zero_fraction log hist.gaps is.entries in
    let e = length-take-le i log (omega (arith, few, h)) in omega (arith, e, p)

pub states_ends : (hist : SessionHistory) (log : List Sample) (i j : ℕ) (q : Point) → HasLog hist log → 0 < i → i ≤ length hist.gaps → j < length (states_at hist i) →
    pos 0 <ℤ q.den → length q.num ≡ width hist.automaton →
    AllHold (state_at hist i j).rows q ↔ ((run : Run) × EndsRun hist.automaton hist.jumps (take i log) (history_at hist i j) q run)
states_ends hist log i j q is p h hj hq sized = elim (reached hist log i is h) [
  | inl f ↦ (
      let a : Automaton = hist.automaton in
      let x = f.each j hj in
      let at : IsAt a q = record { positive = hq; sized = sized } in (
        λ holds. x.ends q at holds,
        λ ends.
            let (run, e) = ends in
            let inside = run_inside a hist.jumps (take i log) run (some_sample hist log i is p h) e.run_of in
            let loc : (run_end a run).loc ≡ (state_at hist i j).loc = x.loc run e.run_of e.along in
            x.held q run at (subst (λ l. AllHold (location_at a l).invariant q) loc
            (all_same (location_at a (run_end a run).loc).invariant (run_end a run).point q inside.at.positive hq e.ends inside.inside)) e,
      ))
  | inr n ↦ absurd (no_number hist i j n hj)
]

pub states_marks : (hist : SessionHistory) (log : List Sample) (i j : ℕ) (q : Point) (run : Run) → HasLog hist log → i ≤ length hist.gaps → j < length (states_at hist i) →
    EndsRun hist.automaton hist.jumps (take i log) (history_at hist i j) q run → HasMarksOf hist.automaton (state_at hist i j) run
states_marks hist log i j q run is h hj e = elim (reached hist log i is h) [
  | inl f ↦ (
      let x = f.each j hj in
      record { loc = x.loc run e.run_of e.along; mark = mark_visits hist.automaton run (state_at hist i j).seen_unsafe (x.mark run e.run_of e.along) })
  | inr n ↦ absurd (no_number hist i j n hj)
]

pub states_rising : (hist : SessionHistory) (log : List Sample) (i : ℕ) → HasLog hist log → i ≤ length hist.gaps → HistoriesRise (histories_at hist i)
states_rising hist log i is h = elim (reached hist log i is h) [
  | inl f ↦ f.rise
  | inr n ↦ subst HistoriesRise (sym n.no_histories) tt
]

pub states_many : (hist : SessionHistory) (log : List Sample) (i : ℕ) → HasLog hist log → i ≤ length hist.gaps → length (histories_at hist i) ≡ length (states_at hist i)
states_many hist log i is h = elim (reached hist log i is h) [
  | inl f ↦ f.as_many
  | inr n ↦ ap length n.no_histories ∙ sym (ap length n.no_states)
]

pub run_state : (hist : SessionHistory) (log : List Sample) (i : ℕ) (run : Run) → HasLog hist log → 0 < i → i ≤ length hist.gaps → has_passed (take i hist.gaps) ≡ false →
    IsRun hist.automaton hist.jumps (take i log) run → (j : ℕ) × EndsInState hist i run j
run_state hist log i run is p h n r = elim (reached hist log i is h) [
  | inl f ↦ (
      let a : Automaton = hist.automaton in
      let (j, x) = state_of_run a hist.jumps (take i log) (states_at hist i) (histories_at hist i) f (some_sample hist log i is p h) run r in (
        j,
        record {
          below = x.below;
          marks = record { loc = x.loc; mark = mark_visits a run (state_at hist i j).seen_unsafe x.mark };
          holds = x.holds;
          no_later = x.no_later;
        },
      ))
  | inr g ↦ absurd (let t = g.passed p in let b : ⊥ = cc in b)
]

pub marked_meet : (hist : SessionHistory) (log : List Sample) (i j : ℕ) → HasLog hist log → i ≤ length hist.gaps → j < length (states_at hist i) →
    CanMeet (width hist.automaton) to_alarm (state_at hist i j) ↔ IsTrue (state_at hist i j).seen_unsafe
marked_meet hist log i j is h hj = elim (reached hist log i is h) [
  | inl f ↦ (
      let (q, at, holds) = (f.each j hj).some_point in (
        λ can. can.marked refl,
        λ t. record {
          marked = λ _. t;
          some_point = (q, at.positive, at.sized, (holds_both (state_at hist i j).rows [] q).1 (holds, AllHold-from_in [] q (λ r i. absurd i)));
        },
      ))
  | inr n ↦ absurd (no_number hist i j n hj)
]

pub first_run_state : (hist : SessionHistory) (log : List Sample) (i : ℕ) (aim : Aim) (run : Run) → HasLog hist log → 0 < i → i ≤ length hist.gaps → has_passed (take i hist.gaps) ≡ false →
    IsFirstRun hist.automaton hist.jumps (take i log) aim run → (j : ℕ) × IsOfFirstState hist aim i run j
first_run_state hist log i aim run is p h n r = elim (reached hist log i is h) [
  | inl f ↦ (
      let (j, x) = first_state hist.automaton hist.jumps (take i log) (states_at hist i) (histories_at hist i) aim f (some_sample hist log i is p h) run r in
      (j, record { below = x.below; meets = x.meets; along = x.along; first = x.first }))
  | inr g ↦ absurd (let t = g.passed p in let b : ⊥ = cc in b)
]
