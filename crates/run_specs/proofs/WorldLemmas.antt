-- The steps of a world: they are allowed, they lead to a world, and allowed events have them.
use Rattle.std.proofs.Common.{◌≡◌, ◌≢◌, ◌⊎◌, inl, inr, ℕ, ◌+◌, ◌<◌, Bool, true, false, List, [], ◌∷◌, ◌++◌, length, length-append, Option, Some, None, refl, sym, ◌∙◌, ap, subst, arith}
use Rattle.std.specs.Prelude.{All, slice_set, if◌then◌else◌}
use Rattle.std.proofs.lemmas.Bool.{cases_lt}
use Rattle.std.proofs.lemmas.List.Elements.{All-push, All-nil, All-head, All-tail}
use Rattle.poly_specs.specs.Lists.{In, IsAmong}
use Rattle.poly_specs.specs.Fractions.{Fraction, IsFraction, Below, difference, zero_fraction}
use Rattle.poly_specs.specs.Arithmetic.{lowest}
use Rattle.run_specs.proofs.ListLemmas.{in_set, in_get}
use Rattle.run_specs.proofs.SessionLemmas.{linked-append, none_left, verdict-append, verdict-last, all_told, last_from, last_is, log-append, entries-longer, entries_few, entries-append, placed_is, gap_lasts}
use Rattle.run_specs.specs.declared.Verdict.{Verdict}
use Rattle.run_specs.specs.declared.Verdict.TheVariants.{Overflow}
use Rattle.run_specs.specs.Automaton.{width}
use Rattle.run_specs.specs.Logs.{Sample, IsSample, IsLog}
use Rattle.run_specs.specs.Keys.{State, Key}
use Rattle.run_specs.specs.SessionHistories.{Entry, IsEntry, SessionHistory, IsHistory, LaterGapsLast, opening_states, last_belief, belief_after, has_passed, has_overflowed, verdict_after, verdict_at}
use Rattle.run_specs.specs.Sessions.{MonitorSession, IsMonitorSession, Phase, Idle, Begun, Missed, Filled, IsBegun, IsEntryFor, PhaseHolds, AreEntriesOf, AreColumns, accepted, last_time, IsInTime, key_for, key_wanted, wanted_for, wanted_in, wanted}
use Rattle.run_specs.specs.Worlds.{World, IsWorld, Event, Begin, LookHit, LookMiss, Fill, Put, Finish, Told, HasKey, KeysDiffer, IsAdded, IsPut, KeepsMemo, Changes, joined, IsLookMiss, IsStep, IsAllowed, IsEvent, IsOfSession, LeadTo}

-- ---- steps are allowed

pub steps_allowed : (w v : World) (event : Event) (told : List Told) → IsStep w event told v → IsAllowed w event
steps_allowed w v (Begin i sample) told (s, t, c, b, m, e) = (s, c.was, b.idle, b.may_begin)
steps_allowed w v (LookHit i) told (s, t, x, c, b, m, e) = (s, x.key, c.was, b.wants, (x, b.found, refl))
steps_allowed w v (LookMiss i) told (s, t, sample, c, b, m, e) = (s, key_for s sample, c.was, b.wants, b.lacking)
steps_allowed w v (Fill i) told (s, t, sample, made, c, b, m, e) = (s, sample, c.was, b.missed)
steps_allowed w v (Put i) told (s, t, sample, made, c, b, e) = (s, sample, made, c.was, b.filled)
steps_allowed w v (Finish i) told (s, t, sample, verdict, c, b, m, e) = (s, sample, c.was, b.begun, b.nothing_wanted)

-- ---- the key that is wanted

-- what a wanted key says of the session
record Wants (s : MonitorSession) (sample : Sample) (key : Key) : Type 0 where
  is : key ≡ key_for s sample
  fits : has_overflowed s.history ≡ false
  some_state : last_belief s.history ≢ []

wants_from : (s : MonitorSession) (sample : Sample) (key : Key) → wanted_for s sample None ≡ Some key → Wants s sample key
wants_from s sample key e = go (last_belief s.history) refl e
  where
    chosen : (b : Bool) → has_overflowed s.history ≡ b → ◌≡◌ {A = Option Key} (if b then None else Some (key_for s sample)) (Some key) → (key ≡ key_for s sample) × (has_overflowed s.history ≡ false)
    chosen true f g = absurd (let x : ⊥ = cc in x)
    chosen false f g = (let x : key_for s sample ≡ key = cc in sym x, f)

    go : (belief : List State) → last_belief s.history ≡ belief → key_wanted s sample belief ≡ Some key → Wants s sample key
    go [] f g = absurd (let x : ⊥ = cc in x)
    go (b ∷ bs) f g =
        let c = chosen (has_overflowed s.history) refl g in
        record { is = c.0; fits = c.1; some_state = λ n. (let x : b ∷ bs ≡ [] = sym f ∙ n in let y : ⊥ = cc in y) }

-- a session that wants a key has begun a sample, and has no entry for it
record IsWanting (s : MonitorSession) (key : Key) (sample : Sample) : Type 0 where
  begun : s.phase ≡ Begun sample
  none_given : s.given ≡ None
  wants : wanted_for s sample None ≡ Some key

wanting : (s : MonitorSession) (key : Key) → wanted s ≡ Some key → (sample : Sample) × IsWanting s key sample
wanting s key e = go s.phase refl e
  where
    given : (sample : Sample) (g : Option Entry) → s.given ≡ g → wanted_for s sample g ≡ Some key → (s.given ≡ None) × (wanted_for s sample None ≡ Some key)
    given sample None f h = (f, h)
    given sample (Some x) f h = absurd (let y : ⊥ = cc in y)

    go : (phase : Phase) → s.phase ≡ phase → wanted_in s phase ≡ Some key → (sample : Sample) × IsWanting s key sample
    go Idle f h = absurd (let y : ⊥ = cc in y)
    go (Begun sample) f h = let g = given sample s.given refl h in (sample, record { begun = f; none_given = g.0; wants = g.1 })
    go (Missed sample) f h = absurd (let y : ⊥ = cc in y)
    go (Filled sample made) f h = absurd (let y : ⊥ = cc in y)

-- ---- a session in another phase

abbrev turned : MonitorSession → Option Entry → Phase → MonitorSession
turned s g phase = record s { given = g; phase = phase }

turn : (s : MonitorSession) (g : Option Entry) (phase : Phase) → IsMonitorSession s → PhaseHolds (turned s g phase) phase g → IsMonitorSession (turned s g phase)
turn s g phase is h = record {
  columns = is.columns;
  log = is.log;
  room = is.room;
  history = is.history;
  entries = is.entries;
  told = is.told;
  phase = h;
}

begun_there : (s : MonitorSession) (g : Option Entry) (phase : Phase) (sample : Sample) → IsBegun s sample → IsBegun (turned s g phase) sample
begun_there s g phase sample b =
    record { is_sample = b.is_sample; may_begin = record { cells = b.may_begin.cells; time = b.may_begin.time; room = b.may_begin.room } }

entry_there : (s : MonitorSession) (g : Option Entry) (phase : Phase) (sample : Sample) (e : Entry) → IsEntryFor s sample e → IsEntryFor (turned s g phase) sample e
entry_there s g phase sample e f = record { wants = f.wants; entry = f.entry }

-- what the phase of a session says
at_phase : (s : MonitorSession) (phase : Phase) (g : Option Entry) → IsMonitorSession s → s.phase ≡ phase → s.given ≡ g → PhaseHolds s phase g
at_phase s phase g is e f = subst (λ x. PhaseHolds s phase x) f (subst (λ x. PhaseHolds s x s.given) e is.phase)

missed_at : (s : MonitorSession) (sample : Sample) → IsMonitorSession s → s.phase ≡ Missed sample → IsBegun s sample × (wanted_for s sample None ≡ Some (key_for s sample))
missed_at s sample is e = go s.given refl
  where
    go : (g : Option Entry) → s.given ≡ g → IsBegun s sample × (wanted_for s sample None ≡ Some (key_for s sample))
    go None f = at_phase s (Missed sample) None is e f
    go (Some x) f = absurd (at_phase s (Missed sample) (Some x) is e f)

filled_at : (s : MonitorSession) (sample : Sample) (made : Entry) → IsMonitorSession s → s.phase ≡ Filled sample made → IsBegun s sample × IsEntryFor s sample made
filled_at s sample made is e = go s.given refl
  where
    go : (g : Option Entry) → s.given ≡ g → IsBegun s sample × IsEntryFor s sample made
    go None f = at_phase s (Filled sample made) None is e f
    go (Some x) f = absurd (at_phase s (Filled sample made) (Some x) is e f)

begun_at : (s : MonitorSession) (sample : Sample) → IsMonitorSession s → s.phase ≡ Begun sample → IsBegun s sample
begun_at s sample is e = go s.given refl
  where
    go : (g : Option Entry) → s.given ≡ g → IsBegun s sample
    go None f = at_phase s (Begun sample) None is e f
    go (Some x) f = (at_phase s (Begun sample) (Some x) is e f).0

-- ---- a finished sample

-- the sample joins the log, and the given entry the history
abbrev finished : MonitorSession → Sample → Option Entry → MonitorSession
finished s sample g =
    record s { log = s.log ++ accepted s sample ∷ []; history = joined s.history g; given = None; phase = Idle }

opened : (h : SessionHistory) → has_overflowed h ≡ false → (belief : List State) × (h.opening ≡ Some belief) × (has_passed h.gaps ≡ false)
opened h e = go h.opening refl e
  where
    go : (o : Option (List State)) → h.opening ≡ o → elim o as (λ _. Bool) [ None ↦ true | Some belief ↦ has_passed h.gaps ] ≡ false → (belief : List State) × (h.opening ≡ Some belief) × (has_passed h.gaps ≡ false)
    go None f g = absurd (let x : ⊥ = cc in x)
    go (Some belief) f g = (belief, f, g)

verdict_opened : (h : SessionHistory) (belief : List State) (es : List Entry) (i : ℕ) → h.opening ≡ Some belief → verdict_at (record h { gaps = es }) i ≡ verdict_after belief es i
verdict_opened h belief es i e = ap (λ o. elim o as (λ _. Option Verdict) [ None ↦ Some Overflow | Some b ↦ verdict_after b es i ]) e

states_opened : (h : SessionHistory) (belief : List State) → h.opening ≡ Some belief → opening_states h ≡ belief
states_opened h belief e = ap (λ o. elim o as (λ _. List State) [ None ↦ [] | Some b ↦ b ]) e

-- a session that wants a key has an entry for each sample of its log
one_for_each : (s : MonitorSession) (sample : Sample) (key : Key) → IsMonitorSession s → Wants s sample key → length s.history.gaps ≡ length s.log
one_for_each s sample key is wants = elim (cases_lt (length s.history.gaps) (length s.log)) [
  | inr ge ↦ (let few = entries_few zero_fraction s.log s.history.gaps is.entries in omega arith)
  | inl lt ↦ absurd (
      let o = opened s.history wants.fits in
      let v = is.told (length s.history.gaps) lt in
      let there = sym (verdict_opened s.history o.0 s.history.gaps (length s.history.gaps) o.1) ∙ v.1 in
      let none = none_left o.0 s.history.gaps v.0 there o.2 in
      wants.some_state (ap (λ b. belief_after b s.history.gaps) (states_opened s.history o.0 o.1) ∙ none))
]

later_last : (es : List Entry) (e : Entry) → LaterGapsLast es → (es ≢ [] → Below zero_fraction e.key.gap) → LaterGapsLast (es ++ e ∷ [])
later_last [] e h f = All-nil (λ x. Below zero_fraction x.key.gap)
later_last (x ∷ es) e h f = All-push (λ x. Below zero_fraction x.key.gap) es e h (f (λ n. let y : ⊥ = cc in y))

-- the history that an entry joins
joined_is : (s : MonitorSession) (sample : Sample) (e : Entry) → IsMonitorSession s → IsBegun s sample → IsEntryFor s sample e → IsHistory (joined s.history (Some e))
joined_is s sample e is begun f =
    let wants = wants_from s sample e.key f.wants in
    let o = opened s.history wants.fits in
    let here : e.key.gap ≡ lowest (difference sample.time (last_time s.log)) = ap (λ (k : Key). k.gap) wants.is in
    record {
      automaton = is.history.automaton;
      jumps = is.history.jumps;
      opening = is.history.opening;
      not_opened = λ n. absurd (let x : Some o.0 ≡ None = sym o.1 ∙ n in let y : ⊥ = cc in y);
      linked = linked-append s.history.automaton s.history.jumps (opening_states s.history) s.history.gaps e is.history.linked o.2 f.entry
          (ap (λ (k : Key). k.automaton) wants.is) (ap (λ (k : Key). k.jumps) wants.is) (ap (λ (k : Key). k.belief) wants.is);
      later_gaps = later_last s.history.gaps e is.history.later_gaps
          (λ some. subst (λ x. Below zero_fraction x) (sym here) (lasts some (one_for_each s sample e.key is wants)));
    }
  where
    lasts : s.history.gaps ≢ [] → length s.history.gaps ≡ length s.log → Below zero_fraction (lowest (difference sample.time (last_time s.log)))
    lasts some l = go s.log s.history.gaps some l is.log begun.may_begin.time
      where
        time_of : (ss : List Sample) (t : Fraction) → IsFraction t → All (IsSample (width s.history.automaton)) ss → IsFraction (last_from t ss)
        time_of [] t h all = h
        time_of (x ∷ ss) t h all = time_of ss x.time (All-head (IsSample (width s.history.automaton)) x ss all).time.positive (All-tail (IsSample (width s.history.automaton)) x ss all)

        go : (log : List Sample) (es : List Entry) → es ≢ [] → length es ≡ length log → IsLog (width s.history.automaton) log → IsInTime log sample.time →
            Below zero_fraction (lowest (difference sample.time (last_time log)))
        go log [] n l isl b = absurd (n refl)
        go [] (x ∷ es) n l isl b = absurd (omega arith)
        go (y ∷ log) (x ∷ es) n l isl b =
            let ht = subst IsFraction (sym (last_is (y ∷ log))) (time_of (y ∷ log) zero_fraction (record { lt = tt }) isl.each) in
            gap_lasts (last_time (y ∷ log)) sample.time ht begun.is_sample.time.positive b

-- each sample has a verdict when an entry joins
told_with : (s : MonitorSession) (sample : Sample) (e : Entry) → IsMonitorSession s → IsEntryFor s sample e → (i : ℕ) → i < length s.log + 1 → (v : Verdict) × (verdict_at (joined s.history (Some e)) i ≡ Some v)
told_with s sample e is f i h =
    let wants = wants_from s sample e.key f.wants in
    let o = opened s.history wants.fits in
    let l = one_for_each s sample e.key is wants in
    let there = verdict_opened s.history o.0 (s.history.gaps ++ e ∷ []) in
    elim (cases_lt i (length s.log)) [
      | inl lt ↦ (
          let v = is.told i lt in
          (v.0, there i o.1 ∙ verdict-append o.0 s.history.gaps (e ∷ []) i (omega (arith, l)) ∙ sym (verdict_opened s.history o.0 s.history.gaps i o.1) ∙ v.1))
      | inr ge ↦ (
          let v = verdict-last o.0 s.history.gaps e in
          let at : i ≡ length s.history.gaps = omega (arith, l) in
          (v.0, ap (λ j. verdict_at (joined s.history (Some e)) j) at ∙ there (length s.history.gaps) o.1 ∙ v.1))
    ]

-- and where nothing is wanted
told_without : (s : MonitorSession) (sample : Sample) → wanted_for s sample None ≡ None → (i : ℕ) → (v : Verdict) × (verdict_at s.history i ≡ Some v)
told_without s sample e i = by_opening s.history.opening refl
  where
    settled : (belief : List State) → s.history.opening ≡ Some belief → (has_passed s.history.gaps ≡ true) ⊎ (belief_after belief s.history.gaps ≡ [])
    settled belief o = go (last_belief s.history) refl e
      where
        overflows : has_overflowed s.history ≡ has_passed s.history.gaps
        overflows = ap (λ x. elim x as (λ _. Bool) [ None ↦ true | Some b ↦ has_passed s.history.gaps ]) o

        chosen : (b : Bool) → has_overflowed s.history ≡ b → ◌≡◌ {A = Option Key} (if b then None else Some (key_for s sample)) None → has_passed s.history.gaps ≡ true
        chosen true f g = sym overflows ∙ f
        chosen false f g = absurd (let x : ⊥ = cc in x)

        go : (left : List State) → last_belief s.history ≡ left → key_wanted s sample left ≡ None → (has_passed s.history.gaps ≡ true) ⊎ (belief_after belief s.history.gaps ≡ [])
        go [] f g = inr (ap (λ b. belief_after b s.history.gaps) (sym (states_opened s.history belief o)) ∙ f)
        go (b ∷ bs) f g = inl (chosen (has_overflowed s.history) refl g)

    by_opening : (o : Option (List State)) → s.history.opening ≡ o → (v : Verdict) × (verdict_at s.history i ≡ Some v)
    by_opening None o = (Overflow, ap (λ x. elim x as (λ _. Option Verdict) [ None ↦ Some Overflow | Some b ↦ verdict_after b s.history.gaps i ]) o)
    by_opening (Some belief) o = let v = all_told belief s.history.gaps (settled belief o) i in (v.0, verdict_opened s.history belief s.history.gaps i o ∙ v.1)

finished_is : (s : MonitorSession) (sample : Sample) → IsMonitorSession s → IsBegun s sample → (g : Option Entry) → PhaseHolds s (Begun sample) g → wanted_for s sample g ≡ None →
    IsMonitorSession (finished s sample g)
finished_is s sample is begun g phase nothing = record {
  columns = columns g;
  log = log g;
  room = omega (arith, begun.may_begin.room, length-append s.log (accepted s sample ∷ []));
  history = history g phase;
  entries = entries g phase;
  told = λ i h. told g phase nothing i (omega (arith, h, length-append s.log (accepted s sample ∷ [])));
  phase = tt;
}
  where
    columns : (g : Option Entry) → AreColumns (width (joined s.history g).automaton) s.columns
    columns None = is.columns
    columns (Some e) = is.columns

    grown : IsLog (width s.history.automaton) (s.log ++ accepted s sample ∷ [])
    grown =
        log-append (width s.history.automaton) s.log (accepted s sample) is.log
        (placed_is (width s.history.automaton) (length s.columns) s.columns sample begun.is_sample) begun.may_begin.time

    log : (g : Option Entry) → IsLog (width (joined s.history g).automaton) (s.log ++ accepted s sample ∷ [])
    log None = grown
    log (Some e) = grown

    history : (g : Option Entry) → PhaseHolds s (Begun sample) g → IsHistory (joined s.history g)
    history None h = is.history
    history (Some e) h = joined_is s sample e is begun h.1

    entries : (g : Option Entry) → PhaseHolds s (Begun sample) g → AreEntriesOf zero_fraction (s.log ++ accepted s sample ∷ []) (joined s.history g).gaps
    entries None h = entries-longer zero_fraction s.log (accepted s sample ∷ []) s.history.gaps is.entries
    entries (Some e) h =
        let wants = wants_from s sample e.key h.1.wants in
        entries-append zero_fraction s.log (accepted s sample) s.history.gaps e (one_for_each s sample e.key is wants) is.entries
        (ap (λ (k : Key). k.gap) wants.is ∙ ap (λ t. lowest (difference sample.time t)) (last_is s.log)) (ap (λ (k : Key). k.seen) wants.is)

    told : (g : Option Entry) → PhaseHolds s (Begun sample) g → wanted_for s sample g ≡ None → (i : ℕ) → i < length s.log + 1 → (v : Verdict) × (verdict_at (joined s.history g) i ≡ Some v)
    told None h n i lt = told_without s sample n i
    told (Some e) h n i lt = told_with s sample e is h.1 i lt

-- ---- worlds

-- one session changes, and the memo keeps its entries
world_with : (w v : World) (i : ℕ) (s t : MonitorSession) → IsWorld w → Changes i w.sessions s t v.sessions → KeepsMemo w v → IsMonitorSession t → IsWorld v
world_with w v i s t is c m h = record {
  differ = m.same.differ;
  entries = λ e j. is.entries e (m.same.no_more e j);
  sessions = sessions_with w v i s t is c h;
}
  where
    sessions_with : (w v : World) (i : ℕ) (s t : MonitorSession) → IsWorld w → Changes i w.sessions s t v.sessions → IsMonitorSession t → (x : MonitorSession) → In x v.sessions → IsMonitorSession x
    sessions_with w v i s t is c h x j = elim (in_set w.sessions i t x (subst (λ ss. In x ss) c.becomes j)) [
      | inl e ↦ subst IsMonitorSession (sym e) h
      | inr k ↦ is.sessions x k
    ]

changing : (w : World) (i : ℕ) (s t : MonitorSession) (after : List MonitorSession) → IsWorld w → Changes i w.sessions s t after → IsMonitorSession s
changing w i s t after is c = is.sessions s (in_get w.sessions i s c.was)

-- the entries after a put are entries
added_entries : (bounded : Bool) (before after : List Entry) (made : Entry) → IsAdded bounded before made after → IsAmong after (made ∷ before) × KeysDiffer after
added_entries false before after made p = (p.no_more, p.differ)
added_entries true before after made p = (p.no_more, p.differ)

put_entries : (bounded : Bool) (before after : List Entry) (made : Entry) → IsPut bounded before made after → IsEntry made → ((e : Entry) → In e before → IsEntry e) → (e : Entry) → In e after → IsEntry e
put_entries bounded before after made (inl p) is all e h = all e (p.1.no_more e h)
put_entries bounded before after made (inr p) is all e h = elim ((added_entries bounded before after made p.1).0 e h) [ inl same ↦ subst IsEntry (sym same) is | inr k ↦ all e k ]

put_differ : (bounded : Bool) (before after : List Entry) (made : Entry) → IsPut bounded before made after → KeysDiffer after
put_differ bounded before after made (inl p) = p.1.differ
put_differ bounded before after made (inr p) = (added_entries bounded before after made p.1).1

missed_none : (s : MonitorSession) (sample : Sample) → IsMonitorSession s → s.phase ≡ Missed sample → s.given ≡ None
missed_none s sample is e = go s.given refl
  where
    go : (g : Option Entry) → s.given ≡ g → s.given ≡ None
    go None f = f
    go (Some x) f = absurd (at_phase s (Missed sample) (Some x) is e f)

pub steps_keep : (w v : World) (event : Event) (told : List Told) → IsWorld w → IsEvent event → IsStep w event told v → IsWorld v
steps_keep w v (Begin i sample) told is ev (s, t, c, b, m, e) =
    let old = changing w i s t v.sessions is c in
    let begun : IsBegun s sample = record { is_sample = subst (λ n. IsSample n sample) b.may_begin.cells ev; may_begin = b.may_begin } in
    world_with w v i s t is c m (subst IsMonitorSession (sym b.after) (turn s None (Begun sample) old (begun_there s None (Begun sample) sample begun)))
steps_keep w v (LookHit i) told is ev (s, t, x, c, b, m, e) =
    let old = changing w i s t v.sessions is c in
    let (sample, want) = wanting s x.key b.wants in
    let begun = begun_at s sample old want.begun in
    let entry : IsEntryFor s sample x = record { wants = want.wants; entry = is.entries x b.found } in
    let holds : PhaseHolds (turned s (Some x) s.phase) (Begun sample) (Some x) = (begun_there s (Some x) s.phase sample begun, entry_there s (Some x) s.phase sample x entry) in
    world_with w v i s t is c m
    (subst IsMonitorSession (sym b.after) (turn s (Some x) s.phase old (subst (λ phase. PhaseHolds (turned s (Some x) s.phase) phase (Some x)) (sym want.begun) holds)))
steps_keep w v (LookMiss i) told is ev (s, t, sample, c, b, m, e) =
    let old = changing w i s t v.sessions is c in
    let (other, want) = wanting s (key_for s sample) b.wants in
    let same : other ≡ sample = (let x : Begun other ≡ Begun sample = sym want.begun ∙ b.begun in cc) in
    let wants : wanted_for s sample None ≡ Some (key_for s sample) = subst (λ y. wanted_for s y None ≡ Some (key_for s sample)) same want.wants in
    let holds : PhaseHolds (turned s s.given (Missed sample)) (Missed sample) None = (begun_there s s.given (Missed sample) sample (begun_at s sample old b.begun), wants) in
    world_with w v i s t is c m
    (subst IsMonitorSession (sym b.after) (turn s s.given (Missed sample) old (subst (λ g. PhaseHolds (turned s s.given (Missed sample)) (Missed sample) g) (sym want.none_given) holds)))
steps_keep w v (Fill i) told is ev (s, t, sample, made, c, b, m, e) =
    let old = changing w i s t v.sessions is c in
    let known = missed_at s sample old b.missed in
    let entry : IsEntryFor s sample made = record { wants = known.1 ∙ ap (λ k. Some k) (sym b.key); entry = b.entry } in
    let phase : Phase = Filled sample made in
    let holds : PhaseHolds (turned s s.given phase) phase None = (begun_there s s.given phase sample known.0, entry_there s s.given phase sample made entry) in
    world_with w v i s t is c m
    (subst IsMonitorSession (sym b.after) (turn s s.given phase old (subst (λ g. PhaseHolds (turned s s.given phase) phase g) (sym (missed_none s sample old b.missed)) holds)))
steps_keep w v (Put i) told is ev (s, t, sample, made, c, b, e) =
    let old = changing w i s t v.sessions is c in
    let known = filled_at s sample made old b.filled in
    let holds : PhaseHolds (turned s (Some made) (Begun sample)) (Begun sample) (Some made) =
    (begun_there s (Some made) (Begun sample) sample known.0, entry_there s (Some made) (Begun sample) sample made known.1) in
    let new : IsMonitorSession t = subst IsMonitorSession (sym b.after_it) (turn s (Some made) (Begun sample) old holds) in
    record {
      differ = put_differ w.is_bounded w.memo v.memo made b.put;
      entries = put_entries w.is_bounded w.memo v.memo made b.put known.1.entry is.entries;
      sessions = λ x j. elim (in_set w.sessions i t x (subst (λ ss. In x ss) c.becomes j)) [
        | inl e ↦ subst IsMonitorSession (sym e) new
        | inr k ↦ is.sessions x k
      ];
    }
steps_keep w v (Finish i) told is ev (s, t, sample, verdict, c, b, m, e) =
    let old = changing w i s t v.sessions is c in
    let nothing : wanted_for s sample s.given ≡ None = subst (λ phase. wanted_in s phase ≡ None) b.begun b.nothing_wanted in
    world_with w v i s t is c m
    (subst IsMonitorSession (sym b.after) (finished_is s sample old (begun_at s sample old b.begun) s.given (at_phase s (Begun sample) s.given old b.begun refl) nothing))

pub lists_keep : (w v : World) (events : List Event) (told : List Told) → IsWorld w → All IsEvent events → LeadTo w events told v → IsWorld v
lists_keep w v [] told is ev (m, same, t) = record {
  differ = m.same.differ;
  entries = λ e j. is.entries e (m.same.no_more e j);
  sessions = λ x j. is.sessions x (subst (λ ss. In x ss) (sym same) j);
}
lists_keep w v (event ∷ events) told is ev (u, now, later, step, rest, t) =
    lists_keep u v events later (steps_keep w u event now is (All-head IsEvent event events ev) step) (All-tail IsEvent event events ev) rest

-- ---- allowed events have steps

stays : (w : World) (ss : List MonitorSession) → IsWorld w → KeepsMemo w (record w { sessions = ss })
stays w ss is = record { bound = refl; same = record { kept = λ x h. h; no_more = λ x h. h; differ = is.differ } }

abbrev HasStep : World → Event → Type 0
HasStep w event = (told : List Told) × (v : World) × IsStep w event told v

begin_steps : (w : World) (i : ℕ) (sample : Sample) → IsWorld w → IsAllowed w (Begin i sample) → HasStep w (Begin i sample)
begin_steps w i sample is (s, was, idle, may) =
    let t : MonitorSession = record s { phase = Begun sample; given = None } in
    let after = slice_set w.sessions i t in
    ([], record w { sessions = after }, (s, t, record { was = was; becomes = refl }, record { idle = idle; may_begin = may; after = refl }, stays w after is, refl))

hit_steps : (w : World) (i : ℕ) → IsWorld w → IsAllowed w (LookHit i) → HasStep w (LookHit i)
hit_steps w i is (s, key, was, wants, (e, found, same)) =
    let t : MonitorSession = record s { given = Some e } in
    let after = slice_set w.sessions i t in
    let wanted_e : wanted s ≡ Some e.key = wants ∙ ap (λ k. Some k) (sym same) in
    ([], record w { sessions = after }, (s, t, e, record { was = was; becomes = refl }, record { wants = wanted_e; found = found; after = refl }, stays w after is, refl))

miss_steps : (w : World) (i : ℕ) → IsWorld w → IsAllowed w (LookMiss i) → HasStep w (LookMiss i)
miss_steps w i is (s, key, was, wants, lacking) =
    let (sample, want) = wanting s key wants in
    let same = (wants_from s sample key want.wants).is in
    let t : MonitorSession = record s { phase = Missed sample } in
    let after = slice_set w.sessions i t in
    let miss : IsLookMiss w.memo sample s t = record {
      begun = want.begun;
      wants = wants ∙ ap (λ k. Some k) same;
      lacking = subst (λ k. HasKey k w.memo → ⊥) same lacking;
      after = refl;
    } in
    ([], record w { sessions = after }, (s, t, sample, record { was = was; becomes = refl }, miss, stays w after is, refl))

finish_steps : (w : World) (i : ℕ) → IsWorld w → IsAllowed w (Finish i) → HasStep w (Finish i)
finish_steps w i is (s, sample, was, begun, nothing) =
    let old = is.sessions s (in_get w.sessions i s was) in
    let none : wanted_for s sample s.given ≡ None = subst (λ phase. wanted_in s phase ≡ None) begun nothing in
    let new = finished_is s sample old (begun_at s sample old begun) s.given (at_phase s (Begun sample) s.given old begun refl) none in
    let verdict = new.told (length s.log) (omega (arith, length-append s.log (accepted s sample ∷ []))) in
    let t : MonitorSession = finished s sample s.given in
    let after = slice_set w.sessions i t in (
      record { session = i; verdict = verdict.0 } ∷ [],
      record w { sessions = after },
      (
        s,
        t,
        sample,
        verdict.0,
        record { was = was; becomes = refl },
        record { begun = begun; nothing_wanted = nothing; tells = verdict.1; after = refl },
        stays w after is,
        refl,
      ),
    )

pub events_step : (w : World) (event : Event) → IsWorld w → IsAllowed w event → IsOfSession event → HasStep w event
events_step w (Begin i sample) is h of = begin_steps w i sample is h
events_step w (LookHit i) is h of = hit_steps w i is h
events_step w (LookMiss i) is h of = miss_steps w i is h
events_step w (Fill i) is h of = absurd of
events_step w (Put i) is h of = absurd of
events_step w (Finish i) is h of = finish_steps w i is h

-- the memo after a put
put_memo : (memo : List Entry) (made : Entry) → KeysDiffer memo → HasKey made.key memo ⊎ (HasKey made.key memo → ⊥) → (bounded : Bool) → (after : List Entry) × IsPut bounded memo made after
put_memo memo made differ (inl has) bounded = (memo, inl (has, record { kept = λ x h. h; no_more = λ x h. h; differ = differ }))
put_memo memo made differ (inr none) false = (made ∷ memo, inr (none, record { kept = λ x h. h; no_more = λ x h. h; differ = (none, differ) }))
put_memo memo made differ (inr none) true = (made ∷ memo, inr (none, record { added = inl refl; no_more = λ x h. h; differ = (none, differ) }))

pub puts_step : (w : World) (i : ℕ) → IsWorld w → IsAllowed w (Put i) → ((key : Key) → HasKey key w.memo ⊎ (HasKey key w.memo → ⊥)) → HasStep w (Put i)
puts_step w i is (s, sample, made, was, filled) known =
    let t : MonitorSession = record s { phase = Begun sample; given = Some made } in
    let after = slice_set w.sessions i t in
    let memo = put_memo w.memo made is.differ (known made.key) w.is_bounded in (
      [],
      record { memo = memo.0; is_bounded = w.is_bounded; sessions = after },
      (s, t, sample, made, record { was = was; becomes = refl }, record { filled = filled; bound = refl; put = memo.1; after_it = refl }, refl),
    )
