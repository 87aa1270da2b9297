-- A history tells the verdict of each log with its entries: its states are where runs of the log end.
use Rattle.std.proofs.Common.{◌≡◌, ◌≢◌, inl, inr, ℕ, zero, suc, ◌<◌, Bool, true, false, ◌||◌, List, [], ◌∷◌, ◌++◌, append_assoc, length, take, Option, Some, None, refl, sym, ◌∙◌, ap, subst, arith}
use Rattle.std.specs.Prelude.{All, if◌then◌else◌}
use Rattle.std.proofs.lemmas.List.{length-append}
use Rattle.std.proofs.lemmas.List.Elements.{All-head, All-tail}
use Rattle.run_specs.proofs.RunLemmas.{IsRun-prefix}
use Rattle.run_specs.proofs.SessionLemmas.{last_from}
use Rattle.run_specs.proofs.RunEndLemmas.{marked, before_gap, gap_start, IsKeyOf, last_from-append, key_of}
use Rattle.run_specs.proofs.HistoryLogLemmas.{HasLog}
use Rattle.run_specs.proofs.StateHistoryLemmas.{AreFollowed, opening_are, number_of, item_number}
use Rattle.run_specs.proofs.StateLemmas.{entry_are, mark_visits, state_of_run, run_of_state}
use Rattle.poly_specs.specs.Lists.{In}
use Rattle.poly_specs.specs.Fractions.{Fraction, IsFraction, zero_fraction}
use Rattle.run_specs.specs.declared.Verdict.{Verdict}
use Rattle.run_specs.specs.declared.Verdict.TheVariants.{Alarm, Safe, Impossible, Overflow}
use Rattle.run_specs.specs.Automaton.{Automaton, width}
use Rattle.run_specs.specs.Logs.{Sample, IsSample}
use Rattle.run_specs.specs.Runs.{Run, IsRun, VisitsUnsafe, start_point}
use Rattle.run_specs.specs.Verdicts.{IsPossible, IsLawful}
use Rattle.run_specs.specs.Histories.{History}
use Rattle.run_specs.specs.Keys.{State}
use Rattle.run_specs.specs.Outcomes.{Item, Outcome, Next, Passed, IsExact}
use Rattle.run_specs.specs.Openings.{IsOpening}
use Rattle.run_specs.specs.SessionHistories.{Entry, SessionHistory, AreLinked, states, some_marked, verdict_of, verdict_after, verdict_at, opening_states}
use Rattle.run_specs.specs.Sessions.{AreEntriesOf}
use Rattle.run_specs.specs.StateHistories.{opening_histories, item_histories}

-- ---- the verdict of a log of at least one sample

some_marked_in : (items : List Item) (y : Item) → In y items → y.state.seen_unsafe ≡ true → some_marked items ≡ true
some_marked_in [] y h e = absurd h
some_marked_in (x ∷ items) y (inl i) e = or_first x.state.seen_unsafe (some_marked items) (ap (λ (z : Item). z.state.seen_unsafe) (sym i) ∙ e)
  where
    or_first : (a b : Bool) → a ≡ true → (a || b) ≡ true
    or_first true b e = refl
    or_first false b e = absurd (let f : ⊥ = cc in f)
some_marked_in (x ∷ items) y (inr i) e = or_second x.state.seen_unsafe (some_marked items) (some_marked_in items y i e)
  where
    or_second : (a b : Bool) → b ≡ true → (a || b) ≡ true
    or_second true b e = refl
    or_second false b e = e

marked_item : (items : List Item) → some_marked items ≡ true → (y : Item) × In y items × (y.state.seen_unsafe ≡ true)
marked_item [] e = absurd (let f : ⊥ = cc in f)
marked_item (x ∷ items) e = go x.state.seen_unsafe refl e (λ f. marked_item items f)
  where
    go : (b : Bool) → x.state.seen_unsafe ≡ b → (b || some_marked items) ≡ true → (some_marked items ≡ true → (y : Item) × In y items × (y.state.seen_unsafe ≡ true)) →
        (y : Item) × In y (x ∷ items) × (y.state.seen_unsafe ≡ true)
    go true f e later = (x, inl refl, f)
    go false f e later = let (y, i, m) = later e in (y, inr i, m)

verdict_lawful : (a : Automaton) (k : ℕ) (log : List Sample) (items : List Item) (hs : List History) (v : Verdict) → AreFollowed a k log (states items) hs → 0 < length log → verdict_of (Next items) ≡ v → IsLawful a k log v
verdict_lawful a k log [] hs v f h e =
    subst (IsLawful a k log) e (λ possible. let (j, x) = state_of_run a k log [] hs f h possible.0 possible.1 in no_number j x.below)
  where
    no_number : (j : ℕ) → j < 0 → ⊥
    no_number j l = omega arith
verdict_lawful a k log (x ∷ xs) hs v f h e = go (some_marked (x ∷ xs)) refl e
  where
    -- a run that ends in an item's state
    item_run : (y : Item) → In y (x ∷ xs) → (run : Run) × IsRun a k log run × (marked a run.gaps ≡ y.state.seen_unsafe)
    item_run y i =
        let (j, below, ey, eh) = number_of hs (x ∷ xs) y i in
        let (run, r) = run_of_state a k log (states (x ∷ xs)) hs f j below in (run, r.run_of, r.mark ∙ ap (λ (z : State). z.seen_unsafe) ey)

    none_marked : (run : Run) → IsRun a k log run → VisitsUnsafe a run → some_marked (x ∷ xs) ≡ false → ⊥
    none_marked run r v none =
        let (j, z) = state_of_run a k log (states (x ∷ xs)) hs f h run r in
        let (y, i, ey, eh) = item_number hs (x ∷ xs) j z.below in
        let here : y.state.seen_unsafe ≡ true = ap (λ (w : State). w.seen_unsafe) (sym ey) ∙ sym z.mark ∙ (mark_visits a run (marked a run.gaps) refl).1 v in
        let there = some_marked_in (x ∷ xs) y i here in
        let b : ⊥ = cc in b

    go : (b : Bool) → some_marked (x ∷ xs) ≡ b → (if b then Alarm else Safe) ≡ v → IsLawful a k log v
    go true m e =
        let (y, i, t) = marked_item (x ∷ xs) m in
        let (run, r, mark) = item_run y i in
        subst (IsLawful a k log) e (run, r, (mark_visits a run (marked a run.gaps) refl).0 (mark ∙ t))
    go false m e =
        let (run, r, mark) = item_run x (inl refl) in
        subst (IsLawful a k log) e ((run, r), λ alarmed. none_marked alarmed.0 alarmed.1 alarmed.2 m)

-- ---- entries

no_state_no_run : (a : Automaton) (k : ℕ) (before : List Sample) (hs : List History) (s : Sample) (more : List Sample) → AreFollowed a k before [] hs →
    IsPossible a k (before ++ s ∷ more) → ⊥
no_state_no_run a k before hs s more f (run, r) =
    let e : before ++ s ∷ more ≡ (before ++ s ∷ []) ++ more = sym (append_assoc before (s ∷ []) more) in
    let shorter = IsRun-prefix a k (before ++ s ∷ []) more run (subst (λ log. IsRun a k log run) e r) in
    let (b, g, same, next) = before_gap a k before s (record run { gaps = take (length (before ++ s ∷ [])) run.gaps }) shorter in
    let (start, inside) = gap_start a k before s b g next in
    let (j, x) = f.all b (start_point g) (record { run_of = next.run_of; ends = sym next.continues.same_point; at = start; inside = inside }) in
    omega (arith, x.below)

lawful_at : (a : Automaton) (k m : ℕ) (before : List Sample) (belief : List State) (hs : List History) (samples : List Sample) (es : List Entry) (t : Fraction) (i : ℕ) (v : Verdict) →
    AreFollowed a k before belief hs → AreLinked a k belief es → AreEntriesOf t samples es → t ≡ last_from zero_fraction before → IsFraction t → All (IsSample m) samples →
    verdict_after belief es i ≡ Some v → v ≢ Overflow → i < length samples → IsLawful a k (before ++ take (suc i) samples) v
lawful_at a k m before belief hs [] es t i v step linked entries et ht all e n h = absurd (omega arith)
lawful_at a k m before [] hs (s ∷ ss) [] t i v step linked entries et ht all e n h =
    let same : Impossible ≡ v = cc in
    subst (IsLawful a k (before ++ s ∷ take i ss)) same (λ possible. no_state_no_run a k before hs s (take i ss) step possible)
lawful_at a k m before (b ∷ bs) hs (s ∷ ss) [] t i v step linked entries et ht all e n h = absurd (let f : ⊥ = cc in f)
lawful_at a k m before belief hs (s ∷ ss) (x ∷ es) t zero v step linked entries et ht all e n h =
    let key = key_of before s t m x linked.0 (All-head (IsSample m) s ss all) et ht entries.0 entries.1 in
    first x.outcome linked.0.exact key (told belief e)
  where
    told : (belief : List State) → verdict_after belief (x ∷ es) zero ≡ Some v → verdict_of x.outcome ≡ v
    told [] e = cc
    told (b ∷ bs) e = cc

    first : (o : Outcome) → IsExact x.key o → IsKeyOf before s x.key → verdict_of o ≡ v → IsLawful a k (before ++ s ∷ []) v
    first Passed exact key e = absurd (n (sym e))
    first (Next items) exact key e =
        verdict_lawful a k (before ++ s ∷ []) items (item_histories hs items) v (entry_are a k before s belief hs x.key items linked.1 linked.2 linked.3 key exact step)
        (omega (arith, length-append before (s ∷ []))) e
lawful_at a k m before belief hs (s ∷ ss) (x ∷ es) t (suc i) v step linked entries et ht all e n h =
    let sample = All-head (IsSample m) s ss all in
    let key = key_of before s t m x linked.0 sample et ht entries.0 entries.1 in
    next x.outcome linked.0.exact linked.4 key (told belief e)
    (λ b hs st l f. lawful_at a k m (before ++ s ∷ []) b hs ss es s.time i v st l entries.2 (sym (last_from-append zero_fraction before s)) sample.time.positive (All-tail (IsSample m) s ss all) f n (omega arith))
  where
    told : (belief : List State) → verdict_after belief (x ∷ es) (suc i) ≡ Some v → elim x.outcome as (λ _. Option Verdict) [ Next items ↦ verdict_after (states items) es i | Passed ↦ Some Overflow ] ≡ Some v
    told [] e = e
    told (b ∷ bs) e = e

    next : (o : Outcome) → IsExact x.key o → elim o as (λ _. Type 0) [ Next items ↦ AreLinked a k (states items) es | Passed ↦ es ≡ [] ] → IsKeyOf before s x.key →
        elim o as (λ _. Option Verdict) [ Next items ↦ verdict_after (states items) es i | Passed ↦ Some Overflow ] ≡ Some v →
        ((b : List State) (hs : List History) → AreFollowed a k (before ++ s ∷ []) b hs → AreLinked a k b es → verdict_after b es i ≡ Some v → IsLawful a k ((before ++ s ∷ []) ++ take (suc i) ss) v) →
        IsLawful a k (before ++ s ∷ take (suc i) ss) v
    next Passed exact l key e later = absurd (n (let f : Overflow ≡ v = cc in sym f))
    next (Next items) exact l key e later =
        subst (λ log. IsLawful a k log v) (append_assoc before (s ∷ []) (take (suc i) ss))
        (later (states items) (item_histories hs items) (entry_are a k before s belief hs x.key items linked.1 linked.2 linked.3 key exact step) l e)

-- ---- histories

pub history_lawful : (hist : SessionHistory) (log : List Sample) (i : ℕ) (v : Verdict) → HasLog hist log → i < length log → verdict_at hist i ≡ Some v → v ≢ Overflow →
    IsLawful hist.automaton hist.jumps (take (suc i) log) v
history_lawful hist log i v is h e n = go hist.opening refl is.history.opening e
  where
    go : (o : Option (List State)) → hist.opening ≡ o → IsOpening hist.automaton o →
        elim o as (λ _. Option Verdict) [ None ↦ Some Overflow | Some belief ↦ verdict_after belief hist.gaps i ] ≡ Some v →
        IsLawful hist.automaton hist.jumps (take (suc i) log) v
    go None f opening e = absurd (n (let g : Overflow ≡ v = cc in sym g))
    go (Some belief) f opening e =
        let a : Automaton = hist.automaton in
        let k : ℕ = hist.jumps in
        let states_are : opening_states hist ≡ belief = ap (λ o. elim o as (λ _. List State) [ None ↦ [] | Some b ↦ b ]) f in
        lawful_at a k (width a) [] belief (opening_histories belief) log hist.gaps zero_fraction i v (opening_are a k belief opening)
        (subst (λ b. AreLinked a k b hist.gaps) states_are is.history.linked) is.entries refl (record { lt = tt }) is.is_log.each e n h
