-- What a history tells of a log with its entries is lawful, an overflow too.
use Rattle.std.proofs.Common.{◌≡◌, ℕ, zero, suc, ◌<◌, Bool, true, false, List, [], ◌∷◌, ◌++◌, append_assoc, length, take, Option, Some, None, refl, sym, ◌∙◌, ap, subst, arith}
use Rattle.std.specs.Prelude.{All, slice_get, if◌then◌else◌}
use Rattle.std.specs.List.{AllByRecursion}
use Rattle.std.proofs.lemmas.List.Elements.{All-head, All-tail, All-from_recursion}
use Rattle.poly_specs.proofs.IntLemmas.{product_positive}
use Rattle.run_specs.proofs.PassesLemmas.{LogPasses-longer, LogPasses-opening}
use Rattle.run_specs.proofs.HistoryLogLemmas.{HasLog, session_has_log}
use Rattle.run_specs.proofs.LawfulLemmas.{history_lawful}
use Rattle.run_specs.proofs.OverflowLemmas.{HaveHistories, IsGapOf, opening_histories, items_histories, key_passes}
use Rattle.poly_specs.specs.Fractions.{Fraction, IsFraction, zero_fraction}
use Rattle.run_specs.specs.declared.Verdict.{Verdict}
use Rattle.run_specs.specs.declared.Verdict.TheVariants.{Alarm, Safe, Impossible, Overflow}
use Rattle.run_specs.specs.Automaton.{Automaton, width}
use Rattle.run_specs.specs.WellFormed.{IsWellFormed}
use Rattle.run_specs.specs.Logs.{Sample, IsSample}
use Rattle.run_specs.specs.Passes.{LogPasses}
use Rattle.run_specs.specs.Verdicts.{IsLawful, StaysOverflow, AreLawfulAfter, AreLawful}
use Rattle.run_specs.specs.Keys.{State, Key, IsKey}
use Rattle.run_specs.specs.Outcomes.{Item, Outcome, Next, Passed, AreExact, KeyPasses, IsExact}
use Rattle.run_specs.specs.Openings.{IsOpening}
use Rattle.run_specs.specs.SessionHistories.{Entry, SessionHistory, AreLinked, states, some_marked, verdict_of, verdict_after, verdict_at, opening_states}
use Rattle.run_specs.specs.Sessions.{MonitorSession, IsMonitorSession, AreEntriesOf}

-- ---- an overflow

-- a gap's key in the words of the session: its automaton, its jumps and the states before
record IsKeyAfter (a : Automaton) (k : ℕ) (belief : List State) (t : Fraction) (s : Sample) (key : Key) : Type 0 where
  automaton : key.automaton ≡ a
  jumps : key.jumps ≡ k
  belief_is : key.belief ≡ belief
  is_key : IsKey key
  gap : IsGapOf t s key

histories_there : (a : Automaton) (k : ℕ) (before : List Sample) (t : Fraction) (s : Sample) (belief : List State) (key : Key) → IsKeyAfter a k belief t s key →
    HaveHistories a k before t belief → HaveHistories key.automaton key.jumps before t key.belief
histories_there a k before t s belief key is old =
    subst (λ b. HaveHistories b key.jumps before t key.belief) (sym is.automaton)
    (subst (λ j. HaveHistories a j before t key.belief) (sym is.jumps) (subst (HaveHistories a k before t) (sym is.belief_is) old))

entry_passes : (a : Automaton) (k : ℕ) (before : List Sample) (t : Fraction) (s : Sample) (belief : List State) (key : Key) → IsWellFormed a → IsKeyAfter a k belief t s key →
    HaveHistories a k before t belief → KeyPasses key → LogPasses a k (before ++ s ∷ [])
entry_passes a k before t s belief key wf is old passes =
    subst (λ b. LogPasses b k (before ++ s ∷ [])) is.automaton
    (subst (λ j. LogPasses key.automaton j (before ++ s ∷ [])) is.jumps
    (key_passes before t s key (subst IsWellFormed (sym is.automaton) wf) is.is_key is.gap passes (histories_there a k before t s belief key is old)))

entry_histories : (a : Automaton) (k : ℕ) (before : List Sample) (t : Fraction) (s : Sample) (belief : List State) (key : Key) (items : List Item) → IsWellFormed a →
    IsKeyAfter a k belief t s key → HaveHistories a k before t belief → AreExact key items → HaveHistories a k (before ++ s ∷ []) s.time (states items)
entry_histories a k before t s belief key items wf is old exact =
    subst (λ b. HaveHistories b k (before ++ s ∷ []) s.time (states items)) is.automaton
    (subst (λ j. HaveHistories key.automaton j (before ++ s ∷ []) s.time (states items)) is.jumps
    (items_histories before t s key items (subst IsWellFormed (sym is.automaton) wf) is.is_key is.gap exact (histories_there a k before t s belief key is old)))

key_after : (a : Automaton) (k m : ℕ) (belief : List State) (t : Fraction) (s : Sample) (ss : List Sample) (x : Entry) (es : List Entry) → AreLinked a k belief (x ∷ es) →
    AreEntriesOf t (s ∷ ss) (x ∷ es) → IsFraction t → All (IsSample m) (s ∷ ss) → IsKeyAfter a k belief t s x.key
key_after a k m belief t s ss x es linked entries ht all = record {
  automaton = linked.1;
  jumps = linked.2;
  belief_is = linked.3;
  is_key = linked.0.key;
  gap = record {
    gap = entries.0;
    duration = product_positive s.time.den t.den (All-head (IsSample m) s ss all).time.positive ht;
    seen = entries.1;
  };
}

-- what an entry tells, whatever the states before it
told_first : (belief : List State) (x : Entry) (es : List Entry) → verdict_after belief (x ∷ es) zero ≡ Some (verdict_of x.outcome)
told_first [] x es = refl
told_first (b ∷ bs) x es = refl

told_next : (belief : List State) (x : Entry) (es : List Entry) (i : ℕ) →
    verdict_after belief (x ∷ es) (suc i) ≡ elim x.outcome as (λ _. Option Verdict) [ Next items ↦ verdict_after (states items) es i | Passed ↦ Some Overflow ]
told_next [] x es i = refl
told_next (b ∷ bs) x es i = refl

no_overflow : (items : List Item) → verdict_of (Next items) ≡ Overflow → ⊥
no_overflow [] e = cc
no_overflow (x ∷ xs) e = go (some_marked (x ∷ xs)) e
  where
    go : (b : Bool) → (if b then Alarm else Safe) ≡ Overflow → ⊥
    go true e = cc
    go false e = cc

passes_at : (a : Automaton) (k m : ℕ) (before : List Sample) (belief : List State) (samples : List Sample) (es : List Entry) (t : Fraction) (i : ℕ) → IsWellFormed a →
    HaveHistories a k before t belief → AreLinked a k belief es → AreEntriesOf t samples es → IsFraction t → All (IsSample m) samples →
    verdict_after belief es i ≡ Some Overflow → i < length samples → LogPasses a k (before ++ take (suc i) samples)
passes_at a k m before belief [] es t i wf old linked entries ht all e h = absurd (omega arith)
passes_at a k m before [] (s ∷ ss) [] t i wf old linked entries ht all e h = absurd (let f : ⊥ = cc in f)
passes_at a k m before (b ∷ bs) (s ∷ ss) [] t i wf old linked entries ht all e h = absurd (let f : ⊥ = cc in f)
passes_at a k m before belief (s ∷ ss) (x ∷ es) t zero wf old linked entries ht all e h =
    first x.outcome linked.0.exact (let g = told_first belief x es in let f : verdict_of x.outcome ≡ Overflow = cc in f)
  where
    first : (o : Outcome) → IsExact x.key o → verdict_of o ≡ Overflow → LogPasses a k (before ++ s ∷ [])
    first Passed exact e = entry_passes a k before t s belief x.key wf (key_after a k m belief t s ss x es linked entries ht all) old exact
    first (Next items) exact e = absurd (no_overflow items e)
passes_at a k m before belief (s ∷ ss) (x ∷ es) t (suc i) wf old linked entries ht all e h =
    let sample = All-head (IsSample m) s ss all in
    next x.outcome linked.0.exact linked.4 (sym (told_next belief x es i) ∙ e)
    (λ b hs l f. passes_at a k m (before ++ s ∷ []) b ss es s.time i wf hs l entries.2 sample.time.positive (All-tail (IsSample m) s ss all) f (omega arith))
  where
    next : (o : Outcome) → IsExact x.key o → elim o as (λ _. Type 0) [ Next items ↦ AreLinked a k (states items) es | Passed ↦ es ≡ [] ] →
        elim o as (λ _. Option Verdict) [ Next items ↦ verdict_after (states items) es i | Passed ↦ Some Overflow ] ≡ Some Overflow →
        ((b : List State) → HaveHistories a k (before ++ s ∷ []) s.time b → AreLinked a k b es → verdict_after b es i ≡ Some Overflow → LogPasses a k ((before ++ s ∷ []) ++ take (suc i) ss)) →
        LogPasses a k (before ++ s ∷ take (suc i) ss)
    next Passed exact l e later =
        subst (LogPasses a k) (append_assoc before (s ∷ []) (take (suc i) ss)) (LogPasses-longer a k (before ++ s ∷ []) (take (suc i) ss)
        (entry_passes a k before t s belief x.key wf (key_after a k m belief t s ss x es linked entries ht all) old exact))
    next (Next items) exact l e later =
        subst (LogPasses a k) (append_assoc before (s ∷ []) (take (suc i) ss))
        (later (states items) (entry_histories a k before t s belief x.key items wf (key_after a k m belief t s ss x es linked entries ht all) old exact) l e)

-- ---- histories

history_passes : (hist : SessionHistory) (log : List Sample) (i : ℕ) → HasLog hist log → i < length log → verdict_at hist i ≡ Some Overflow →
    LogPasses hist.automaton hist.jumps (take (suc i) log)
history_passes hist log i is h e = go hist.opening refl is.history.opening e
  where
    go : (o : Option (List State)) → hist.opening ≡ o → IsOpening hist.automaton o →
        elim o as (λ _. Option Verdict) [ None ↦ Some Overflow | Some belief ↦ verdict_after belief hist.gaps i ] ≡ Some Overflow →
        LogPasses hist.automaton hist.jumps (take (suc i) log)
    go None f opening e = LogPasses-opening hist.automaton hist.jumps (take (suc i) log) opening
    go (Some belief) f opening e =
        let a : Automaton = hist.automaton in
        let k : ℕ = hist.jumps in
        let states_are : opening_states hist ≡ belief = ap (λ o. elim o as (λ _. List State) [ None ↦ [] | Some b ↦ b ]) f in
        passes_at a k (width a) [] belief log hist.gaps zero_fraction i is.history.automaton (opening_histories a k belief is.history.automaton opening)
        (subst (λ b. AreLinked a k b hist.gaps) states_are is.history.linked) is.entries (record { lt = tt }) is.is_log.each e h

pub history_all_lawful : (hist : SessionHistory) (log : List Sample) (i : ℕ) (v : Verdict) → HasLog hist log → i < length log → verdict_at hist i ≡ Some v →
    IsLawful hist.automaton hist.jumps (take (suc i) log) v
history_all_lawful hist log i Overflow is h e = history_passes hist log i is h e
history_all_lawful hist log i Alarm is h e = history_lawful hist log i Alarm is h e (λ f. cc)
history_all_lawful hist log i Safe is h e = history_lawful hist log i Safe is h e (λ f. cc)
history_all_lawful hist log i Impossible is h e = history_lawful hist log i Impossible is h e (λ f. cc)

pub session_all_lawful : (s : MonitorSession) (i : ℕ) (v : Verdict) → IsMonitorSession s → i < length s.log → verdict_at s.history i ≡ Some v →
    IsLawful s.history.automaton s.history.jumps (take (suc i) s.log) v
session_all_lawful s i v is h e = history_all_lawful s.history s.log i v (session_has_log s is) h e

-- ---- the replies to a log

overflow_stays : (belief : List State) (es : List Entry) (i : ℕ) → verdict_after belief es i ≡ Some Overflow → verdict_after belief es (suc i) ≡ Some Overflow
overflow_stays [] [] i e = absurd (let f : ⊥ = cc in f)
overflow_stays (b ∷ bs) [] i e = absurd (let f : ⊥ = cc in f)
overflow_stays belief (x ∷ es) zero e =
    told_next belief x es zero ∙ passed x.outcome (let g = told_first belief x es in let f : verdict_of x.outcome ≡ Overflow = cc in f)
  where
    passed : (o : Outcome) → verdict_of o ≡ Overflow → elim o as (λ _. Option Verdict) [ Next items ↦ verdict_after (states items) es zero | Passed ↦ Some Overflow ] ≡ Some Overflow
    passed (Next items) f = absurd (no_overflow items f)
    passed Passed f = refl
overflow_stays belief (x ∷ es) (suc i) e =
    told_next belief x es (suc i) ∙ next x.outcome (λ b f. overflow_stays b es i f) (sym (told_next belief x es i) ∙ e)
  where
    next : (o : Outcome) → ((b : List State) → verdict_after b es i ≡ Some Overflow → verdict_after b es (suc i) ≡ Some Overflow) →
        elim o as (λ _. Option Verdict) [ Next items ↦ verdict_after (states items) es i | Passed ↦ Some Overflow ] ≡ Some Overflow →
        elim o as (λ _. Option Verdict) [ Next items ↦ verdict_after (states items) es (suc i) | Passed ↦ Some Overflow ] ≡ Some Overflow
    next (Next items) later e = later (states items) e
    next Passed later e = refl

history_stays : (h : SessionHistory) (i : ℕ) → verdict_at h i ≡ Some Overflow → verdict_at h (suc i) ≡ Some Overflow
history_stays h i e = go h.opening e
  where
    go : (o : Option (List State)) → elim o as (λ _. Option Verdict) [ None ↦ Some Overflow | Some belief ↦ verdict_after belief h.gaps i ] ≡ Some Overflow →
        elim o as (λ _. Option Verdict) [ None ↦ Some Overflow | Some belief ↦ verdict_after belief h.gaps (suc i) ] ≡ Some Overflow
    go None e = refl
    go (Some belief) e = overflow_stays belief h.gaps i e

-- what is told place by place, where an overflow stays, as a list of replies
module _ (a : Automaton) (k : ℕ) where
  all_overflow : (told : ℕ → Option Verdict) (vs : List Verdict) → ((i : ℕ) → told i ≡ Some Overflow → told (suc i) ≡ Some Overflow) → told 0 ≡ Some Overflow →
      ((i : ℕ) → i < length vs → told i ≡ slice_get vs i) → AllByRecursion (λ v. v ≡ Overflow) vs
  all_overflow told [] stays e same = tt
  all_overflow told (v ∷ vs) stays e same =
      let here : told 0 ≡ Some v = same 0 (omega arith) in
      let is : v ≡ Overflow = cc in
      (is, all_overflow (λ i. told (suc i)) vs (λ i f. stays (suc i) f) (stays 0 e) (λ i h. same (suc i) (omega arith)))

  reply_stays : (told : ℕ → Option Verdict) (v : Verdict) (vs : List Verdict) → ((i : ℕ) → told i ≡ Some Overflow → told (suc i) ≡ Some Overflow) → told 0 ≡ Some v →
      ((i : ℕ) → i < length vs → told (suc i) ≡ slice_get vs i) → StaysOverflow v vs
  reply_stays told Overflow vs stays e same = All-from_recursion (λ v. v ≡ Overflow) vs (all_overflow (λ i. told (suc i)) vs (λ i f. stays (suc i) f) (stays 0 e) same)
  reply_stays told Alarm vs stays e same = tt
  reply_stays told Safe vs stays e same = tt
  reply_stays told Impossible vs stays e same = tt

  replies_lawful : (told : ℕ → Option Verdict) (before ss : List Sample) (vs : List Verdict) → ((i : ℕ) → told i ≡ Some Overflow → told (suc i) ≡ Some Overflow) → length vs ≡ length ss →
      ((i : ℕ) → i < length ss → told i ≡ slice_get vs i) → ((i : ℕ) (v : Verdict) → i < length ss → told i ≡ Some v → IsLawful a k (before ++ take (suc i) ss) v) →
      AreLawfulAfter a k before ss vs
  replies_lawful told before [] [] stays n same lawful = tt
  replies_lawful told before [] (v ∷ vs) stays n same lawful = absurd (omega arith)
  replies_lawful told before (s ∷ ss) [] stays n same lawful = absurd (omega arith)
  replies_lawful told before (s ∷ ss) (v ∷ vs) stays n same lawful =
      let here : told 0 ≡ Some v = same 0 (omega arith) in (
        lawful 0 v (omega arith) here,
        reply_stays told v vs stays here (λ i h. same (suc i) (omega arith)),
        replies_lawful (λ i. told (suc i)) (before ++ s ∷ []) ss vs (λ i f. stays (suc i) f) (omega arith) (λ i h. same (suc i) (omega arith))
            (λ i w h e. subst (λ log. IsLawful a k log w) (sym (append_assoc before (s ∷ []) (take (suc i) ss))) (lawful (suc i) w (omega arith) e)),
      )

pub session_replies_lawful : (s : MonitorSession) (replies : List Verdict) → IsMonitorSession s → length replies ≡ length s.log →
    ((i : ℕ) → i < length s.log → verdict_at s.history i ≡ slice_get replies i) → AreLawful s.history.automaton s.history.jumps s.log replies
session_replies_lawful s replies is n same =
    replies_lawful s.history.automaton s.history.jumps (verdict_at s.history) [] s.log replies (history_stays s.history) n same (λ i v h e. session_all_lawful s i v is h e)
