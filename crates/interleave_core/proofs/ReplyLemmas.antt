-- The replies that are told to each session of a world are lawful.
use Rattle.std.proofs.Common.{◌≡◌, ◌≢◌, ◌⊎◌, inl, inr, ℕ, suc, ◌+◌, Bool, true, false, List, [], ◌∷◌, ◌++◌, length, length-append, Option, Some, None, refl, sym, ◌∙◌, ap, subst, arith}
use Rattle.std.specs.Prelude.{All, slice_get, slice_set, if◌then◌else◌, ◌==◌}
use Rattle.std.proofs.lemmas.Bool.{cases_eq, eq-eqb, ne_eqb}
use Rattle.std.proofs.lemmas.List.{take_all, append_assoc, append-nil}
use Rattle.std.proofs.lemmas.List.Elements.{All-nil, All-cons, All-head, All-tail}
use Rattle.poly_specs.specs.Lists.{In}
use Rattle.run_specs.specs.declared.Verdict.{Verdict}
use Rattle.run_specs.specs.declared.Verdict.TheVariants.{Alarm, Safe, Impossible, Overflow}
use Rattle.run_specs.specs.Logs.{Sample}
use Rattle.run_specs.specs.Keys.{State}
use Rattle.run_specs.specs.SessionHistories.{Entry, SessionHistory, has_overflowed, verdict_at}
use Rattle.run_specs.specs.Sessions.{MonitorSession, IsMonitorSession, accepted}
use Rattle.run_specs.specs.Verdicts.{IsLawful, StaysOverflow, AreLawfulAfter}
use Rattle.run_specs.specs.Worlds.{World, IsWorld, Event, Begin, LookHit, LookMiss, Fill, Put, Finish, Told, Changes, IsFinish, IsStep, IsEvent, LeadTo, joined, verdicts_of}
use Rattle.run_specs.proofs.ListLemmas.{in_get}
use Rattle.run_specs.proofs.ReplyLemmas.{session_all_lawful}
use Rattle.run_specs.proofs.WorldLemmas.{steps_keep}
use Rattle.live_session.specs.Entries.{opening_of, verdict_with}
use Rattle.live_session.proofs.VerdictLemmas.{verdict_told, told_overflowed, overflow_stays}
use Rattle.interleave_core.specs.Replies.{TellsLawfully}
use Rattle.interleave_core.proofs.ListLemmas.{get_set_same, get_set_other}

-- ---- a finished sample

-- after an overflow there is nothing but overflows
overflows : (s t : MonitorSession) (sample : Sample) (v : Verdict) → IsMonitorSession s → IsFinish sample v s t → has_overflowed s.history ≡ true → v ≡ Overflow
overflows s t sample v is f over = by s.history.opening refl
  where
    told : (opened : Bool) (belief : List State) → s.history.opening ≡ opening_of opened belief → v ≡ Overflow
    told opened belief e =
        let same : Some v ≡ Some (verdict_with opened s.history.gaps s.given) = sym f.tells ∙ verdict_told s sample opened belief is f.begun f.nothing_wanted e in
        let v_is : v ≡ verdict_with opened s.history.gaps s.given = cc in
        v_is ∙ overflow_stays s sample opened belief is f.begun e over

    by : (o : Option (List State)) → s.history.opening ≡ o → v ≡ Overflow
    by None e = told false [] e
    by (Some belief) e = told true belief e

joined_automaton : (h : SessionHistory) (g : Option Entry) → (joined h g).automaton ≡ h.automaton
joined_automaton h None = refl
joined_automaton h (Some e) = refl

joined_jumps : (h : SessionHistory) (g : Option Entry) → (joined h g).jumps ≡ h.jumps
joined_jumps h None = refl
joined_jumps h (Some e) = refl

-- what a finished sample leaves
record Finished (s t : MonitorSession) (v : Verdict) : Type 0 where
  sample : Sample
  log : t.log ≡ s.log ++ sample ∷ []
  automaton : t.history.automaton ≡ s.history.automaton
  jumps : t.history.jumps ≡ s.history.jumps
  columns : t.columns ≡ s.columns
  lawful : IsLawful s.history.automaton s.history.jumps (s.log ++ sample ∷ []) v
  stays : has_overflowed s.history ≡ true → v ≡ Overflow
  passes_on : v ≡ Overflow → has_overflowed t.history ≡ true

finished : (s t : MonitorSession) (sample : Sample) (v : Verdict) → IsMonitorSession s → IsMonitorSession t → IsFinish sample v s t → Finished s t v
finished s t sample v is ist f =
    let automaton = ap (λ (x : MonitorSession). x.history.automaton) f.after ∙ joined_automaton s.history s.given in
    let jumps = ap (λ (x : MonitorSession). x.history.jumps) f.after ∙ joined_jumps s.history s.given in
    let log : t.log ≡ s.log ++ accepted s sample ∷ [] = ap (λ (x : MonitorSession). x.log) f.after in
    let tells : verdict_at t.history (length s.log) ≡ Some v = ap (λ (x : MonitorSession). verdict_at x.history (length s.log)) f.after ∙ f.tells in
    let long : length t.log ≡ length s.log + 1 = ap length log ∙ length-append s.log (accepted s sample ∷ []) in
    let here = session_all_lawful t (length s.log) v ist (omega (arith, long)) tells in
    let whole = subst (λ ss. IsLawful t.history.automaton t.history.jumps ss v) (take_all (suc (length s.log)) t.log (omega (arith, long)) ∙ log) here in
    record {
      sample = accepted s sample;
      log = log;
      automaton = automaton;
      jumps = jumps;
      columns = ap (λ (x : MonitorSession). x.columns) f.after;
      lawful = subst (λ a. IsLawful a s.history.jumps (s.log ++ accepted s sample ∷ []) v) automaton
          (subst (λ k. IsLawful t.history.automaton k (s.log ++ accepted s sample ∷ []) v) jumps whole);
      stays = overflows s t sample v is f;
      passes_on = λ e. told_overflowed t.history (length s.log) (tells ∙ ap (λ x. Some x) e);
    }

-- ---- a session over one step

-- it keeps its log and its history
record Stands (s t : MonitorSession) : Type 0 where
  log : t.log ≡ s.log
  history : t.history ≡ s.history
  columns : t.columns ≡ s.columns

-- it stands, and is told nothing; or it is told the reply to one more sample
abbrev Moves : MonitorSession → MonitorSession → List Verdict → Type 0
Moves s t vs = (Stands s t × (vs ≡ [])) ⊎ ((v : Verdict) × Finished s t v × (vs ≡ v ∷ []))

by_same : (i : ℕ) (v : Verdict) (ts : List Told) → verdicts_of i (record { session = i; verdict = v } ∷ ts) ≡ v ∷ verdicts_of i ts
by_same i v ts = ap (λ b. if b then v ∷ verdicts_of i ts else verdicts_of i ts) (eq-eqb i i refl)

by_other : (i j : ℕ) (v : Verdict) → j ≢ i → verdicts_of i (record { session = j; verdict = v } ∷ []) ≡ []
by_other i j v n = ap (λ b. if b then v ∷ [] else []) (ne_eqb j i n)

abbrev SessionMoves : List MonitorSession → List MonitorSession → ℕ → List Told → Type 0
SessionMoves before after i told =
    (s : MonitorSession) → slice_get before i ≡ Some s → IsMonitorSession s → ((t : MonitorSession) → In t after → IsMonitorSession t) →
    (t : MonitorSession) × (slice_get after i ≡ Some t) × Moves s t (verdicts_of i told)

-- of a step that tells nothing
quiet : (before after : List MonitorSession) (i j : ℕ) (s t : MonitorSession) (told : List Told) → Changes j before s t after → Stands s t → told ≡ [] → SessionMoves before after i told
quiet before after i j s t told c stands e x has is all = elim (cases_eq j i) [
  | inl same ↦ (
      let at_i : slice_get before j ≡ Some x = ap (λ k. slice_get before k) same ∙ has in
      let s_is : s ≡ x = (let y : Some s ≡ Some x = sym c.was ∙ at_i in cc) in (
        t,
        ap (λ ss. slice_get ss i) c.becomes ∙ ap (λ k. slice_get (slice_set before j t) k) (sym same) ∙ get_set_same before j s t c.was,
        inl (subst (λ y. Stands y t) s_is stands, ap (λ ts. verdicts_of i ts) e),
      ))
  | inr other ↦ (x, ap (λ ss. slice_get ss i) c.becomes ∙ get_set_other before i j t other ∙ has, inl (record { log = refl; history = refl; columns = refl }, ap (λ ts. verdicts_of i ts) e))
]

-- of a step that tells a verdict
telling : (before after : List MonitorSession) (i j : ℕ) (s t : MonitorSession) (sample : Sample) (v : Verdict) (told : List Told) → Changes j before s t after → IsFinish sample v s t →
    told ≡ record { session = j; verdict = v } ∷ [] → SessionMoves before after i told
telling before after i j s t sample v told c f e x has is all = elim (cases_eq j i) [
  | inl same ↦ (
      let at_i : slice_get before j ≡ Some x = ap (λ k. slice_get before k) same ∙ has in
      let s_is : s ≡ x = (let y : Some s ≡ Some x = sym c.was ∙ at_i in cc) in
      let there : slice_get after i ≡ Some t = ap (λ ss. slice_get ss i) c.becomes ∙ ap (λ k. slice_get (slice_set before j t) k) (sym same) ∙ get_set_same before j s t c.was in
      let ends = finished x t sample v is (all t (in_get after i t there)) (subst (λ y. IsFinish sample v y t) s_is f) in
      (t, there, inr (v, ends, ap (λ ts. verdicts_of i ts) (e ∙ ap (λ k. record { session = k; verdict = v } ∷ []) same) ∙ by_same i v [])))
  | inr other ↦ (
    x,
    ap (λ ss. slice_get ss i) c.becomes ∙ get_set_other before i j t other ∙ has,
    inl (record { log = refl; history = refl; columns = refl }, ap (λ ts. verdicts_of i ts) e ∙ by_other i j v other),
  )
]

moves : (w v : World) (event : Event) (told : List Told) (i : ℕ) → IsStep w event told v → SessionMoves w.sessions v.sessions i told
moves w v (Begin j sample) told i (s, t, c, b, m, e) =
    quiet w.sessions v.sessions i j s t told c (record { log = ap (λ (x : MonitorSession). x.log) b.after; history = ap (λ (x : MonitorSession). x.history) b.after; columns = ap (λ (x : MonitorSession). x.columns) b.after }) e
moves w v (LookHit j) told i (s, t, y, c, b, m, e) =
    quiet w.sessions v.sessions i j s t told c (record { log = ap (λ (x : MonitorSession). x.log) b.after; history = ap (λ (x : MonitorSession). x.history) b.after; columns = ap (λ (x : MonitorSession). x.columns) b.after }) e
moves w v (LookMiss j) told i (s, t, sample, c, b, m, e) =
    quiet w.sessions v.sessions i j s t told c (record { log = ap (λ (x : MonitorSession). x.log) b.after; history = ap (λ (x : MonitorSession). x.history) b.after; columns = ap (λ (x : MonitorSession). x.columns) b.after }) e
moves w v (Fill j) told i (s, t, sample, made, c, b, m, e) =
    quiet w.sessions v.sessions i j s t told c (record { log = ap (λ (x : MonitorSession). x.log) b.after; history = ap (λ (x : MonitorSession). x.history) b.after; columns = ap (λ (x : MonitorSession). x.columns) b.after }) e
moves w v (Put j) told i (s, t, sample, made, c, b, e) =
    quiet w.sessions v.sessions i j s t told c (record { log = ap (λ (x : MonitorSession). x.log) b.after_it; history = ap (λ (x : MonitorSession). x.history) b.after_it; columns = ap (λ (x : MonitorSession). x.columns) b.after_it }) e
moves w v (Finish j) told i (s, t, sample, verdict, c, b, m, e) = telling w.sessions v.sessions i j s t sample verdict told c b e

-- ---- a session over a list of steps

-- as `AreRepliesTo`, with the overflow of the history
record Replies (s t : MonitorSession) (vs : List Verdict) : Type 0 where
  samples : List Sample
  log : t.log ≡ s.log ++ samples
  automaton : t.history.automaton ≡ s.history.automaton
  jumps : t.history.jumps ≡ s.history.jumps
  columns : t.columns ≡ s.columns
  lawful : AreLawfulAfter s.history.automaton s.history.jumps s.log samples vs
  stays : has_overflowed s.history ≡ true → All (λ v. v ≡ Overflow) vs

no_replies : (s t : MonitorSession) → s ≡ t → Replies s t []
no_replies s t e = record {
  samples = [];
  log = ap (λ (x : MonitorSession). x.log) (sym e) ∙ sym (append-nil s.log);
  automaton = ap (λ (x : MonitorSession). x.history.automaton) (sym e);
  jumps = ap (λ (x : MonitorSession). x.history.jumps) (sym e);
  columns = ap (λ (x : MonitorSession). x.columns) (sym e);
  lawful = tt;
  stays = λ o. All-nil (λ v. v ≡ Overflow);
}

after_standing : (s u t : MonitorSession) (vs : List Verdict) → Stands s u → Replies u t vs → Replies s t vs
after_standing s u t vs st r =
    let automaton = ap (λ (h : SessionHistory). h.automaton) st.history in
    let jumps = ap (λ (h : SessionHistory). h.jumps) st.history in
    record {
      samples = r.samples;
      log = r.log ∙ ap (λ ss. ss ++ r.samples) st.log;
      automaton = r.automaton ∙ automaton;
      jumps = r.jumps ∙ jumps;
      columns = r.columns ∙ st.columns;
      lawful = subst (λ a. AreLawfulAfter a s.history.jumps s.log r.samples vs) automaton
          (subst (λ k. AreLawfulAfter u.history.automaton k s.log r.samples vs) jumps
          (subst (λ ss. AreLawfulAfter u.history.automaton u.history.jumps ss r.samples vs) st.log r.lawful));
      stays = λ o. r.stays (ap (λ (h : SessionHistory). has_overflowed h) st.history ∙ o);
    }

stays_over : (v : Verdict) (vs : List Verdict) → (v ≡ Overflow → All (λ x. x ≡ Overflow) vs) → StaysOverflow v vs
stays_over Overflow vs h = h refl
stays_over Alarm vs h = tt
stays_over Safe vs h = tt
stays_over Impossible vs h = tt

after_finished : (s u t : MonitorSession) (v : Verdict) (vs : List Verdict) → Finished s u v → Replies u t vs → Replies s t (v ∷ vs)
after_finished s u t v vs f r = record {
  samples = f.sample ∷ r.samples;
  log = r.log ∙ ap (λ ss. ss ++ r.samples) f.log ∙ append_assoc s.log (f.sample ∷ []) r.samples;
  automaton = r.automaton ∙ f.automaton;
  jumps = r.jumps ∙ f.jumps;
  columns = r.columns ∙ f.columns;
  lawful = (
    f.lawful,
    stays_over v vs (λ e. r.stays (f.passes_on e)),
    subst (λ a. AreLawfulAfter a s.history.jumps (s.log ++ f.sample ∷ []) r.samples vs) f.automaton
        (subst (λ k. AreLawfulAfter u.history.automaton k (s.log ++ f.sample ∷ []) r.samples vs) f.jumps
        (subst (λ ss. AreLawfulAfter u.history.automaton u.history.jumps ss r.samples vs) f.log r.lawful)),
  );
  stays = λ o. All-cons (λ x. x ≡ Overflow) v vs (f.stays o) (r.stays (f.passes_on (f.stays o)));
}

verdicts-append : (i : ℕ) (xs ys : List Told) → verdicts_of i (xs ++ ys) ≡ verdicts_of i xs ++ verdicts_of i ys
verdicts-append i [] ys = refl
verdicts-append i (x ∷ xs) ys = go (verdicts-append i xs ys) (x.session == i)
  where
    go : verdicts_of i (xs ++ ys) ≡ verdicts_of i xs ++ verdicts_of i ys → (b : Bool) →
        (if b then x.verdict ∷ verdicts_of i (xs ++ ys) else verdicts_of i (xs ++ ys)) ≡ (if b then x.verdict ∷ verdicts_of i xs else verdicts_of i xs) ++ verdicts_of i ys
    go e true = ap (λ vs. x.verdict ∷ vs) e
    go e false = e

abbrev AreTold : World → World → ℕ → List Told → Type 0
AreTold w v i told = (s : MonitorSession) → slice_get w.sessions i ≡ Some s → (t : MonitorSession) × (slice_get v.sessions i ≡ Some t) × Replies s t (verdicts_of i told)

all_told : (w v : World) (events : List Event) (told : List Told) (i : ℕ) → IsWorld w → All IsEvent events → LeadTo w events told v → AreTold w v i told
all_told w v [] told i is ev (m, same, e) s has =
    (s, ap (λ ss. slice_get ss i) (sym same) ∙ has, subst (λ ts. Replies s s (verdicts_of i ts)) (sym e) (no_replies s s refl))
all_told w v (event ∷ events) told i is ev (u, now, later, step, rest, e) s has =
    let isu = steps_keep w u event now is (All-head IsEvent event events ev) step in
    let first = moves w u event now i step s has (is.sessions s (in_get w.sessions i s has)) isu.sessions in
    let second = all_told u v events later i isu (All-tail IsEvent event events ev) rest first.0 first.1 in
    let split : verdicts_of i told ≡ verdicts_of i now ++ verdicts_of i later = ap (λ ts. verdicts_of i ts) e ∙ verdicts-append i now later in
    (second.0, second.1, subst (λ vs. Replies s second.0 vs) (sym split) (chained first.0 second.0 (verdicts_of i now) (verdicts_of i later) first.2 second.2))
  where
    chained : (x t : MonitorSession) (vs ws : List Verdict) → Moves s x vs → Replies x t ws → Replies s t (vs ++ ws)
    chained x t vs ws (inl st) r = subst (λ xs. Replies s t (xs ++ ws)) (sym st.1) (after_standing s x t ws st.0 r)
    chained x t vs ws (inr f) r = subst (λ xs. Replies s t (xs ++ ws)) (sym f.2) (after_finished s x t f.0 ws f.1 r)

pub replies_are_lawful : (w v : World) (events : List Event) (told : List Told) → IsWorld w → All IsEvent events → LeadTo w events told v → TellsLawfully w told v
replies_are_lawful w v events told is ev lead i s has =
    let r = all_told w v events told i is ev lead s has in (
      r.0,
      r.1,
      record {
        samples = r.2.samples;
        log = r.2.log;
        automaton = r.2.automaton;
        jumps = r.2.jumps;
        columns = r.2.columns;
        lawful = r.2.lawful;
        stays = λ j e. r.2.stays (told_overflowed s.history j e);
      },
    )
