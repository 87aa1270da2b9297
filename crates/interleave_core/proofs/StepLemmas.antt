-- The world after a step, by the parts that it is stored in.
use Rattle.std.proofs.Common.{◌≡◌, inl, inr, ℕ, zero, suc, ◌+◌, ◌-◌, ◌^◌, ◌≤◌, false, List, [], ◌∷◌, length, Some, None, refl, sym, ◌∙◌, ap, subst, arith}
use Rattle.std.specs.Prelude.{All, slice_get, slice_set, is_some}
use Rattle.std.proofs.lemmas.List.Elements.{All-head, All-tail}
use Rattle.poly_specs.specs.Lists.{In}
use Rattle.run_specs.specs.declared.Verdict.{Verdict}
use Rattle.run_specs.specs.Logs.{Sample}
use Rattle.run_specs.specs.Keys.{Key}
use Rattle.run_specs.specs.SessionHistories.{Entry}
use Rattle.run_specs.specs.Sessions.{MonitorSession, IsMonitorSession, Phase, Idle, Begun, Missed, Filled, key_for, wanted_in, wanted}
use Rattle.run_specs.specs.Worlds.{IsWorld, Event, Begin, LookHit, LookMiss, Fill, Put, Finish, Told, HasKey, KeepsMemo, Changes, IsBegin, IsFill, IsFinish, IsPut, IsStep, IsEvent}
use Rattle.run_specs.proofs.WorldLemmas.{steps_keep}
use Rattle.gap_keys.specs.declared.outcomes.Outcome.{Outcome}
use Rattle.succ_memo.specs.declared.memo.Totals.{Totals}
use Rattle.succ_memo.specs.Memo.{Memo, next_count, memo_of, no_totals}
use Rattle.interleave_core.specs.Views.{shown, StaysAlike, world_of, counted_world, after_event, after_hit, after_miss, after_put, tickets_at, tickets_of, AreCounts, IsKept}
use Rattle.interleave_core.specs.Played.{IsTaken}
use Rattle.interleave_core.specs.Seats.{ShowsItsPhase}

-- ---- one session changes

length_set : {A : Type 0} (xs : List A) (i : ℕ) (t : A) → length (slice_set xs i t) ≡ length xs
length_set [] i t = refl
length_set (x ∷ xs) zero t = refl
length_set (x ∷ xs) (suc i) t = ap suc (length_set xs i t)

tickets_set : (ss : List MonitorSession) (i : ℕ) (s t : MonitorSession) → slice_get ss i ≡ Some s → tickets_of (slice_set ss i t) + tickets_at s.phase ≡ tickets_of ss + tickets_at t.phase
tickets_set [] i s t e = absurd (let b : ⊥ = cc in b)
tickets_set (x ∷ ss) zero s t e =
    let same : x ≡ s = cc in
    let phases : tickets_at x.phase ≡ tickets_at s.phase = ap (λ (y : MonitorSession). tickets_at y.phase) same in
    omega (arith, phases)
tickets_set (x ∷ ss) (suc i) s t e = let on = tickets_set ss i s t e in omega (arith, on)

-- a session that holds a ticket is among them
pub some_ticket : (ss : List MonitorSession) (i : ℕ) (s : MonitorSession) → slice_get ss i ≡ Some s → tickets_at s.phase ≤ tickets_of ss
some_ticket [] i s e = absurd (let b : ⊥ = cc in b)
some_ticket (x ∷ ss) zero s e =
    let same : x ≡ s = cc in
    let phases : tickets_at x.phase ≡ tickets_at s.phase = ap (λ (y : MonitorSession). tickets_at y.phase) same in
    omega (arith, phases)
some_ticket (x ∷ ss) (suc i) s e = let on = some_ticket ss i s e in omega (arith, on)

-- ---- a step

next_within : (n : ℕ) → next_count n ≤ 2 ^ 64 - 1
next_within n = omega arith

counts_after : (event : Event) (t : Totals) → AreCounts t → AreCounts (after_event event t)
counts_after (Begin i sample) t h = h
counts_after (LookHit i) t h = record { looks = next_within t.looks; hits = next_within t.hits; puts = h.puts }
counts_after (LookMiss i) t h = record { looks = next_within t.looks; hits = h.hits; puts = h.puts }
counts_after (Fill i) t h = h
counts_after (Put i) t h = record { looks = h.looks; hits = h.hits; puts = next_within t.puts }
counts_after (Finish i) t h = h

-- the step was taken, and the world keeps what it keeps
pub record Steps (memo memo' : Memo Key Outcome) (ss ts : List MonitorSession) (tickets : ℕ) (room : List MonitorSession) (most : ℕ) (event : Event) (told : List Told) : Type 0 where
  pub taken : IsTaken (counted_world memo ss) (counted_world memo' ts) event told
  pub kept : IsKept memo' ts tickets room most

steps : (memo memo' : Memo Key Outcome) (ss ts : List MonitorSession) (n n' : ℕ) (room : List MonitorSession) (most : ℕ) (event : Event) (told : List Told) (i : ℕ) (s t : MonitorSession) →
    IsKept memo ss n room most → IsEvent event → Changes i ss s t ts → memo'.most ≡ None → IsStep (world_of memo ss) event told (world_of memo' ts) → memo'.totals ≡ after_event event memo.totals →
    n' + tickets_at s.phase ≡ n + tickets_at t.phase → Steps memo memo' ss ts n' room most event told
steps memo memo' ss ts n n' room most event told i s t is ev c free step totals counts =
    let set = tickets_set ss i s t c.was in
    let became : tickets_of ts ≡ tickets_of (slice_set ss i t) = ap tickets_of c.becomes in
    let long : length ts ≡ length ss = ap length c.becomes ∙ length_set ss i t in
    record {
      taken = record { step = step; totals = totals };
      kept = record {
        world = steps_keep (world_of memo ss) (world_of memo' ts) event told is.world ev step;
        unbounded = free;
        counts = subst AreCounts (sym totals) (counts_after event memo.totals is.counts);
        tickets_are = omega (arith, counts, set, became, is.tickets_are);
        empty = is.empty;
        room_for_all = omega (arith, long, is.room_for_all);
      };
    }

same_memo : (memo : Memo Key Outcome) (ss ts : List MonitorSession) → IsWorld (world_of memo ss) → KeepsMemo (world_of memo ss) (world_of memo ts)
same_memo memo ss ts is = record { bound = refl; same = record { kept = λ x h. h; no_more = λ x h. h; differ = is.differ } }

alike_memo : (memo memo' : Memo Key Outcome) (ss ts : List MonitorSession) → StaysAlike memo memo' → KeepsMemo (world_of memo ss) (world_of memo' ts)
alike_memo memo memo' ss ts a = record { bound = ap is_some a.bound; same = a.same }

module _ (memo : Memo Key Outcome) (ss ts : List MonitorSession) (n : ℕ) (room : List MonitorSession) (most : ℕ) (is : IsKept memo ss n room most)
    (i : ℕ) (s t : MonitorSession) (c : Changes i ss s t ts) where
  phase_of_begin : (sample : Sample) → IsBegin sample s t → (tickets_at s.phase ≡ 0) × (tickets_at t.phase ≡ 0)
  phase_of_begin sample b = (ap tickets_at b.idle, ap (λ (x : MonitorSession). tickets_at x.phase) b.after)

  pub begin_steps : (sample : Sample) → IsEvent (Begin i sample) → IsBegin sample s t → Steps memo memo ss ts n room most (Begin i sample) []
  begin_steps sample ev b =
      let held = phase_of_begin sample b in
      steps memo memo ss ts n n room most (Begin i sample) [] i s t is ev c is.unbounded (s, t, c, b, same_memo memo ss ts is.world, refl) refl (omega (arith, held.0, held.1))

  pub fill_steps : (sample : Sample) (made : Entry) → IsFill sample made s t → Steps memo memo ss ts n room most (Fill i) []
  fill_steps sample made b =
      let before : tickets_at s.phase ≡ 1 = ap tickets_at b.missed in
      let later : tickets_at t.phase ≡ 1 = ap (λ (x : MonitorSession). tickets_at x.phase) b.after in
      steps memo memo ss ts n n room most (Fill i) [] i s t is tt c is.unbounded (s, t, sample, made, c, b, same_memo memo ss ts is.world, refl) refl (omega (arith, before, later))

  pub finish_steps : (sample : Sample) (v : Verdict) → IsFinish sample v s t → Steps memo memo ss ts n room most (Finish i) (record { session = i; verdict = v } ∷ [])
  finish_steps sample v b =
      let before : tickets_at s.phase ≡ 0 = ap tickets_at b.begun in
      let later : tickets_at t.phase ≡ 0 = ap (λ (x : MonitorSession). tickets_at x.phase) b.after in
      steps memo memo ss ts n n room most (Finish i) (record { session = i; verdict = v } ∷ []) i s t is tt c is.unbounded
      (s, t, sample, v, c, b, same_memo memo ss ts is.world, refl) refl (omega (arith, before, later))

  pub hit_steps : (memo' : Memo Key Outcome) (e : Entry) → StaysAlike memo memo' → memo'.totals ≡ after_hit memo.totals → wanted s ≡ Some e.key → In e (shown memo) → t ≡ record s { given = Some e } →
      Steps memo memo' ss ts n room most (LookHit i) []
  hit_steps memo' e a totals wants found after =
      let same : tickets_at t.phase ≡ tickets_at s.phase = ap (λ (x : MonitorSession). tickets_at x.phase) after in
      steps memo memo' ss ts n n room most (LookHit i) [] i s t is tt c (a.bound ∙ is.unbounded)
      (s, t, e, c, record { wants = wants; found = found; after = after }, alike_memo memo memo' ss ts a, refl) totals (omega (arith, same))

  pub miss_steps : (memo' : Memo Key Outcome) (n' : ℕ) (sample : Sample) → n' ≡ n + 1 → StaysAlike memo memo' → memo'.totals ≡ after_miss memo.totals → s.phase ≡ Begun sample → wanted s ≡ Some (key_for s sample) →
      (HasKey (key_for s sample) (shown memo) → ⊥) → t ≡ record s { phase = Missed sample } → Steps memo memo' ss ts n' room most (LookMiss i) []
  miss_steps memo' n' sample more a totals begun wants lacking after =
      let before : tickets_at s.phase ≡ 0 = ap tickets_at begun in
      let later : tickets_at t.phase ≡ 1 = ap (λ (x : MonitorSession). tickets_at x.phase) after in
      steps memo memo' ss ts n n' room most (LookMiss i) [] i s t is tt c (a.bound ∙ is.unbounded)
      (s, t, sample, c, record { begun = begun; wants = wants; lacking = lacking; after = after }, alike_memo memo memo' ss ts a, refl) totals (omega (arith, before, later, more))

  pub put_steps : (memo' : Memo Key Outcome) (n' : ℕ) (sample : Sample) (made : Entry) → IsPut false (shown memo) made (shown memo') → memo'.most ≡ None → memo'.totals ≡ after_put memo.totals →
      n' + 1 ≡ n → s.phase ≡ Filled sample made → t ≡ record s { phase = Begun sample; given = Some made } → Steps memo memo' ss ts n' room most (Put i) []
  put_steps memo' n' sample made put free totals counts filled after =
      let before : tickets_at s.phase ≡ 1 = ap tickets_at filled in
      let later : tickets_at t.phase ≡ 0 = ap (λ (x : MonitorSession). tickets_at x.phase) after in
      let put_here : IsPut (is_some memo.most) (shown memo) made (shown memo') = subst (λ o. IsPut (is_some o) (shown memo) made (shown memo')) (sym is.unbounded) put in
      steps memo memo' ss ts n n' room most (Put i) [] i s t is tt c free
      (s, t, sample, made, c, record { filled = filled; bound = ap is_some free ∙ sym (ap is_some is.unbounded); put = put_here; after_it = after }, refl) totals (omega (arith, before, later, counts))

-- ---- a new world

in_all : {A : Type 0} (P : A → Type 0) (xs : List A) (x : A) → All P xs → In x xs → P x
in_all P [] x all i = absurd i
in_all P (y ∷ xs) x all (inl e) = subst P (sym e) (All-head P y xs all)
in_all P (y ∷ xs) x all (inr i) = in_all P xs x (All-tail P y xs all) i

no_ticket : (s : MonitorSession) → ShowsItsPhase s → tickets_at s.phase ≡ 0
no_ticket s (inl idle) = ap tickets_at idle
no_ticket s (inr (key, e)) = go s.phase e
  where
    go : (phase : Phase) → wanted_in s phase ≡ Some key → tickets_at phase ≡ 0
    go Idle e = refl
    go (Begun sample) e = refl
    go (Missed sample) e = absurd (let b : ⊥ = cc in b)
    go (Filled sample made) e = absurd (let b : ⊥ = cc in b)

no_tickets : (ss : List MonitorSession) → All ShowsItsPhase ss → tickets_of ss ≡ 0
no_tickets [] all = refl
no_tickets (s ∷ ss) all =
    let here = no_ticket s (All-head ShowsItsPhase s ss all) in
    let on = no_tickets ss (All-tail ShowsItsPhase s ss all) in omega (arith, here, on)

pub kept_new : (memo : Memo Key Outcome) (given ss : List MonitorSession) (n : ℕ) (room : List MonitorSession) (most : ℕ) → memo ≡ memo_of [] None no_totals → ss ≡ given →
    All IsMonitorSession given → All ShowsItsPhase given → n ≡ 0 → room ≡ [] → length given ≤ most → IsKept memo ss n room most
kept_new memo given ss n room most e same sessions shown_all none empty enough =
    subst (λ m. IsKept m ss n room most) (sym e) (subst (λ xs. IsKept (memo_of [] None no_totals) xs n room most) (sym same) (record {
      world = record { differ = tt; entries = λ x i. absurd i; sessions = λ s i. in_all IsMonitorSession given s sessions i };
      unbounded = refl;
      counts = record { looks = omega arith; hits = omega arith; puts = omega arith };
      tickets_are = none ∙ sym (no_tickets given shown_all);
      empty = empty;
      room_for_all = enough;
    }))
