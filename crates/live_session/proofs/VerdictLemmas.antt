-- The verdict of a finished sample is the one that the history tells.
use Rattle.std.proofs.Common.{◌≡◌, ◌≢◌, ◌⊎◌, inl, inr, ℕ, zero, suc, ◌≤◌, Bool, true, false, List, [], ◌∷◌, ◌++◌, length, Option, Some, None, refl, sym, ◌∙◌, ap, subst, arith}
use Rattle.std.specs.Prelude.{if◌then◌else◌}
use Rattle.std.proofs.lemmas.Bool.{cases_lt}
use Rattle.run_specs.proofs.SessionLemmas.{none_left, entries_few}
use Rattle.poly_specs.specs.Fractions.{zero_fraction}
use Rattle.run_specs.specs.declared.Verdict.{Verdict}
use Rattle.run_specs.specs.declared.Verdict.TheVariants.{Alarm, Safe, Impossible, Overflow}
use Rattle.run_specs.specs.Automaton.{Automaton}
use Rattle.run_specs.specs.Logs.{Sample}
use Rattle.run_specs.specs.Keys.{State, Key}
use Rattle.run_specs.specs.Outcomes.{Item, Outcome, Next, Passed}
use Rattle.run_specs.specs.SessionHistories.{Entry, SessionHistory, AreLinked, states, states_left, opening_states, belief_after, last_belief, some_marked, verdict_of, verdict_after, verdict_at, has_passed, has_overflowed}
use Rattle.run_specs.specs.Sessions.{MonitorSession, IsMonitorSession, Begun, PhaseHolds, key_for, key_wanted, wanted_for, wanted_in, wanted}
use Rattle.run_specs.specs.Worlds.{joined}
use Rattle.live_session.specs.Entries.{opening_of, last_passed, verdict_with}

-- ---- entries one after the other

-- an entry that passed is the last one
passed_is_last : (a : Automaton) (k : ℕ) (belief : List State) (es : List Entry) → AreLinked a k belief es → last_passed es ≡ has_passed es
passed_is_last a k belief [] linked = refl
passed_is_last a k belief (e ∷ []) linked = refl
passed_is_last a k belief (e ∷ f ∷ fs) linked = next (λ b l. passed_is_last a k b (f ∷ fs) l) e.outcome linked.4
  where
    next : ((b : List State) → AreLinked a k b (f ∷ fs) → last_passed (f ∷ fs) ≡ has_passed (f ∷ fs)) → (o : Outcome) →
        elim o as (λ _. Type 0) [ Next items ↦ AreLinked a k (states items) (f ∷ fs) | Passed ↦ f ∷ fs ≡ [] ] →
        last_passed (f ∷ fs) ≡ elim o as (λ _. Bool) [ Next items ↦ has_passed (f ∷ fs) | Passed ↦ true ]
    next later (Next items) l = later (states items) l
    next later Passed l = absurd (let b : ⊥ = cc in b)

told_first : (belief : List State) (x : Entry) (es : List Entry) → verdict_after belief (x ∷ es) zero ≡ Some (verdict_of x.outcome)
told_first [] x es = refl
told_first (b ∷ bs) x es = refl

told_next : (belief : List State) (x : Entry) (es : List Entry) (i : ℕ) →
    verdict_after belief (x ∷ es) (suc i) ≡ elim x.outcome as (λ _. Option Verdict) [ Next items ↦ verdict_after (states items) es i | Passed ↦ Some Overflow ]
told_next [] x es i = refl
told_next (b ∷ bs) x es i = refl

-- the verdict of an entry that joins
verdict_joined : (belief : List State) (es : List Entry) (e : Entry) → has_passed es ≡ false → verdict_after belief (es ++ e ∷ []) (length es) ≡ Some (verdict_of e.outcome)
verdict_joined belief [] e n = told_first belief e []
verdict_joined belief (x ∷ es) e n = told_next belief x (es ++ e ∷ []) (length es) ∙ next (λ b m. verdict_joined b es e m) x.outcome n
  where
    next : ((b : List State) → has_passed es ≡ false → verdict_after b (es ++ e ∷ []) (length es) ≡ Some (verdict_of e.outcome)) → (o : Outcome) →
        elim o as (λ _. Bool) [ Next items ↦ has_passed es | Passed ↦ true ] ≡ false →
        elim o as (λ _. Option Verdict) [ Next items ↦ verdict_after (states items) (es ++ e ∷ []) (length es) | Passed ↦ Some Overflow ] ≡ Some (verdict_of e.outcome)
    next later (Next items) m = later (states items) m
    next later Passed m = absurd (let b : ⊥ = cc in b)

-- past the entries: an overflow where one passed
passed_tells : (belief : List State) (es : List Entry) (i : ℕ) → has_passed es ≡ true → length es ≤ i → verdict_after belief es i ≡ Some Overflow
passed_tells belief [] i p h = absurd (let b : ⊥ = cc in b)
passed_tells belief (x ∷ es) zero p h = absurd (omega (arith, h))
passed_tells belief (x ∷ es) (suc i) p h = told_next belief x es i ∙ next (λ b q. passed_tells b es i q (omega (arith, h))) x.outcome p
  where
    next : ((b : List State) → has_passed es ≡ true → verdict_after b es i ≡ Some Overflow) → (o : Outcome) →
        elim o as (λ _. Bool) [ Next items ↦ has_passed es | Passed ↦ true ] ≡ true →
        elim o as (λ _. Option Verdict) [ Next items ↦ verdict_after (states items) es i | Passed ↦ Some Overflow ] ≡ Some Overflow
    next later (Next items) q = later (states items) q
    next later Passed q = refl

-- and else impossible, where no state is left
none_tells : (belief : List State) (es : List Entry) (i : ℕ) → has_passed es ≡ false → belief_after belief es ≡ [] → length es ≤ i → verdict_after belief es i ≡ Some Impossible
none_tells [] [] i p n h = refl
none_tells (b ∷ bs) [] i p n h = absurd (let f : ⊥ = cc in f)
none_tells belief (x ∷ es) zero p n h = absurd (omega (arith, h))
none_tells belief (x ∷ es) (suc i) p n h = told_next belief x es i ∙ next (λ b q m. none_tells b es i q m (omega (arith, h))) x.outcome p n
  where
    next : ((b : List State) → has_passed es ≡ false → belief_after b es ≡ [] → verdict_after b es i ≡ Some Impossible) → (o : Outcome) →
        elim o as (λ _. Bool) [ Next items ↦ has_passed es | Passed ↦ true ] ≡ false → belief_after (states_left o) es ≡ [] →
        elim o as (λ _. Option Verdict) [ Next items ↦ verdict_after (states items) es i | Passed ↦ Some Overflow ] ≡ Some Impossible
    next later (Next items) q m = later (states items) q m
    next later Passed q m = absurd (let f : ⊥ = cc in f)

-- an overflow is told only where an entry passed
no_overflow : (items : List Item) → verdict_of (Next items) ≡ Overflow → ⊥
no_overflow [] e = cc
no_overflow (x ∷ xs) e = go (some_marked (x ∷ xs)) e
  where
    go : (b : Bool) → (if b then Alarm else Safe) ≡ Overflow → ⊥
    go true e = cc
    go false e = cc

told_passed : (belief : List State) (es : List Entry) (i : ℕ) → verdict_after belief es i ≡ Some Overflow → has_passed es ≡ true
told_passed [] [] i e = absurd (let f : ⊥ = cc in f)
told_passed (b ∷ bs) [] i e = absurd (let f : ⊥ = cc in f)
told_passed belief (x ∷ es) zero e = here x.outcome (let g = told_first belief x es in let f : verdict_of x.outcome ≡ Overflow = cc in f)
  where
    here : (o : Outcome) → verdict_of o ≡ Overflow → elim o as (λ _. Bool) [ Next items ↦ has_passed es | Passed ↦ true ] ≡ true
    here (Next items) f = absurd (no_overflow items f)
    here Passed f = refl
told_passed belief (x ∷ es) (suc i) e = next (λ b f. told_passed b es i f) x.outcome (sym (told_next belief x es i) ∙ e)
  where
    next : ((b : List State) → verdict_after b es i ≡ Some Overflow → has_passed es ≡ true) → (o : Outcome) →
        elim o as (λ _. Option Verdict) [ Next items ↦ verdict_after (states items) es i | Passed ↦ Some Overflow ] ≡ Some Overflow →
        elim o as (λ _. Bool) [ Next items ↦ has_passed es | Passed ↦ true ] ≡ true
    next later (Next items) f = later (states items) f
    next later Passed f = refl

-- ---- histories

at_opening : (h : SessionHistory) (o : Option (List State)) (i : ℕ) → h.opening ≡ o → verdict_at h i ≡ elim o as (λ _. Option Verdict) [ None ↦ Some Overflow | Some belief ↦ verdict_after belief h.gaps i ]
at_opening h o i e = ap (λ p. elim p as (λ _. Option Verdict) [ None ↦ Some Overflow | Some belief ↦ verdict_after belief h.gaps i ]) e

overflowed_by : (h : SessionHistory) (o : Option (List State)) → h.opening ≡ o → has_overflowed h ≡ elim o as (λ _. Bool) [ None ↦ true | Some belief ↦ has_passed h.gaps ]
overflowed_by h o e = ap (λ p. elim p as (λ _. Bool) [ None ↦ true | Some belief ↦ has_passed h.gaps ]) e

states_by : (h : SessionHistory) (o : Option (List State)) → h.opening ≡ o → opening_states h ≡ elim o as (λ _. List State) [ None ↦ [] | Some belief ↦ belief ]
states_by h o e = ap (λ p. elim p as (λ _. List State) [ None ↦ [] | Some belief ↦ belief ]) e

-- an overflow that is told stays
pub told_overflowed : (h : SessionHistory) (i : ℕ) → verdict_at h i ≡ Some Overflow → has_overflowed h ≡ true
told_overflowed h i e = go h.opening refl
  where
    go : (o : Option (List State)) → h.opening ≡ o → has_overflowed h ≡ true
    go None f = overflowed_by h None f
    go (Some belief) f = overflowed_by h (Some belief) f ∙ told_passed belief h.gaps i (sym (at_opening h (Some belief) i f) ∙ e)

-- ---- what a key that is wanted says

wants_fits : (s : MonitorSession) (sample : Sample) (key : Key) (belief : List State) → key_wanted s sample belief ≡ Some key → (has_overflowed s.history ≡ false) × (belief ≢ [])
wants_fits s sample key [] e = absurd (let x : ⊥ = cc in x)
wants_fits s sample key (b ∷ bs) e = (chosen (has_overflowed s.history) refl e, λ n. (let y : ⊥ = cc in y))
  where
    chosen : (p : Bool) → has_overflowed s.history ≡ p → ◌≡◌ {A = Option Key} (if p then None else Some (key_for s sample)) (Some key) → has_overflowed s.history ≡ false
    chosen true f g = absurd (let x : ⊥ = cc in x)
    chosen false f g = f

wants_nothing : (s : MonitorSession) (sample : Sample) (belief : List State) → key_wanted s sample belief ≡ None → (has_overflowed s.history ≡ true) ⊎ (belief ≡ [])
wants_nothing s sample [] e = inr refl
wants_nothing s sample (b ∷ bs) e = inl (chosen (has_overflowed s.history) refl e)
  where
    chosen : (p : Bool) → has_overflowed s.history ≡ p → ◌≡◌ {A = Option Key} (if p then None else Some (key_for s sample)) None → has_overflowed s.history ≡ true
    chosen true f g = f
    chosen false f g = absurd (let x : ⊥ = cc in x)

-- a session that wants a key has an entry for each sample
as_many : (s : MonitorSession) (belief : List State) → IsMonitorSession s → s.history.opening ≡ Some belief → has_passed s.history.gaps ≡ false → last_belief s.history ≢ [] →
    length s.history.gaps ≡ length s.log
as_many s belief is o n some = elim (cases_lt (length s.history.gaps) (length s.log)) [
  | inr ge ↦ (let few = entries_few zero_fraction s.log s.history.gaps is.entries in omega (arith, ge, few))
  | inl lt ↦ absurd (
      let v = is.told (length s.history.gaps) lt in
      let none = none_left belief s.history.gaps v.0 (sym (at_opening s.history (Some belief) (length s.history.gaps) o) ∙ v.1) n in
      some (ap (λ b. belief_after b s.history.gaps) (states_by s.history (Some belief) o) ∙ none))
]

-- ---- the verdict for a begun sample

given_there : (s : MonitorSession) (sample : Sample) (g : Option Entry) → IsMonitorSession s → s.phase ≡ Begun sample → s.given ≡ g → PhaseHolds s (Begun sample) g
given_there s sample g is p e = subst (λ x. PhaseHolds s (Begun sample) x) e (subst (λ x. PhaseHolds s x s.given) p is.phase)

pub verdict_told : (s : MonitorSession) (sample : Sample) (opened : Bool) (belief : List State) → IsMonitorSession s → s.phase ≡ Begun sample → wanted s ≡ None →
    s.history.opening ≡ opening_of opened belief → verdict_at (joined s.history s.given) (length s.log) ≡ Some (verdict_with opened s.history.gaps s.given)
verdict_told s sample opened belief is p n o = by_opened opened o
  where
    nothing : (g : Option Entry) → s.given ≡ g → wanted_for s sample g ≡ None
    nothing g e = subst (λ x. wanted_for s sample x ≡ None) e (subst (λ x. wanted_in s x ≡ None) p n)

    few : length s.history.gaps ≤ length s.log
    few = entries_few zero_fraction s.log s.history.gaps is.entries

    overflow : (g : Option Entry) → s.history.opening ≡ None → verdict_at (joined s.history g) (length s.log) ≡ Some Overflow
    overflow None e = at_opening s.history None (length s.log) e
    overflow (Some x) e = at_opening (joined s.history (Some x)) None (length s.log) e

    with_entry : (e : Entry) → s.given ≡ Some e → s.history.opening ≡ Some belief → verdict_at (joined s.history (Some e)) (length s.log) ≡ Some (verdict_of e.outcome)
    with_entry e g f =
        let wants = (given_there s sample (Some e) is p g).1.wants in
        let fits = wants_fits s sample e.key (last_belief s.history) wants in
        let none = sym (overflowed_by s.history (Some belief) f) ∙ fits.0 in
        let same = as_many s belief is f none fits.1 in
        at_opening (joined s.history (Some e)) (Some belief) (length s.log) f ∙ ap (λ i. verdict_after belief (s.history.gaps ++ e ∷ []) i) (sym same) ∙ verdict_joined belief s.history.gaps e none

    settled : s.given ≡ None → s.history.opening ≡ Some belief → (b : Bool) → has_passed s.history.gaps ≡ b →
        verdict_at s.history (length s.log) ≡ Some (if b then Overflow else Impossible)
    settled g f true q = at_opening s.history (Some belief) (length s.log) f ∙ passed_tells belief s.history.gaps (length s.log) q few
    settled g f false q = at_opening s.history (Some belief) (length s.log) f ∙ none_tells belief s.history.gaps (length s.log) q (
        elim (wants_nothing s sample (last_belief s.history) (nothing None g)) [
          | inl over ↦ absurd (let x = sym (overflowed_by s.history (Some belief) f) ∙ over in let y : ⊥ = cc in y)
          | inr none ↦ ap (λ b. belief_after b s.history.gaps) (sym (states_by s.history (Some belief) f)) ∙ none
        ]) few

    without_entry : s.given ≡ None → s.history.opening ≡ Some belief → verdict_at s.history (length s.log) ≡ Some (if last_passed s.history.gaps then Overflow else Impossible)
    without_entry g f =
        settled g f (last_passed s.history.gaps) (sym (passed_is_last s.history.automaton s.history.jumps (opening_states s.history) s.history.gaps is.history.linked))

    by_given : (g : Option Entry) → s.given ≡ g → s.history.opening ≡ Some belief → verdict_at (joined s.history g) (length s.log) ≡ Some (verdict_with true s.history.gaps g)
    by_given None g f = without_entry g f
    by_given (Some e) g f = with_entry e g f

    by_opened : (b : Bool) → s.history.opening ≡ opening_of b belief → verdict_at (joined s.history s.given) (length s.log) ≡ Some (verdict_with b s.history.gaps s.given)
    by_opened false f = overflow s.given f
    by_opened true f = by_given s.given refl f

-- after an overflow there is nothing but overflows
pub overflow_stays : (s : MonitorSession) (sample : Sample) (opened : Bool) (belief : List State) → IsMonitorSession s → s.phase ≡ Begun sample →
    s.history.opening ≡ opening_of opened belief → has_overflowed s.history ≡ true → verdict_with opened s.history.gaps s.given ≡ Overflow
overflow_stays s sample opened belief is p o over = by_opened opened o
  where
    by_given : (g : Option Entry) → s.given ≡ g → s.history.opening ≡ Some belief → verdict_with true s.history.gaps g ≡ Overflow
    by_given None g f =
        let last : last_passed s.history.gaps ≡ true =
        passed_is_last s.history.automaton s.history.jumps (opening_states s.history) s.history.gaps is.history.linked ∙ sym (overflowed_by s.history (Some belief) f) ∙ over in
        ap (λ b. if b then Overflow else Impossible) last
    by_given (Some e) g f =
        let fits = (wants_fits s sample e.key (last_belief s.history) (given_there s sample (Some e) is p g).1.wants).0 in
        absurd (let x : true ≡ false = sym over ∙ fits in let y : ⊥ = cc in y)

    by_opened : (b : Bool) → s.history.opening ≡ opening_of b belief → verdict_with b s.history.gaps s.given ≡ Overflow
    by_opened false f = refl
    by_opened true f = by_given s.given refl f
