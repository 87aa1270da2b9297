-- Replies to sessions that agree, and the events that happened.
use Rattle.std.proofs.Common.{◌≡◌, ◌≢◌, ℕ, zero, suc, ◌+◌, List, [], ◌∷◌, ◌++◌, length, length-append, Some, refl, sym, ◌∙◌, ap, subst, arith}
use Rattle.std.specs.Prelude.{All, slice_get, take}
use Rattle.std.proofs.Math.Seq.{take-append_seam}
use Rattle.std.proofs.lemmas.List.{append_assoc}
use Rattle.std.proofs.lemmas.List.Elements.{All-head, All-tail}
use Rattle.run_specs.specs.declared.Verdict.{Verdict}
use Rattle.run_specs.specs.declared.Verdict.TheVariants.{Overflow}
use Rattle.run_specs.specs.Automaton.{Automaton}
use Rattle.run_specs.specs.Logs.{Sample}
use Rattle.run_specs.specs.Sessions.{MonitorSession}
use Rattle.run_specs.specs.Verdicts.{IsLawful, AreLawfulAfter}
use Rattle.run_specs.specs.Worlds.{World, IsWorld, Event, Told, IsAllowed, IsEvent, LeadTo}
use Rattle.run_specs.proofs.RunLemmas.{IsLawful-unique}
use Rattle.run_specs.proofs.WorldLemmas.{steps_keep, steps_allowed}
use Rattle.interleave_core.specs.Replies.{AreRepliesTo, IsTold, Agree}
use Rattle.interleave_core.proofs.ReplyLemmas.{replies_are_lawful}

-- ---- the reply at a place

longer : (before : List Sample) (s : Sample) (n : ℕ) → length (before ++ s ∷ []) + n ≡ length before + suc n
longer before s n = omega (arith, length-append before (s ∷ []))

lawful_at : (a : Automaton) (k : ℕ) (before ss : List Sample) (vs : List Verdict) (n : ℕ) (x : Verdict) → AreLawfulAfter a k before ss vs → slice_get vs n ≡ Some x →
    IsLawful a k (take (length before + suc n) (before ++ ss)) x
lawful_at a k before [] [] n x h e = absurd (let b : ⊥ = cc in b)
lawful_at a k before [] (v ∷ vs) n x h e = absurd h
lawful_at a k before (s ∷ ss) [] n x h e = absurd h
lawful_at a k before (s ∷ ss) (v ∷ vs) zero x h e =
    let v_is : v ≡ x = cc in
    let whole : take (length before + 1) (before ++ s ∷ ss) ≡ before ++ s ∷ [] =
    ap (λ n. take n (before ++ s ∷ ss)) (sym (longer before s 0) ∙ (omega arith)) ∙ ap (λ ys. take (length (before ++ s ∷ [])) ys) (sym (append_assoc before (s ∷ []) ss))
    ∙ take-append_seam (before ++ s ∷ []) ss in
    subst (λ ys. IsLawful a k ys x) (sym whole) (subst (λ y. IsLawful a k (before ++ s ∷ []) y) v_is h.0)
lawful_at a k before (s ∷ ss) (v ∷ vs) (suc n) x h e =
    let later = lawful_at a k (before ++ s ∷ []) ss vs n x h.2 e in
    subst (λ ys. IsLawful a k (take (length before + suc (suc n)) ys) x) (append_assoc before (s ∷ []) ss)
    (subst (λ m. IsLawful a k (take m ((before ++ s ∷ []) ++ ss)) x) (longer before s (suc n)) later)

-- ---- sessions that agree

told_at : (i : ℕ) (s t : MonitorSession) (vs : List Verdict) (n : ℕ) (x : Verdict) → IsTold i s t vs → slice_get vs n ≡ Some x →
    IsLawful s.history.automaton s.history.jumps (take (length s.log + suc n) t.log) x
told_at i s t vs n x is e =
    let r = replies_are_lawful is.before is.after is.events is.told is.is_world is.are_events is.steps i s is.was in
    let t_is : r.0 ≡ t = (let y : Some r.0 ≡ Some t = sym r.1 ∙ is.becomes in cc) in
    let replies : AreRepliesTo s t vs = subst (λ y. AreRepliesTo s y vs) t_is (subst (λ ws. AreRepliesTo s r.0 ws) (sym is.told_it) r.2) in
    subst (λ ys. IsLawful s.history.automaton s.history.jumps (take (length s.log + suc n) ys) x) (sym replies.log)
    (lawful_at s.history.automaton s.history.jumps s.log replies.samples vs n x replies.lawful e)

pub same_reply : (i j : ℕ) (s t s' t' : MonitorSession) (vs ws : List Verdict) (n : ℕ) (x y : Verdict) → IsTold i s t vs → IsTold j s' t' ws → Agree s s' →
    take (length s.log + suc n) t.log ≡ take (length s.log + suc n) t'.log → slice_get vs n ≡ Some x → slice_get ws n ≡ Some y → x ≢ Overflow → y ≢ Overflow → x ≡ y
same_reply i j s t s' t' vs ws n x y is is' agree logs ex ey nx ny =
    let first = told_at i s t vs n x is ex in
    let second = told_at j s' t' ws n y is' ey in
    let here : IsLawful s.history.automaton s.history.jumps (take (length s.log + suc n) t.log) y =
    subst (λ ss. IsLawful s.history.automaton s.history.jumps ss y) (sym logs)
    (subst (λ m. IsLawful s.history.automaton s.history.jumps (take (m + suc n) t'.log) y) (ap length (sym agree.log))
    (subst (λ a. IsLawful a s.history.jumps (take (length s'.log + suc n) t'.log) y) (sym agree.automaton)
    (subst (λ k. IsLawful s'.history.automaton k (take (length s'.log + suc n) t'.log) y) (sym agree.jumps) second))) in
    IsLawful-unique s.history.automaton s.history.jumps (take (length s.log + suc n) t.log) x y nx ny first here

-- ---- the events that happened

stays : (w : World) → IsWorld w → LeadTo w [] [] w
stays w is = (record { bound = refl; same = record { kept = λ x h. h; no_more = λ x h. h; differ = is.differ } }, refl, refl)

pub were_allowed : (w v : World) (events : List Event) (told : List Told) (n : ℕ) (event : Event) → IsWorld w → All IsEvent events → LeadTo w events told v → slice_get events n ≡ Some event →
    (u : World) × (now : List Told) × LeadTo w (take n events) now u × IsAllowed u event
were_allowed w v [] told n event is ev lead e = absurd (let b : ⊥ = cc in b)
were_allowed w v (x ∷ events) told zero event is ev (u, now, later, step, rest, t) e =
    let same : x ≡ event = cc in
    (w, [], stays w is, subst (λ y. IsAllowed w y) same (steps_allowed w u x now step))
were_allowed w v (x ∷ events) told (suc n) event is ev (u, now, later, step, rest, t) e =
    let isu = steps_keep w u x now is (All-head IsEvent x events ev) step in
    let on = were_allowed u v events later n event isu (All-tail IsEvent x events ev) rest e in
    (on.0, now ++ on.1, (u, now, on.1, step, on.2, refl), on.3)
