-- Worlds that are alike stay so where the fills are the same, and so the first event that is not allowed is one.
use Rattle.std.proofs.Common.{◌≡◌, inl, inr, ℕ, zero, suc, Bool, false, List, [], ◌∷◌, ◌++◌, length, Some, None, refl, sym, ◌∙◌, ap, subst}
use Rattle.std.specs.Prelude.{All, take, slice_get, slice_set}
use Rattle.std.proofs.lemmas.List.Elements.{All-head, All-tail}
use Rattle.poly_specs.specs.Lists.{In, IsAmong}
use Rattle.run_specs.specs.Logs.{Sample}
use Rattle.run_specs.specs.Keys.{Key}
use Rattle.run_specs.specs.Outcomes.{Outcome}
use Rattle.run_specs.specs.SessionHistories.{Entry, verdict_at}
use Rattle.run_specs.specs.Sessions.{MonitorSession, Idle, Begun, Missed, Filled, key_for, accepted, wanted}
use Rattle.run_specs.specs.Worlds.{World, IsWorld, Event, Begin, LookHit, LookMiss, Fill, Put, Finish, Told, HasKey, KeysDiffer, KeepsMemo, Changes, IsPut, joined, IsStep, IsAllowed, IsEvent}
use Rattle.run_specs.proofs.ListLemmas.{in_get}
use Rattle.run_specs.proofs.WorldLemmas.{steps_keep, steps_allowed}
use Rattle.interleave_core.specs.Courses.{AreMadeBy, LeadBy}
use Rattle.interleave_core.proofs.ListLemmas.{get_set_same}

-- the same sessions, and the same entries in any order, in memos without a bound
record Alike (w v : World) : Type 0 where
  there : IsAmong w.memo v.memo
  back : IsAmong v.memo w.memo
  sessions : w.sessions ≡ v.sessions
  free : w.is_bounded ≡ false
  free_too : v.is_bounded ≡ false

-- ---- what is allowed

has_there : (key : Key) (es fs : List Entry) → IsAmong es fs → HasKey key es → HasKey key fs
has_there key es fs a (e, i, k) = (e, a e i, k)

allowed_alike : (w v : World) (event : Event) → Alike w v → IsAllowed w event → IsAllowed v event
allowed_alike w v (Begin i sample) a (s, was, h, may) = (s, subst (λ ss. slice_get ss i ≡ Some s) a.sessions was, h, may)
allowed_alike w v (LookHit i) a (s, key, was, h, has) = (s, key, subst (λ ss. slice_get ss i ≡ Some s) a.sessions was, h, has_there key w.memo v.memo a.there has)
allowed_alike w v (LookMiss i) a (s, key, was, h, lacks) = (s, key, subst (λ ss. slice_get ss i ≡ Some s) a.sessions was, h, λ has. lacks (has_there key v.memo w.memo a.back has))
allowed_alike w v (Fill i) a (s, sample, was, h) = (s, sample, subst (λ ss. slice_get ss i ≡ Some s) a.sessions was, h)
allowed_alike w v (Put i) a (s, sample, made, was, h) = (s, sample, made, subst (λ ss. slice_get ss i ≡ Some s) a.sessions was, h)
allowed_alike w v (Finish i) a (s, sample, was, h, none) = (s, sample, subst (λ ss. slice_get ss i ≡ Some s) a.sessions was, h, none)

-- ---- a step of each

abbrev StaysAlike : World → World → World → World → Type 0
StaysAlike w u v x = Alike w v → KeepsMemo w u → KeepsMemo v x → u.sessions ≡ x.sessions → Alike u x

stay_alike : (w u v x : World) → StaysAlike w u v x
stay_alike w u v x a m n same = record {
  there = λ e i. n.same.kept e (a.there e (m.same.no_more e i));
  back = λ e i. m.same.kept e (a.back e (n.same.no_more e i));
  sessions = same;
  free = m.bound ∙ a.free;
  free_too = n.bound ∙ a.free_too;
}

-- the session that changes is the same
same_session : (i : ℕ) (before before' after after' : List MonitorSession) (s t s' t' : MonitorSession) → before ≡ before' → Changes i before s t after → Changes i before' s' t' after' → s ≡ s'
same_session i before before' after after' s t s' t' e c d =
    let same : Some s ≡ Some s' = sym c.was ∙ ap (λ ss. slice_get ss i) e ∙ d.was in cc

same_after : (i : ℕ) (before before' after after' : List MonitorSession) (s t s' t' : MonitorSession) → before ≡ before' → Changes i before s t after → Changes i before' s' t' after' → t ≡ t' → after ≡ after'
same_after i before before' after after' s t s' t' e c d f = c.becomes ∙ ap (λ ss. slice_set ss i t) e ∙ ap (λ y. slice_set before' i y) f ∙ sym d.becomes

-- the new session stands there
new_in : (i : ℕ) (before after : List MonitorSession) (s t : MonitorSession) → Changes i before s t after → In t after
new_in i before after s t c = in_get after i t (ap (λ ss. slice_get ss i) c.becomes ∙ get_set_same before i s t c.was)

-- one entry for each key
one_entry : (memo : List Entry) (x y : Entry) → KeysDiffer memo → In x memo → In y memo → x.key ≡ y.key → x ≡ y
one_entry [] x y d i j e = absurd i
one_entry (z ∷ memo) x y d (inl i) (inl j) e = i ∙ sym j
one_entry (z ∷ memo) x y d (inl i) (inr j) e = absurd (d.0 (y, j, sym e ∙ ap (λ (a : Entry). a.key) i))
one_entry (z ∷ memo) x y d (inr i) (inl j) e = absurd (d.0 (x, i, e ∙ ap (λ (a : Entry). a.key) j))
one_entry (z ∷ memo) x y d (inr i) (inr j) e = one_entry memo x y d.1 i j e

-- memos after the same put
put_among : (before before' after after' : List Entry) (made : Entry) → IsAmong before before' → IsAmong before' before → IsPut false before made after → IsPut false before' made after' → IsAmong after after'
put_among before before' after after' made there back (inl p) (inl q) e i = q.1.kept e (there e (p.1.no_more e i))
put_among before before' after after' made there back (inl p) (inr q) e i = absurd (q.0 (has_there made.key before before' there p.0))
put_among before before' after after' made there back (inr p) (inl q) e i = absurd (p.0 (has_there made.key before' before back q.0))
put_among before before' after after' made there back (inr p) (inr q) e i = q.1.kept e (elim (p.1.no_more e i) [ inl same ↦ inl same | inr j ↦ inr (there e j) ])

free_put : (bounded : Bool) (before after : List Entry) (made : Entry) → bounded ≡ false → IsPut bounded before made after → IsPut false before made after
free_put bounded before after made e p = subst (λ b. IsPut b before made after) e p

same_entry : (x y : Entry) → x.key ≡ y.key → x.outcome ≡ y.outcome → x ≡ y
same_entry x y e f = ap (λ k. record { key = k; outcome = x.outcome }) e ∙ ap (λ o. record { key = y.key; outcome = o }) f

step_alike : (f : Key → Outcome) (w u v x : World) (event : Event) (now now' : List Told) → Alike w v → IsWorld v → AreMadeBy f u → AreMadeBy f x → IsStep w event now u → IsStep v event now' x →
    Alike u x × (now ≡ now')
step_alike f w u v x (Begin i sample) now now' a is mu mx (s, t, c, b, m, e) (s', t', d, b', n, e') =
    let same = same_session i w.sessions v.sessions u.sessions x.sessions s t s' t' a.sessions c d in
    let after : t ≡ t' = b.after ∙ ap (λ (y : MonitorSession). record y { phase = Begun sample; given = None }) same ∙ sym b'.after in
    (stay_alike w u v x a m n (same_after i w.sessions v.sessions u.sessions x.sessions s t s' t' a.sessions c d after), e ∙ sym e')
step_alike f w u v x (LookHit i) now now' a is mu mx (s, t, y, c, b, m, e) (s', t', z, d, b', n, e') =
    let same = same_session i w.sessions v.sessions u.sessions x.sessions s t s' t' a.sessions c d in
    let keys : Some y.key ≡ Some z.key = sym b.wants ∙ ap (λ (q : MonitorSession). wanted q) same ∙ b'.wants in
    let key : y.key ≡ z.key = cc in
    let entry : y ≡ z = one_entry v.memo y z is.differ (a.there y b.found) b'.found key in
    let after : t ≡ t' = b.after ∙ ap (λ (q : MonitorSession). record q { given = Some y }) same ∙ ap (λ g. record s' { given = Some g }) entry ∙ sym b'.after in
    (stay_alike w u v x a m n (same_after i w.sessions v.sessions u.sessions x.sessions s t s' t' a.sessions c d after), e ∙ sym e')
step_alike f w u v x (LookMiss i) now now' a is mu mx (s, t, sample, c, b, m, e) (s', t', sample', d, b', n, e') =
    let same = same_session i w.sessions v.sessions u.sessions x.sessions s t s' t' a.sessions c d in
    let phases : Begun sample ≡ Begun sample' = sym b.begun ∙ ap (λ (q : MonitorSession). q.phase) same ∙ b'.begun in
    let one : sample ≡ sample' = cc in
    let after : t ≡ t' = b.after ∙ ap (λ (q : MonitorSession). record q { phase = Missed sample }) same ∙ ap (λ y. record s' { phase = Missed y }) one ∙ sym b'.after in
    (stay_alike w u v x a m n (same_after i w.sessions v.sessions u.sessions x.sessions s t s' t' a.sessions c d after), e ∙ sym e')
step_alike f w u v x (Fill i) now now' a is mu mx (s, t, sample, made, c, b, m, e) (s', t', sample', made', d, b', n, e') =
    let same = same_session i w.sessions v.sessions u.sessions x.sessions s t s' t' a.sessions c d in
    let phases : Missed sample ≡ Missed sample' = sym b.missed ∙ ap (λ (q : MonitorSession). q.phase) same ∙ b'.missed in
    let one : sample ≡ sample' = cc in
    let keys : made.key ≡ made'.key = b.key ∙ ap (λ (q : MonitorSession). key_for q sample) same ∙ ap (λ y. key_for s' y) one ∙ sym b'.key in
    let left = mu t (new_in i w.sessions u.sessions s t c) sample made (ap (λ (q : MonitorSession). q.phase) b.after) in
    let right = mx t' (new_in i v.sessions x.sessions s' t' d) sample' made' (ap (λ (q : MonitorSession). q.phase) b'.after) in
    let entry : made ≡ made' = same_entry made made' keys (left ∙ ap f keys ∙ sym right) in
    let after : t ≡ t' = b.after ∙ ap (λ (q : MonitorSession). record q { phase = Filled sample made }) same
    ∙ ap (λ y. record s' { phase = Filled y made }) one ∙ ap (λ y. record s' { phase = Filled sample' y }) entry ∙ sym b'.after in
    (stay_alike w u v x a m n (same_after i w.sessions v.sessions u.sessions x.sessions s t s' t' a.sessions c d after), e ∙ sym e')
step_alike f w u v x (Put i) now now' a is mu mx (s, t, sample, made, c, b, e) (s', t', sample', made', d, b', e') =
    let same = same_session i w.sessions v.sessions u.sessions x.sessions s t s' t' a.sessions c d in
    let phases : Filled sample made ≡ Filled sample' made' = sym b.filled ∙ ap (λ (q : MonitorSession). q.phase) same ∙ b'.filled in
    let one : sample ≡ sample' = cc in
    let entry : made ≡ made' = cc in
    let after : t ≡ t' = b.after_it ∙ ap (λ (q : MonitorSession). record q { phase = Begun sample; given = Some made }) same
    ∙ ap (λ y. record s' { phase = Begun y; given = Some made }) one ∙ ap (λ y. record s' { phase = Begun sample'; given = Some y }) entry ∙ sym b'.after_it in
    let p = free_put w.is_bounded w.memo u.memo made a.free b.put in
    let q = subst (λ y. IsPut false v.memo y x.memo) (sym entry) (free_put v.is_bounded v.memo x.memo made' a.free_too b'.put) in (
      record {
        there = put_among w.memo v.memo u.memo x.memo made a.there a.back p q;
        back = put_among v.memo w.memo x.memo u.memo made a.back a.there q p;
        sessions = same_after i w.sessions v.sessions u.sessions x.sessions s t s' t' a.sessions c d after;
        free = b.bound ∙ a.free;
        free_too = b'.bound ∙ a.free_too;
      },
      e ∙ sym e',
    )
step_alike f w u v x (Finish i) now now' a is mu mx (s, t, sample, verdict, c, b, m, e) (s', t', sample', verdict', d, b', n, e') =
    let same = same_session i w.sessions v.sessions u.sessions x.sessions s t s' t' a.sessions c d in
    let phases : Begun sample ≡ Begun sample' = sym b.begun ∙ ap (λ (q : MonitorSession). q.phase) same ∙ b'.begun in
    let one : sample ≡ sample' = cc in
    let tells : Some verdict ≡ Some verdict' = sym b.tells ∙ ap (λ (q : MonitorSession). verdict_at (joined q.history q.given) (length q.log)) same ∙ b'.tells in
    let verdicts : verdict ≡ verdict' = cc in
    let after : t ≡ t' = b.after ∙ ap (λ (q : MonitorSession). done q sample) same ∙ ap (λ y. done s' y) one ∙ sym b'.after in (
      stay_alike w u v x a m n (same_after i w.sessions v.sessions u.sessions x.sessions s t s' t' a.sessions c d after),
      e ∙ ap (λ y. record { session = i; verdict = y } ∷ []) verdicts ∙ sym e',
    )
  where
    done : MonitorSession → Sample → MonitorSession
    done q sample = record q { log = q.log ++ accepted q sample ∷ []; history = joined q.history q.given; given = None; phase = Idle }

-- ---- lists of events

kept_alike : (w u v x : World) → Alike w v → KeepsMemo w u → w.sessions ≡ u.sessions → KeepsMemo v x → v.sessions ≡ x.sessions → Alike u x
kept_alike w u v x a m e n g = stay_alike w u v x a m n (sym e ∙ a.sessions ∙ g)

by_alike : (f : Key → Outcome) (w u v x : World) (events : List Event) (told told' : List Told) → Alike w v → IsWorld v → All IsEvent events → LeadBy f w events told u → LeadBy f v events told' x →
    Alike u x × (told ≡ told')
by_alike f w u v x [] told told' a is ev (m, e, t) (n, g, t') = (kept_alike w u v x a m e n g, t ∙ sym t')
by_alike f w u v x (y ∷ events) told told' a is ev (u1, now, later, step, mu, rest, t) (x1, now', later', step', mx, rest', t') =
    let here = step_alike f w u1 v x1 y now now' a is mu mx step step' in
    let isx = steps_keep v x1 y now' is (All-head IsEvent y events ev) step' in
    let on = by_alike f u1 u x1 x events later later' here.0 isx (All-tail IsEvent y events ev) rest rest' in
    (on.0, t ∙ ap (λ ts. ts ++ later) here.1 ∙ ap (λ ts. now' ++ ts) on.1 ∙ sym t')

-- the event there is not allowed in the world that those before it lead to
abbrev Stops : (Key → Outcome) → World → List Event → ℕ → Event → Type 0
Stops f w events n event = (told : List Told) × (v : World) × LeadBy f w (take n events) told v × (slice_get events n ≡ Some event) × (IsAllowed v event → ⊥)

swapped : (w v : World) → Alike w v → Alike v w
swapped w v a = record { there = a.back; back = a.there; sessions = sym a.sessions; free = a.free_too; free_too = a.free }

-- an event that has a step in a world alike is allowed in what is left of the world
not_first : (f : Key → Outcome) (w v x u1 : World) (event : Event) (now : List Told) (events : List Event) → Alike w x → LeadBy f w [] [] v → IsStep x event now u1 → IsAllowed v event
not_first f w v x u1 event now events a (m, e, t) step =
    allowed_alike x v event
    (record {
      there = λ y i. m.same.kept y (a.back y i);
      back = λ y i. a.there y (m.same.no_more y i);
      sessions = sym a.sessions ∙ e;
      free = a.free_too;
      free_too = m.bound ∙ a.free;
    }) (steps_allowed x u1 event now step)

one_stop : (f : Key → Outcome) (w x : World) (events : List Event) (n k : ℕ) (event event' : Event) → Alike w x → IsWorld w → IsWorld x → All IsEvent events → Stops f w events n event → Stops f x events k event' → n ≡ k
one_stop f w x [] n k event event' a is isx ev (told, v, lead, at, none) h = absurd (let b : ⊥ = cc in b)
one_stop f w x (y ∷ events) zero zero event event' a is isx ev h h' = refl
one_stop f w x (y ∷ events) zero (suc k) event event' a is isx ev (told, v, lead, at, none) (told', v', (u1, now, later, step, mu, rest, t), at', none') =
    let same : y ≡ event = cc in
    absurd (none (subst (λ z. IsAllowed v z) same (not_first f w v x u1 y now events a (lead.0, lead.1, refl) step)))
one_stop f w x (y ∷ events) (suc n) zero event event' a is isx ev (told, v, (u1, now, later, step, mu, rest, t), at, none) (told', v', lead, at', none') =
    let same : y ≡ event' = cc in
    absurd (none' (subst (λ z. IsAllowed v' z) same (not_first f x v' w u1 y now events (swapped w x a) (lead.0, lead.1, refl) step)))
one_stop f w x (y ∷ events) (suc n) (suc k) event event' a is isx ev (told, v, (u1, now, later, step, mu, rest, t), at, none) (told', v', (x1, now', later', step', mx, rest', t'), at', none') =
    let here = step_alike f w u1 x x1 y now now' a isx mu mx step step' in
    ap suc (one_stop f u1 x1 events n k event event' here.0 (steps_keep w u1 y now is (All-head IsEvent y events ev) step) (steps_keep x x1 y now' isx (All-head IsEvent y events ev) step')
    (All-tail IsEvent y events ev) (later, v, rest, at, none) (later', v', rest', at', none'))

itself : (w : World) → w.is_bounded ≡ false → Alike w w
itself w e = record { there = λ y i. i; back = λ y i. i; sessions = refl; free = e; free_too = e }

pub one_place : (f : Key → Outcome) (w v v' : World) (events : List Event) (told told' : List Told) (n k : ℕ) (event event' : Event) → IsWorld w → w.is_bounded ≡ false → All IsEvent events →
    LeadBy f w (take n events) told v → slice_get events n ≡ Some event → (IsAllowed v event → ⊥) →
    LeadBy f w (take k events) told' v' → slice_get events k ≡ Some event' → (IsAllowed v' event' → ⊥) → (n ≡ k) × (event ≡ event')
one_place f w v v' events told told' n k event event' is free ev lead at none lead' at' none' =
    let same = one_stop f w w events n k event event' (itself w free) is is ev (told, v, lead, at, none) (told', v', lead', at', none') in
    let events_are : Some event ≡ Some event' = sym at ∙ ap (λ m. slice_get events m) same ∙ at' in
    (same, (let e : event ≡ event' = cc in e))

pub one_telling : (f : Key → Outcome) (w v v' : World) (events : List Event) (told told' : List Told) → IsWorld w → w.is_bounded ≡ false → All IsEvent events →
    LeadBy f w events told v → LeadBy f w events told' v' → told ≡ told'
one_telling f w v v' events told told' is free ev lead lead' = (by_alike f w v w v' events told told' (itself w free) is ev lead lead').1
