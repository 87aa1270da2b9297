-- One event more.
use Rattle.std.proofs.Common.{◌≡◌, ℕ, zero, suc, ◌+◌, ◌-◌, ◌^◌, ◌<◌, ◌≤◌, List, [], ◌∷◌, ◌++◌, map, length, Some, refl, sym, ◌∙◌, ap, subst, arith}
use Rattle.std.specs.Prelude.{All, take, slice_get}
use Rattle.std.proofs.lemmas.List.{append_assoc, append-nil, take_all, length-map}
use Rattle.std.proofs.lemmas.List.Elements.{All-nil, All-cons, All-head, All-tail}
use Rattle.run_specs.specs.Worlds.{World, IsWorld, Event, Begin, LookHit, LookMiss, Fill, Put, Finish, Told, KeepsMemo, IsStep, IsAllowed, IsEvent, LeadTo}
use Rattle.succ_memo.specs.declared.memo.Totals.{Totals}
use Rattle.succ_memo.specs.Memo.{next_count}
use Rattle.interleave_core.specs.Views.{CountedWorld, AreCounts, looks_in, hits_in, puts_in, raised, after_event, totals_after}
use Rattle.interleave_core.specs.Played.{IsTaken, HasPlayed, HasBegun, HasStopped}
use Rattle.interleave_core.specs.Events.{event_of, events_of, HasLogNumbers}
use Rattle.interleave_core.specs.declared.events.Event.{Event as Code}
use Rattle.interleave_core.specs.declared.events.Event.TheVariants as code
use Rattle.interleave_core.specs.declared.faults.PlayFault.TheVariants.{NotEnabled, Memory}
use Rattle.live_session.proofs.PlacingLemmas.{sample_is}

-- ---- steps, the last one apart

-- as `LeadTo`, ending in the very world of the last step
abbrev pub Chain : World → List Event → List Told → World → Type 0
Chain w [] told v = (w ≡ v) × (told ≡ [])
Chain w (event ∷ events) told v = (u : World) × (now : List Told) × (later : List Told) × IsStep w event now u × Chain u events later v × (told ≡ now ++ later)

pub chain_more : (w u v : World) (events : List Event) (event : Event) (told now : List Told) → Chain w events told u → IsStep u event now v → Chain w (events ++ event ∷ []) (told ++ now) v
chain_more w u v [] event told now (same, e) step =
    (v, now, [], subst (λ x. IsStep x event now v) (sym same) step, (refl, refl), ap (λ ts. ts ++ now) e ∙ sym (append-nil now))
chain_more w u v (x ∷ events) event told now (y, first, later, step, rest, e) last =
    (y, first, later ++ now, step, chain_more y u v events event later now rest last, ap (λ ts. ts ++ now) e ∙ append_assoc first later now)

pub chain_leads : (w v : World) (events : List Event) (told : List Told) → Chain w events told v → IsWorld v → LeadTo w events told v
chain_leads w v [] told (same, e) is =
    let stays : KeepsMemo v v = record { bound = refl; same = record { kept = λ y h. h; no_more = λ y h. h; differ = is.differ } } in
    (subst (λ x. KeepsMemo x v) (sym same) stays, ap (λ (x : World). x.sessions) same, e)
chain_leads w v (x ∷ events) told (u, now, later, step, rest, e) is = (u, now, later, step, chain_leads u v events later rest is, e)

-- ---- counts

none_raised : (c : ℕ) → c ≤ 2 ^ 64 - 1 → raised 0 c ≡ c
none_raised c h = omega (arith, h)

pub no_counts : (t : Totals) → AreCounts t → totals_after [] t ≡ t
no_counts t h =
    ap (λ x. record { looks = x; hits = raised 0 t.hits; puts = raised 0 t.puts; given_up = t.given_up }) (none_raised t.looks h.looks)
    ∙ ap (λ x. record { looks = t.looks; hits = x; puts = raised 0 t.puts; given_up = t.given_up }) (none_raised t.hits h.hits)
    ∙ ap (λ x. record { looks = t.looks; hits = t.hits; puts = x; given_up = t.given_up }) (none_raised t.puts h.puts)

raised_more : (n c : ℕ) → raised (n + 1) c ≡ next_count (raised n c)
raised_more n c = omega arith

raised_same : (n c : ℕ) → raised (n + 0) c ≡ raised n c
raised_same n c = omega arith

looks-append : (xs ys : List Event) → looks_in (xs ++ ys) ≡ looks_in xs + looks_in ys
looks-append [] ys = omega arith
looks-append (Begin i sample ∷ xs) ys = looks-append xs ys
looks-append (LookHit i ∷ xs) ys = let e = looks-append xs ys in omega (arith, e)
looks-append (LookMiss i ∷ xs) ys = let e = looks-append xs ys in omega (arith, e)
looks-append (Fill i ∷ xs) ys = looks-append xs ys
looks-append (Put i ∷ xs) ys = looks-append xs ys
looks-append (Finish i ∷ xs) ys = looks-append xs ys

hits-append : (xs ys : List Event) → hits_in (xs ++ ys) ≡ hits_in xs + hits_in ys
hits-append [] ys = omega arith
hits-append (Begin i sample ∷ xs) ys = hits-append xs ys
hits-append (LookHit i ∷ xs) ys = let e = hits-append xs ys in omega (arith, e)
hits-append (LookMiss i ∷ xs) ys = hits-append xs ys
hits-append (Fill i ∷ xs) ys = hits-append xs ys
hits-append (Put i ∷ xs) ys = hits-append xs ys
hits-append (Finish i ∷ xs) ys = hits-append xs ys

puts-append : (xs ys : List Event) → puts_in (xs ++ ys) ≡ puts_in xs + puts_in ys
puts-append [] ys = omega arith
puts-append (Begin i sample ∷ xs) ys = puts-append xs ys
puts-append (LookHit i ∷ xs) ys = puts-append xs ys
puts-append (LookMiss i ∷ xs) ys = puts-append xs ys
puts-append (Fill i ∷ xs) ys = puts-append xs ys
puts-append (Put i ∷ xs) ys = let e = puts-append xs ys in omega (arith, e)
puts-append (Finish i ∷ xs) ys = puts-append xs ys

-- the counts by how many looks, hits and puts there are
abbrev counted_by : ℕ → ℕ → ℕ → Totals → Totals
counted_by l h p t = record { looks = raised l t.looks; hits = raised h t.hits; puts = raised p t.puts; given_up = t.given_up }

by_parts : (l h p l' h' p' : ℕ) (t : Totals) → l ≡ l' → h ≡ h' → p ≡ p' → counted_by l h p t ≡ counted_by l' h' p' t
by_parts l h p l' h' p' t a b c = ap (λ x. counted_by x h p t) a ∙ ap (λ x. counted_by l' x p t) b ∙ ap (λ x. counted_by l' h' x t) c

one_more : (l h p : ℕ) (event : Event) (t : Totals) →
    counted_by (l + looks_in (event ∷ [])) (h + hits_in (event ∷ [])) (p + puts_in (event ∷ [])) t ≡ after_event event (counted_by l h p t)
one_more l h p (Begin i sample) t = by_parts _ _ _ l h p t (omega arith) (omega arith) (omega arith)
one_more l h p (LookHit i) t =
    let a = raised_more l t.looks in let b = raised_more h t.hits in let c = raised_same p t.puts in cc
one_more l h p (LookMiss i) t =
    let a = raised_more l t.looks in let b = raised_same h t.hits in let c = raised_same p t.puts in cc
one_more l h p (Fill i) t = by_parts _ _ _ l h p t (omega arith) (omega arith) (omega arith)
one_more l h p (Put i) t =
    let a = raised_same l t.looks in let b = raised_same h t.hits in let c = raised_more p t.puts in cc
one_more l h p (Finish i) t = by_parts _ _ _ l h p t (omega arith) (omega arith) (omega arith)

pub counts_more : (events : List Event) (event : Event) (t : Totals) → totals_after (events ++ event ∷ []) t ≡ after_event event (totals_after events t)
counts_more events event t =
    by_parts _ _ _ _ _ _ t (looks-append events (event ∷ [])) (hits-append events (event ∷ [])) (puts-append events (event ∷ []))
    ∙ one_more (looks_in events) (hits_in events) (puts_in events) event t

-- ---- a list of events, step by step

pub record Played (w v : CountedWorld) (events : List Event) (told : List Told) : Type 0 where
  pub steps : Chain w.world events told v.world
  pub totals : v.totals ≡ totals_after events w.totals

pub played_none : (w : CountedWorld) → AreCounts w.totals → Played w w [] []
played_none w h = record { steps = (refl, refl); totals = sym (no_counts w.totals h) }

pub played_more : (w u v : CountedWorld) (events : List Event) (event : Event) (told now : List Told) → Played w u events told → IsTaken u v event now → Played w v (events ++ event ∷ []) (told ++ now)
played_more w u v events event told now p t = record {
  steps = chain_more w.world u.world v.world events event told now p.steps t.step;
  totals = t.totals ∙ ap (λ x. after_event event x) p.totals ∙ sym (counts_more events event w.totals);
}

pub has_played : (w v : CountedWorld) (events : List Event) (told : List Told) → Played w v events told → IsWorld v.world → HasPlayed w v events told
has_played w v events told p is = record { steps = chain_leads w.world v.world events told p.steps is; totals = p.totals }

-- ---- the events of the code

by_suc : {A : Type 0} (xs : List A) (k : ℕ) (x : A) → slice_get xs k ≡ Some x → take (suc k) xs ≡ take k xs ++ x ∷ []
by_suc [] k x h = absurd (let b : ⊥ = cc in b)
by_suc (y ∷ xs) zero x h = let same : y ≡ x = cc in ap (λ z. z ∷ []) same
by_suc (y ∷ xs) (suc k) x h = ap (λ zs. y ∷ zs) (by_suc xs k x h)

take_next : {A : Type 0} (xs : List A) (k : ℕ) (x : A) → slice_get xs k ≡ Some x → take (k + 1) xs ≡ take k xs ++ x ∷ []
take_next xs k x h = ap (λ n. take n xs) (suc_is k) ∙ by_suc xs k x h
  where
    suc_is : (n : ℕ) → n + 1 ≡ suc n
    suc_is n = omega arith

module _ (w v : CountedWorld) (es : List Code) (i : ℕ) (told : List Told) (p : Played w v (take i (events_of es)) told) (is : IsWorld v.world) where
  begun : (v' : CountedWorld) → v' ≡ v → HasBegun w v' (events_of es) i
  begun v' same = subst (λ x. HasBegun w x (events_of es) i) (sym same) (record { told = told; played = has_played w v (take i (events_of es)) told p is })

  pub all_played : length es ≤ i → HasPlayed w v (events_of es) told
  all_played end =
      subst (λ xs. HasPlayed w v xs told) (take_all i (events_of es) (omega (arith, end, length-map es event_of))) (has_played w v (take i (events_of es)) told p is)

  pub out_of_memory : (v' : CountedWorld) → v' ≡ v → i ≤ length es → HasStopped w v' (events_of es) Memory
  out_of_memory v' same le = (i, omega (arith, le, length-map es event_of), begun v' same)

  module _ (e : Code) (lt : i < length es) (here : slice_get es i ≡ Some e) where
    there : slice_get (events_of es) i ≡ Some (event_of e)
    there = mapped es i here
      where
        mapped : (xs : List Code) (k : ℕ) → slice_get xs k ≡ Some e → slice_get (map event_of xs) k ≡ Some (event_of e)
        mapped [] k h = absurd (let b : ⊥ = cc in b)
        mapped (x ∷ xs) zero h = let same : x ≡ e = cc in ap (λ y. Some (event_of y)) same
        mapped (x ∷ xs) (suc k) h = mapped xs k h

    pub not_enabled : (place : ℕ) (v' : CountedWorld) → place ≡ i → v' ≡ v → (IsAllowed v.world (event_of e) → ⊥) → HasStopped w v' (events_of es) (NotEnabled place)
    not_enabled place v' at same none = (
      omega (arith, at, lt, length-map es event_of),
      subst (λ n. HasBegun w v' (events_of es) n) (sym at) (begun v' same),
      λ x h a. (
          let same_event : Some (event_of e) ≡ Some x = sym there ∙ ap (λ n. slice_get (events_of es) n) (sym at) ∙ h in
          let is_it : event_of e ≡ x = cc in
          none (subst (λ y. IsAllowed v.world y) (sym is_it) (subst (λ (y : CountedWorld). IsAllowed y.world x) same a))),
    )

    pub one_further : (v' : CountedWorld) (after : List Told) → ((now : List Told) × IsTaken v v' (event_of e) now × (after ≡ told ++ now)) → Played w v' (take (i + 1) (events_of es)) after
    one_further v' after (now, taken, more) =
        subst (λ ts. Played w v' (take (i + 1) (events_of es)) ts) (sym more)
        (subst (λ xs. Played w v' xs (told ++ now)) (sym (next (events_of es) i there)) (played_more w v v' (take i (events_of es)) (event_of e) told now p taken))
      where
        next : (xs : List Event) (k : ℕ) → slice_get xs k ≡ Some (event_of e) → take (k + 1) xs ≡ take k xs ++ event_of e ∷ []
        next xs k h = take_next xs k (event_of e) h

-- the events begin no sample but of numbers in lowest terms
pub are_events : (es : List Code) → All HasLogNumbers es → All IsEvent (events_of es)
are_events [] all = All-nil IsEvent
are_events (e ∷ es) all = All-cons IsEvent (event_of e) (events_of es) (one e (All-head HasLogNumbers e es all)) (are_events es (All-tail HasLogNumbers e es all))
  where
    one : (x : Code) → HasLogNumbers x → IsEvent (event_of x)
    one (code.Begin i sample) h = sample_is (length sample.cells) sample refl h.0 h.1
    one (code.LookHit i) h = tt
    one (code.LookMiss i) h = tt
    one (code.Fill i) h = tt
    one (code.Put i) h = tt
    one (code.Finish i) h = tt
