-- The first marked item, and the entry behind an alarm.
use Rattle.std.proofs.Common.{◌≡◌, inl, inr, ℕ, zero, suc, ◌+◌, ◌<◌, ◌≤◌, Bool, true, false, ◌||◌, List, [], ◌∷◌, get_or, length, take, Option, Some, None, refl, sym, ◌∙◌, ap, subst, arith}
use Rattle.std.specs.Prelude.{if◌then◌else◌, slice_get}
use Rattle.std.proofs.lemmas.Bool.{cases_lt}
use Rattle.std.proofs.lemmas.List.{get_or-map, length-map}
use Rattle.gap_keys.specs.Views.{ItemView, items_of}
use Rattle.run_specs.specs.declared.Verdict.{Verdict}
use Rattle.run_specs.specs.declared.Verdict.TheVariants.{Alarm, Safe, Overflow}
use Rattle.run_specs.specs.Keys.{State, no_state}
use Rattle.run_specs.specs.Outcomes.{Item, Outcome, Next, Passed}
use Rattle.run_specs.specs.SessionHistories.{Entry, SessionHistory, states, states_left, opening_states, belief_after, some_marked, verdict_of, verdict_after, verdict_at, has_passed}
use Rattle.alarm_run.specs.Marks.{IsMarkedAt, IsFirstMarked}

-- ---- marks

-- no item is marked
none_marked : (items : List Item) → ((j : ℕ) → j < length items → IsMarkedAt items j → ⊥) → some_marked items ≡ true → ⊥
none_marked [] f e = cc
none_marked (x ∷ items) f e = go x.state.seen_unsafe refl e (λ g. none_marked items (λ j h. f (suc j) (omega (arith, h))) g)
  where
    go : (b : Bool) → x.state.seen_unsafe ≡ b → (b || some_marked items) ≡ true → (some_marked items ≡ true → ⊥) → ⊥
    go true m e later = f 0 (omega arith) m
    go false m e later = later e

pub contradicted : (xs : List ItemView) (n : ℕ) → ((j : ℕ) → j < n → IsMarkedAt (items_of xs) j → ⊥) → length (items_of xs) ≤ n → some_marked (items_of xs) ≡ true → ⊥
contradicted xs n f h = none_marked (items_of xs) (λ j lt. f j (omega (arith, lt, h)))

-- ---- the entry behind an alarm

pub record IsAlarmEntry (belief : List State) (es : List Entry) (i : ℕ) (entry : Entry) (items : List Item) : Type 0 where
  pub below : i < length es
  pub at : slice_get es i ≡ Some entry
  pub outcome : entry.outcome ≡ Next items
  pub marked : some_marked items ≡ true
  pub left : belief_after belief (take (suc i) es) ≡ states items
  pub not_passed : has_passed (take (suc i) es) ≡ false

none_here : (items : List Item) → verdict_of (Next items) ≡ Alarm → some_marked items ≡ true
none_here [] e = absurd (let f : ⊥ = cc in f)
none_here (x ∷ items) e = go (some_marked (x ∷ items)) e
  where
    go : (b : Bool) → (if b then Alarm else Safe) ≡ Alarm → b ≡ true
    go true e = refl
    go false e = absurd (let f : ⊥ = cc in f)

told_first : (belief : List State) (x : Entry) (es : List Entry) → verdict_after belief (x ∷ es) zero ≡ Some (verdict_of x.outcome)
told_first [] x es = refl
told_first (b ∷ bs) x es = refl

told_next : (belief : List State) (x : Entry) (es : List Entry) (i : ℕ) →
    verdict_after belief (x ∷ es) (suc i) ≡ elim x.outcome as (λ _. Option Verdict) [ Next items ↦ verdict_after (states items) es i | Passed ↦ Some Overflow ]
told_next [] x es i = refl
told_next (b ∷ bs) x es i = refl

alarm_after : (belief : List State) (es : List Entry) (i : ℕ) → verdict_after belief es i ≡ Some Alarm → (entry : Entry) × (items : List Item) × IsAlarmEntry belief es i entry items
alarm_after [] [] i e = absurd (let f : ⊥ = cc in f)
alarm_after (b ∷ bs) [] i e = absurd (let f : ⊥ = cc in f)
alarm_after belief (x ∷ es) zero e = go x.outcome refl (let f = told_first belief x es in let g : verdict_of x.outcome ≡ Alarm = cc in g)
  where
    go : (o : Outcome) → x.outcome ≡ o → verdict_of o ≡ Alarm → (entry : Entry) × (items : List Item) × IsAlarmEntry belief (x ∷ es) zero entry items
    go Passed f e = absurd (let g : ⊥ = cc in g)
    go (Next items) f e = (
      x,
      items,
      record {
        below = omega arith;
        at = refl;
        outcome = f;
        marked = none_here items e;
        left = ap (λ o. states_left o) f;
        not_passed = ap (λ o. elim o as (λ _. Bool) [ Next items ↦ false | Passed ↦ true ]) f;
      },
    )
alarm_after belief (x ∷ es) (suc i) e = go x.outcome refl (sym (told_next belief x es i) ∙ e) (λ b f. alarm_after b es i f)
  where
    go : (o : Outcome) → x.outcome ≡ o → elim o as (λ _. Option Verdict) [ Next items ↦ verdict_after (states items) es i | Passed ↦ Some Overflow ] ≡ Some Alarm →
        ((b : List State) → verdict_after b es i ≡ Some Alarm → (entry : Entry) × (items : List Item) × IsAlarmEntry b es i entry items) →
        (entry : Entry) × (items : List Item) × IsAlarmEntry belief (x ∷ es) (suc i) entry items
    go Passed f e later = absurd (let g : ⊥ = cc in g)
    go (Next xs) f e later =
        let (entry, items, r) = later (states xs) e in (
          entry,
          items,
          record {
            below = (let b = r.below in omega (arith, b));
            at = r.at;
            outcome = r.outcome;
            marked = r.marked;
            left = ap (λ o. belief_after (states_left o) (take (suc i) es)) f ∙ r.left;
            not_passed = ap (λ o. elim o as (λ _. Bool) [ Next items ↦ has_passed (take (suc i) es) | Passed ↦ true ]) f ∙ r.not_passed;
          },
        )

pub alarm_entry : (h : SessionHistory) (i : ℕ) → verdict_at h i ≡ Some Alarm → (entry : Entry) × (items : List Item) × IsAlarmEntry (opening_states h) h.gaps i entry items
alarm_entry h i e = go h.opening refl e
  where
    go : (o : Option (List State)) → h.opening ≡ o → elim o as (λ _. Option Verdict) [ None ↦ Some Overflow | Some belief ↦ verdict_after belief h.gaps i ] ≡ Some Alarm →
        (entry : Entry) × (items : List Item) × IsAlarmEntry (opening_states h) h.gaps i entry items
    go None f e = absurd (let g : ⊥ = cc in g)
    go (Some belief) f e =
        subst (λ b. (entry : Entry) × (items : List Item) × IsAlarmEntry b h.gaps i entry items)
        (sym (ap (λ o. elim o as (λ _. List State) [ None ↦ [] | Some b ↦ b ]) f)) (alarm_after belief h.gaps i e)

-- ---- as the code has it

pub mark_at : (xs : List ItemView) (i : ℕ) (v : ItemView) (b : Bool) → v ≡ get_or xs i v → i < length xs → v.item.state.seen_unsafe ≡ b → (get_or (states (items_of xs)) i no_state).seen_unsafe ≡ b
mark_at xs i v b index lt e =
    ap (λ (x : State). x.seen_unsafe)
    (get_or-map (λ (x : Item). x.state) (items_of xs) i v.item no_state (omega (arith, lt, length-map xs (λ (x : ItemView). x.item)))
    ∙ ap (λ (x : Item). x.state) (get_or-map (λ (x : ItemView). x.item) xs i v v.item lt ∙ ap (λ (x : ItemView). x.item) (sym index)))
    ∙ e

pub first_is : (xs : List ItemView) (i : ℕ) (v : ItemView) → ((j : ℕ) → j < i → IsMarkedAt (items_of xs) j → ⊥) → v ≡ get_or xs i v → i < length xs → v.item.state.seen_unsafe ≡ true →
    IsFirstMarked (items_of xs) i
first_is xs i v none index lt e = record { below = omega (arith, lt, length-map xs (λ (x : ItemView). x.item)); marked = mark_at xs i v true index lt e; first = none }

pub none_more : (xs : List ItemView) (i : ℕ) (v : ItemView) → ((j : ℕ) → j < i → IsMarkedAt (items_of xs) j → ⊥) → v ≡ get_or xs i v → i < length xs → v.item.state.seen_unsafe ≡ false →
    (j : ℕ) → j < i + 1 → IsMarkedAt (items_of xs) j → ⊥
none_more xs i v none index lt e j h m = elim (cases_lt j i) [
  | inl less ↦ none j less m
  | inr more ↦ (
      let at : j ≡ i = omega (arith, more, h) in
      let f : true ≡ false = sym (subst (IsMarkedAt (items_of xs)) at m) ∙ mark_at xs i v false index lt e in
      let g : ⊥ = cc in
      g)
]
