-- An entry that leaves states: its key, its items and their histories.
use Rattle.std.proofs.Common.{◌≡◌, ℕ, zero, suc, ◌<◌, List, [], ◌∷◌, ◌++◌, append_assoc, append-nil, length, take, Option, Some, refl, sym, ap, subst, arith}
use Rattle.std.specs.Prelude.{All, slice_get}
use Rattle.std.proofs.lemmas.List.Elements.{All-head, All-tail}
use Rattle.poly_specs.specs.Fractions.{Fraction, IsFraction, zero_fraction}
use Rattle.run_specs.proofs.HistoryLogLemmas.{history_has_log}
use Rattle.run_specs.proofs.RunEndLemmas.{IsKeyOf, key_of, last_from-append}
use Rattle.run_specs.proofs.SessionLemmas.{last_from}
use Rattle.run_specs.specs.Automaton.{Automaton, width}
use Rattle.run_specs.specs.Histories.{History}
use Rattle.run_specs.specs.HistoryLogs.{log_of}
use Rattle.run_specs.specs.Keys.{State, Key, IsKey}
use Rattle.run_specs.specs.Logs.{Sample, IsSample}
use Rattle.run_specs.specs.Outcomes.{Item, Outcome, Next, Passed, AreExact, IsExact}
use Rattle.run_specs.specs.SessionHistories.{Entry, SessionHistory, AreLinked, IsHistory, states, states_left, opening_states, belief_after}
use Rattle.run_specs.specs.Sessions.{AreEntriesOf}
use Rattle.run_specs.specs.StateHistories.{opening_histories, item_histories, histories_after, states_at, histories_at}
use Rattle.alarm_run.specs.Entries.{key_at, HasItems}

-- the entry's key, for these states before it
abbrev key_with : Automaton → ℕ → List State → Fraction → List (Option Fraction) → Key
key_with a k belief gap seen = record { automaton = a; jumps = k; belief = belief; gap = gap; seen = seen }

-- gap number i of these has an entry with items
record IsFound (a : Automaton) (k : ℕ) (before : List Sample) (belief : List State) (hs : List History) (samples : List Sample) (es : List Entry) (i : ℕ)
    (gap : Fraction) (seen : List (Option Fraction)) (items : List Item) : Type 0 where
  at : slice_get es i ≡ Some (record { key = key_with a k (belief_after belief (take i es)) gap seen; outcome = Next items })
  is_key : IsKey (key_with a k (belief_after belief (take i es)) gap seen)
  exact : AreExact (key_with a k (belief_after belief (take i es)) gap seen) items
  states_are : belief_after belief (take (suc i) es) ≡ states items
  histories_are : histories_after hs (take (suc i) es) ≡ item_histories (histories_after hs (take i es)) items
  sample : (s : Sample) → take (suc i) samples ≡ take i samples ++ s ∷ [] → IsKeyOf (before ++ take i samples) s (key_with a k (belief_after belief (take i es)) gap seen)

abbrev SomeFound : Automaton → ℕ → List Sample → List State → List History → List Sample → List Entry → ℕ → Type 0
SomeFound a k before belief hs samples es i =
    (gap : Fraction) × (seen : List (Option Fraction)) × (items : List Item) × IsFound a k before belief hs samples es i gap seen items

head_is : (x y : Sample) (xs : List Sample) → x ∷ xs ≡ y ∷ xs → x ≡ y
head_is x y xs e = cc

tail_is : (x : Sample) (xs ys : List Sample) → x ∷ xs ≡ x ∷ ys → xs ≡ ys
tail_is x xs ys e = cc

none_after : (es : List Entry) (i : ℕ) → es ≡ [] → i < length es → ⊥
none_after [] i e h = omega (arith, h)
none_after (x ∷ es) i e h = cc

same_key : (a : Automaton) (k : ℕ) (belief : List State) (key : Key) → key.automaton ≡ a → key.jumps ≡ k → key.belief ≡ belief → key ≡ key_with a k belief key.gap key.seen
same_key a k belief key ea ek eb = λ j. record { automaton = ea j; jumps = ek j; belief = eb j; gap = key.gap; seen = key.seen }

first_found : (a : Automaton) (k m : ℕ) (before : List Sample) (belief : List State) (hs : List History) (s : Sample) (ss : List Sample) (key : Key) (es : List Entry) (items : List Item) (t : Fraction) →
    IsKey key → AreExact key items → key.automaton ≡ a → key.jumps ≡ k → key.belief ≡ belief → IsKeyOf before s key →
    SomeFound a k before belief hs (s ∷ ss) (record { key = key; outcome = Next items } ∷ es) zero
first_found a k m before belief hs s ss key es items t is exact ea ek eb of =
    let e : key ≡ key_with a k belief key.gap key.seen = same_key a k belief key ea ek eb in (
      key.gap,
      key.seen,
      items,
      record {
        at = ap (λ (x : Key). Some (record { key = x; outcome = Next items })) e;
        is_key = subst IsKey e is;
        exact = subst (λ x. AreExact x items) e exact;
        states_are = refl;
        histories_are = refl;
        sample = λ x f. subst (λ log. IsKeyOf log x (key_with a k belief key.gap key.seen)) (sym (append-nil before))
            (subst (λ (y : Sample). IsKeyOf before y (key_with a k belief key.gap key.seen)) (head_is s x [] f) (subst (IsKeyOf before s) e of));
      },
    )

found : (a : Automaton) (k m : ℕ) (before : List Sample) (belief : List State) (hs : List History) (samples : List Sample) (es : List Entry) (t : Fraction) (i : ℕ) →
    AreLinked a k belief es → AreEntriesOf t samples es → t ≡ last_from zero_fraction before → IsFraction t → All (IsSample m) samples → i < length es →
    0 < length (belief_after belief (take (suc i) es)) → SomeFound a k before belief hs samples es i
found a k m before belief hs samples [] t i linked entries et ht all h some = absurd (omega (arith, h))
found a k m before belief hs [] (x ∷ es) t i linked entries et ht all h some = absurd entries
found a k m before belief hs (s ∷ ss) (x ∷ es) t zero linked entries et ht all h some =
    let of = key_of before s t m x linked.0 (All-head (IsSample m) s ss all) et ht entries.0 entries.1 in
    go x.outcome refl linked.0.exact some of
  where
    go : (o : Outcome) → x.outcome ≡ o → IsExact x.key o → 0 < length (states_left o) → IsKeyOf before s x.key → SomeFound a k before belief hs (s ∷ ss) (x ∷ es) zero
    go Passed e exact some of = absurd (omega (arith, some))
    go (Next items) e exact some of =
        subst (λ (y : Entry). SomeFound a k before belief hs (s ∷ ss) (y ∷ es) zero) (λ j. record { key = x.key; outcome = sym e j })
        (first_found a k m before belief hs s ss x.key es items t linked.0.key exact linked.1 linked.2 linked.3 of)
found a k m before belief hs (s ∷ ss) (x ∷ es) t (suc i) linked entries et ht all h some =
    go x.outcome refl linked.4 some
    (λ b gs l n. found a k m (before ++ s ∷ []) b gs ss es s.time i l entries.2 (sym (last_from-append zero_fraction before s)) (All-head (IsSample m) s ss all).time.positive (All-tail (IsSample m) s ss all)
    (omega (arith, h)) n)
  where
    go : (o : Outcome) → x.outcome ≡ o → elim o as (λ _. Type 0) [ Next items ↦ AreLinked a k (states items) es | Passed ↦ es ≡ [] ] → 0 < length (belief_after (states_left o) (take (suc i) es)) →
        ((b : List State) (gs : List History) → AreLinked a k b es → 0 < length (belief_after b (take (suc i) es)) → SomeFound a k (before ++ s ∷ []) b gs ss es i) →
        SomeFound a k before belief hs (s ∷ ss) (x ∷ es) (suc i)
    go Passed e l n later = absurd (none_after es i l (omega (arith, h)))
    go (Next items) e l n later =
        subst (λ (o : Outcome). SomeFound a k before belief hs (s ∷ ss) (record { key = x.key; outcome = o } ∷ es) (suc i)) (sym e)
        (later_found (later (states items) (item_histories hs items) l n))
      where
        later_found : SomeFound a k (before ++ s ∷ []) (states items) (item_histories hs items) ss es i →
            SomeFound a k before belief hs (s ∷ ss) (record { key = x.key; outcome = Next items } ∷ es) (suc i)
        later_found (gap, seen, items', f) = (
          gap,
          seen,
          items',
          record {
            at = f.at;
            is_key = f.is_key;
            exact = f.exact;
            states_are = f.states_are;
            histories_are = f.histories_are;
            sample = λ y g. subst (λ log. IsKeyOf log y (key_with a k (belief_after (states items) (take i es)) gap seen)) (append_assoc before (s ∷ []) (take i ss)) (f.sample y (tail_is s (take (suc i) ss) (take i ss ++ y ∷ []) g));
          },
        )

-- gap number i has an entry with items, for each of which there is a state
pub record IsLeaving (h : SessionHistory) (i : ℕ) (gap : Fraction) (seen : List (Option Fraction)) (items : List Item) : Type 0 where
  pub at : HasItems h i (key_at h i gap seen) items
  pub is_key : IsKey (key_at h i gap seen)
  pub exact : AreExact (key_at h i gap seen) items
  pub states_are : states_at h (suc i) ≡ states items
  pub histories_are : histories_at h (suc i) ≡ item_histories (histories_at h i) items
  pub sample : (s : Sample) → take (suc i) (log_of h) ≡ take i (log_of h) ++ s ∷ [] → IsKeyOf (take i (log_of h)) s (key_at h i gap seen)

pub leaving : (h : SessionHistory) (i : ℕ) → IsHistory h → i < length h.gaps → 0 < length (states_at h (suc i)) →
    (gap : Fraction) × (seen : List (Option Fraction)) × (items : List Item) × IsLeaving h i gap seen items
leaving h i is hi some =
    let log = history_has_log h is in
    let (gap, seen, items, f) = found h.automaton h.jumps (width h.automaton) [] (opening_states h) (opening_histories (opening_states h)) (log_of h) h.gaps zero_fraction i
    is.linked log.entries refl (record { lt = tt }) log.is_log.each hi some in (
      gap,
      seen,
      items,
      record { at = f.at; is_key = f.is_key; exact = f.exact; states_are = f.states_are; histories_are = f.histories_are; sample = f.sample },
    )
