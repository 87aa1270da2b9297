-- The last sample of a log, and the last entry of a history.
use Rattle.std.proofs.Common.{◌≡◌, ℕ, zero, suc, ◌+◌, ◌-◌, Bool, true, false, List, [], ◌∷◌, length, Some, refl, ap, subst, arith}
use Rattle.std.specs.Prelude.{slice_get, All, map}
use Rattle.std.proofs.lemmas.List.Elements.{All-map, All-head, All-tail}
use Rattle.std.specs.Arc.{arc_value}
use Rattle.std.specs.declared.sync.Arc.{Arc}
use Rattle.run_specs.specs.Logs.{Sample}
use Rattle.run_specs.specs.Keys.{State, Key}
use Rattle.run_specs.specs.Outcomes.{Next, Passed}
use Rattle.run_specs.specs.Outcomes as outcomes
use Rattle.run_specs.specs.SessionHistories.{Entry, states, states_left, belief_after}
use Rattle.run_specs.specs.Sessions.{last_time}
use Rattle.gap_keys.specs.declared.outcomes.Outcome.{Outcome}
use Rattle.gap_keys.specs.Answering.{outcome_of}
use Rattle.gap_keys.specs.Views.{StateView, ItemView, AreWide, AreItemsWide, state_view, states_of, items_of}
use Rattle.live_session.specs.Entries.{entry_of, entries_of, last_passed}

-- ---- samples

last_time_from : (ss : List Sample) (i : ℕ) (x : Sample) → i + 1 ≡ length ss → Some x ≡ slice_get ss i → x.time ≡ last_time ss
last_time_from [] i x n e = absurd (omega (arith, n))
last_time_from (s ∷ []) zero x n e = ap (λ (y : Sample). y.time) (let f : x ≡ s = cc in f)
last_time_from (s ∷ []) (suc i) x n e = absurd (omega (arith, n))
last_time_from (s ∷ t ∷ ss) zero x n e = absurd (omega (arith, n))
last_time_from (s ∷ t ∷ ss) (suc i) x n e = last_time_from (t ∷ ss) i x (omega (arith, n)) e

pub last_time_at : (ss : List Sample) (x : Sample) → Some x ≡ slice_get ss (length ss - 1) → x.time ≡ last_time ss
last_time_at [] x e = absurd (let b : ⊥ = cc in b)
last_time_at (s ∷ ss) x e = last_time_from (s ∷ ss) (length (s ∷ ss) - 1) x (omega arith) e

-- ---- states

pub states_shown : (xs : List ItemView) → states_of (map state_view xs) ≡ states (items_of xs)
states_shown [] = refl
states_shown (x ∷ xs) = ap (λ ss. x.item.state ∷ ss) (states_shown xs)

pub states_wide : (m : ℕ) (xs : List ItemView) → AreItemsWide m xs → AreWide m (map state_view xs)
states_wide m xs h = All-map (λ (v : StateView). v.width ≡ m) state_view xs h

-- ---- entries

-- whether an outcome passed
abbrev pub passes : outcomes.Outcome → Bool
passes (Next items) = false
passes Passed = true

module _ {A : Type 0} where
  last_passed_from : (gaps : List (Arc (Key × Outcome) A)) (i : ℕ) (x : Arc (Key × Outcome) A) → i + 1 ≡ length gaps → Some x ≡ slice_get gaps i →
      last_passed (entries_of gaps) ≡ passes (outcome_of (arc_value x).1)
  last_passed_from [] i x n e = absurd (omega (arith, n))
  last_passed_from (y ∷ []) zero x n e =
      let f : x ≡ y = cc in subst (λ z. last_passed (entries_of (z ∷ [])) ≡ passes (outcome_of (arc_value x).1)) f (one (outcome_of (arc_value x).1))
    where
      one : (o : outcomes.Outcome) → elim o as (λ _. Bool) [ Next items ↦ false | Passed ↦ true ] ≡ passes o
      one (Next items) = refl
      one Passed = refl
  last_passed_from (y ∷ []) (suc i) x n e = absurd (omega (arith, n))
  last_passed_from (y ∷ z ∷ gaps) zero x n e = absurd (omega (arith, n))
  last_passed_from (y ∷ z ∷ gaps) (suc i) x n e = last_passed_from (z ∷ gaps) i x (omega (arith, n)) e

  pub last_passed_at : (gaps : List (Arc (Key × Outcome) A)) (x : Arc (Key × Outcome) A) → Some x ≡ slice_get gaps (length gaps - 1) →
      last_passed (entries_of gaps) ≡ passes (outcome_of (arc_value x).1)
  last_passed_at [] x e = absurd (let b : ⊥ = cc in b)
  last_passed_at (y ∷ gaps) x e = last_passed_from (y ∷ gaps) (length (y ∷ gaps) - 1) x (omega arith) e

  belief_from : (belief : List State) (gaps : List (Arc (Key × Outcome) A)) (i : ℕ) (x : Arc (Key × Outcome) A) → i + 1 ≡ length gaps → Some x ≡ slice_get gaps i →
      states_left (outcome_of (arc_value x).1) ≡ belief_after belief (entries_of gaps)
  belief_from belief [] i x n e = absurd (omega (arith, n))
  belief_from belief (y ∷ []) zero x n e = ap (λ (z : Arc (Key × Outcome) A). states_left (outcome_of (arc_value z).1)) (let f : x ≡ y = cc in f)
  belief_from belief (y ∷ []) (suc i) x n e = absurd (omega (arith, n))
  belief_from belief (y ∷ z ∷ gaps) zero x n e = absurd (omega (arith, n))
  belief_from belief (y ∷ z ∷ gaps) (suc i) x n e = belief_from (states_left (outcome_of (arc_value y).1)) (z ∷ gaps) i x (omega (arith, n)) e

  pub belief_at : (belief : List State) (gaps : List (Arc (Key × Outcome) A)) (x : Arc (Key × Outcome) A) → Some x ≡ slice_get gaps (length gaps - 1) →
      states_left (outcome_of (arc_value x).1) ≡ belief_after belief (entries_of gaps)
  belief_at belief [] x e = absurd (let b : ⊥ = cc in b)
  belief_at belief (y ∷ gaps) x e = belief_from belief (y ∷ gaps) (length (y ∷ gaps) - 1) x (omega arith) e

  all_from : (P : Entry → Type 0) (gaps : List (Arc (Key × Outcome) A)) (i : ℕ) (x : Arc (Key × Outcome) A) → i + 1 ≡ length gaps → Some x ≡ slice_get gaps i → All P (entries_of gaps) →
      P (entry_of (arc_value x))
  all_from P [] i x n e h = absurd (omega (arith, n))
  all_from P (y ∷ []) zero x n e h = subst (λ (z : Arc (Key × Outcome) A). P (entry_of (arc_value z))) (let f : y ≡ x = cc in f) (All-head P (entry_of (arc_value y)) [] h)
  all_from P (y ∷ []) (suc i) x n e h = absurd (omega (arith, n))
  all_from P (y ∷ z ∷ gaps) zero x n e h = absurd (omega (arith, n))
  all_from P (y ∷ z ∷ gaps) (suc i) x n e h = all_from P (z ∷ gaps) i x (omega (arith, n)) e (All-tail P (entry_of (arc_value y)) (entries_of (z ∷ gaps)) h)

  -- what holds of all entries holds of the last one
  pub all_at : (P : Entry → Type 0) (gaps : List (Arc (Key × Outcome) A)) (x : Arc (Key × Outcome) A) → Some x ≡ slice_get gaps (length gaps - 1) → All P (entries_of gaps) →
      P (entry_of (arc_value x))
  all_at P [] x e h = absurd (let b : ⊥ = cc in b)
  all_at P (y ∷ gaps) x e h = all_from P (y ∷ gaps) (length (y ∷ gaps) - 1) x (omega arith) e h
