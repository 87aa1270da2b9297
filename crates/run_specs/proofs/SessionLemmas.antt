-- A session's history when an entry joins it, and its log when a sample does.
use Rattle.std.proofs.Common.{◌≡◌, ◌⊎◌, inl, inr, ℕ, zero, suc, ◌<◌, ◌≤◌, Bool, true, false, List, [], ◌∷◌, ◌++◌, length, Option, Some, None, refl, ◌∙◌, subst, arith}
use Rattle.std.specs.Prelude.{All, IfSome}
use Rattle.std.proofs.lemmas.Int.{ints}
use Rattle.std.proofs.lemmas.List.{length-set, length-replicate}
use Rattle.std.proofs.lemmas.List.Elements.{All-push, All-replicate, All-set, All-head, All-tail}
use Rattle.poly_specs.proofs.IntLemmas.{product_positive}
use Rattle.poly_specs.proofs.LowestLemmas.{lowest-same, lowest-IsFraction}
use Rattle.poly_specs.proofs.FractionLemmas.{Below-AtMost_trans, same-AtMost}
use Rattle.poly_specs.specs.Fractions.{Fraction, IsFraction, Below, difference, zero_fraction}
use Rattle.poly_specs.specs.Arithmetic.{lowest}
use Rattle.poly_specs.specs.LowestTerms.{IsLowest}
use Rattle.run_specs.specs.declared.Verdict.{Verdict}
use Rattle.run_specs.specs.declared.Verdict.TheVariants.{Overflow, Impossible}
use Rattle.run_specs.specs.Automaton.{Automaton}
use Rattle.run_specs.specs.Logs.{Sample, IsSample, IsLog, RiseFrom, TimesRise}
use Rattle.run_specs.specs.Keys.{State}
use Rattle.run_specs.specs.Outcomes.{Outcome, Next, Passed}
use Rattle.run_specs.specs.SessionHistories.{Entry, IsEntry, AreLinked, states, states_left, belief_after, has_passed, verdict_after, verdict_of}
use Rattle.run_specs.specs.Sessions.{placed, last_time, IsInTime, AreEntriesOf}

-- ---- entries

pub linked-append : (a : Automaton) (k : ℕ) (belief : List State) (es : List Entry) (e : Entry) → AreLinked a k belief es → has_passed es ≡ false →
    IsEntry e → e.key.automaton ≡ a → e.key.jumps ≡ k → e.key.belief ≡ belief_after belief es → AreLinked a k belief (es ++ e ∷ [])
linked-append a k belief [] e h n is ea ek eb = (is, ea, ek, eb, last e.outcome)
  where
    last : (o : Outcome) → elim o as (λ _. Type 0) [ Next items ↦ Unit {0} | Passed ↦ ◌≡◌ {A = List Entry} [] [] ]
    last (Next items) = tt
    last Passed = refl
linked-append a k belief (x ∷ es) e h n is ea ek eb = (h.0, h.1, h.2, h.3, more (λ b l f g. linked-append a k b es e l f is ea ek g) x.outcome h.4 n eb)
  where
    more : ((b : List State) → AreLinked a k b es → has_passed es ≡ false → e.key.belief ≡ belief_after b es → AreLinked a k b (es ++ e ∷ [])) →
        (o : Outcome) → elim o as (λ _. Type 0) [ Next items ↦ AreLinked a k (states items) es | Passed ↦ es ≡ [] ] → elim o as (λ _. Bool) [ Next items ↦ has_passed es | Passed ↦ true ] ≡ false →
        e.key.belief ≡ belief_after (states_left o) es → elim o as (λ _. Type 0) [ Next items ↦ AreLinked a k (states items) (es ++ e ∷ []) | Passed ↦ es ++ e ∷ [] ≡ [] ]
    more later (Next items) h n b = later (states items) h n b
    more later Passed h n b = absurd (let f : ⊥ = cc in f)

-- ---- verdicts

-- a verdict past the entries, of which none passed: no state is left
pub none_left : (belief : List State) (es : List Entry) (v : Verdict) → verdict_after belief es (length es) ≡ Some v → has_passed es ≡ false → belief_after belief es ≡ []
none_left [] [] v e n = refl
none_left (b ∷ bs) [] v e n = absurd (let f : ⊥ = cc in f)
none_left [] (x ∷ es) v e n = more (λ b f g. none_left b es v f g) x.outcome e n
  where
    more : ((b : List State) → verdict_after b es (length es) ≡ Some v → has_passed es ≡ false → belief_after b es ≡ []) →
        (o : Outcome) → elim o [ Next items ↦ verdict_after (states items) es (length es) | Passed ↦ Some Overflow ] ≡ Some v → elim o as (λ _. Bool) [ Next items ↦ has_passed es | Passed ↦ true ] ≡ false →
        belief_after (states_left o) es ≡ []
    more later (Next items) e n = later (states items) e n
    more later Passed e n = absurd (let f : ⊥ = cc in f)
none_left (b ∷ bs) (x ∷ es) v e n = more (λ b f g. none_left b es v f g) x.outcome e n
  where
    more : ((b : List State) → verdict_after b es (length es) ≡ Some v → has_passed es ≡ false → belief_after b es ≡ []) →
        (o : Outcome) → elim o [ Next items ↦ verdict_after (states items) es (length es) | Passed ↦ Some Overflow ] ≡ Some v → elim o as (λ _. Bool) [ Next items ↦ has_passed es | Passed ↦ true ] ≡ false →
        belief_after (states_left o) es ≡ []
    more later (Next items) e n = later (states items) e n
    more later Passed e n = absurd (let f : ⊥ = cc in f)

-- another entry changes no verdict before it
pub verdict-append : (belief : List State) (es more : List Entry) (i : ℕ) → i < length es → verdict_after belief (es ++ more) i ≡ verdict_after belief es i
verdict-append belief [] more i h = absurd (omega arith)
verdict-append [] (x ∷ es) more zero h = refl
verdict-append (b ∷ bs) (x ∷ es) more zero h = refl
verdict-append [] (x ∷ es) more (suc i) h = next (λ b. verdict-append b es more i (omega arith)) x.outcome
  where
    next : ((b : List State) → verdict_after b (es ++ more) i ≡ verdict_after b es i) →
        (o : Outcome) → ◌≡◌ {A = Option Verdict} (elim o [ Next items ↦ verdict_after (states items) (es ++ more) i | Passed ↦ Some Overflow ])
        (elim o [ Next items ↦ verdict_after (states items) es i | Passed ↦ Some Overflow ])
    next later (Next items) = later (states items)
    next later Passed = refl
verdict-append (b ∷ bs) (x ∷ es) more (suc i) h = next (λ b. verdict-append b es more i (omega arith)) x.outcome
  where
    next : ((b : List State) → verdict_after b (es ++ more) i ≡ verdict_after b es i) →
        (o : Outcome) → ◌≡◌ {A = Option Verdict} (elim o [ Next items ↦ verdict_after (states items) (es ++ more) i | Passed ↦ Some Overflow ])
        (elim o [ Next items ↦ verdict_after (states items) es i | Passed ↦ Some Overflow ])
    next later (Next items) = later (states items)
    next later Passed = refl

-- it has a verdict itself
pub verdict-last : (belief : List State) (es : List Entry) (e : Entry) → (v : Verdict) × (verdict_after belief (es ++ e ∷ []) (length es) ≡ Some v)
verdict-last [] [] e = (verdict_of e.outcome, refl)
verdict-last (b ∷ bs) [] e = (verdict_of e.outcome, refl)
verdict-last [] (x ∷ es) e = next (λ b. verdict-last b es e) x.outcome
  where
    next : ((b : List State) → (v : Verdict) × (verdict_after b (es ++ e ∷ []) (length es) ≡ Some v)) →
        (o : Outcome) → (v : Verdict) × (elim o [ Next items ↦ verdict_after (states items) (es ++ e ∷ []) (length es) | Passed ↦ Some Overflow ] ≡ Some v)
    next later (Next items) = later (states items)
    next later Passed = (Overflow, refl)
verdict-last (b ∷ bs) (x ∷ es) e = next (λ c. verdict-last c es e) x.outcome
  where
    next : ((b : List State) → (v : Verdict) × (verdict_after b (es ++ e ∷ []) (length es) ≡ Some v)) →
        (o : Outcome) → (v : Verdict) × (elim o [ Next items ↦ verdict_after (states items) (es ++ e ∷ []) (length es) | Passed ↦ Some Overflow ] ≡ Some v)
    next later (Next items) = later (states items)
    next later Passed = (Overflow, refl)

-- where an entry passed, or no state is left, each place has a verdict
pub all_told : (belief : List State) (es : List Entry) → (has_passed es ≡ true) ⊎ (belief_after belief es ≡ []) → (i : ℕ) → (v : Verdict) × (verdict_after belief es i ≡ Some v)
all_told [] [] h i = (Impossible, refl)
all_told (b ∷ bs) [] (inl h) i = absurd (let f : ⊥ = cc in f)
all_told (b ∷ bs) [] (inr h) i = absurd (let f : ⊥ = cc in f)
all_told [] (x ∷ es) h zero = (verdict_of x.outcome, refl)
all_told (b ∷ bs) (x ∷ es) h zero = (verdict_of x.outcome, refl)
all_told [] (x ∷ es) h (suc i) = next (λ c k. all_told c es k i) x.outcome h
  where
    next : ((b : List State) → (has_passed es ≡ true) ⊎ (belief_after b es ≡ []) → (v : Verdict) × (verdict_after b es i ≡ Some v)) →
        (o : Outcome) → (elim o as (λ _. Bool) [ Next items ↦ has_passed es | Passed ↦ true ] ≡ true) ⊎ (belief_after (states_left o) es ≡ []) →
        (v : Verdict) × (elim o [ Next items ↦ verdict_after (states items) es i | Passed ↦ Some Overflow ] ≡ Some v)
    next later (Next items) h = later (states items) h
    next later Passed h = (Overflow, refl)
all_told (b ∷ bs) (x ∷ es) h (suc i) = next (λ c k. all_told c es k i) x.outcome h
  where
    next : ((b : List State) → (has_passed es ≡ true) ⊎ (belief_after b es ≡ []) → (v : Verdict) × (verdict_after b es i ≡ Some v)) →
        (o : Outcome) → (elim o as (λ _. Bool) [ Next items ↦ has_passed es | Passed ↦ true ] ≡ true) ⊎ (belief_after (states_left o) es ≡ []) →
        (v : Verdict) × (elim o [ Next items ↦ verdict_after (states items) es i | Passed ↦ Some Overflow ] ≡ Some v)
    next later (Next items) h = later (states items) h
    next later Passed h = (Overflow, refl)

-- ---- the log

-- the last time from t on
abbrev pub last_from : Fraction → List Sample → Fraction
last_from t [] = t
last_from t (s ∷ ss) = last_from s.time ss

pub last_is : (ss : List Sample) → last_time ss ≡ last_from zero_fraction ss
last_is [] = refl
last_is (s ∷ ss) = go s ss
  where
    go : (s : Sample) (ss : List Sample) → last_time (s ∷ ss) ≡ last_from s.time ss
    go s [] = refl
    go s (t ∷ ss) = go t ss

rise-append : (t : Fraction) (ss : List Sample) (s : Sample) → RiseFrom t ss → Below (last_from t ss) s.time → RiseFrom t (ss ++ s ∷ [])
rise-append t [] s h b = (b, tt)
rise-append t (x ∷ ss) s h b = (h.0, rise-append x.time ss s h.1 b)

times-append : (ss : List Sample) (s : Sample) → TimesRise ss → IsInTime ss s.time → TimesRise (ss ++ s ∷ [])
times-append [] s h b = (b, tt)
times-append (x ∷ ss) s h b = (h.0, rise-append x.time ss s h.1 (subst (λ u. Below u s.time) (last_is (x ∷ ss)) b))

pub log-append : (m : ℕ) (ss : List Sample) (s : Sample) → IsLog m ss → IsSample m s → IsInTime ss s.time → IsLog m (ss ++ s ∷ [])
log-append m ss s is sample b =
    record { each = All-push (IsSample m) ss s is.each sample; rise = times-append ss s is.rise b }

pub entries-longer : (t : Fraction) (ss more : List Sample) (es : List Entry) → AreEntriesOf t ss es → AreEntriesOf t (ss ++ more) es
entries-longer t ss more [] h = tt
entries-longer t [] more (e ∷ es) h = absurd h
entries-longer t (s ∷ ss) more (e ∷ es) h = (h.0, h.1, entries-longer s.time ss more es h.2)

pub entries_few : (t : Fraction) (ss : List Sample) (es : List Entry) → AreEntriesOf t ss es → length es ≤ length ss
entries_few t ss [] h = omega arith
entries_few t [] (e ∷ es) h = absurd h
entries_few t (s ∷ ss) (e ∷ es) h = let r = entries_few s.time ss es h.2 in omega (arith, r)

pub entries-append : (t : Fraction) (ss : List Sample) (s : Sample) (es : List Entry) (e : Entry) → length es ≡ length ss → AreEntriesOf t ss es →
    e.key.gap ≡ lowest (difference s.time (last_from t ss)) → e.key.seen ≡ s.cells → AreEntriesOf t (ss ++ s ∷ []) (es ++ e ∷ [])
entries-append t [] s [] e l h eg es_ = (eg, es_, tt)
entries-append t [] s (x ∷ es) e l h eg es_ = absurd h
entries-append t (y ∷ ss) s [] e l h eg es_ = absurd (omega arith)
entries-append t (y ∷ ss) s (x ∷ es) e l h eg es_ = (h.0, h.1, entries-append y.time ss s es e (omega arith) h.2 eg es_)

-- ---- a sample as the log has it

placed_sized : (m : ℕ) (columns : List ℕ) (cells : List (Option Fraction)) → length (placed m columns cells) ≡ m
placed_sized m [] cells = length-replicate m None
placed_sized m (c ∷ columns) [] = length-replicate m None
placed_sized m (c ∷ columns) (x ∷ cells) = length-set (placed m columns cells) c x ∙ placed_sized m columns cells

abbrev Lowest : Option Fraction → Type 0
Lowest cell = IfSome cell IsLowest

placed_lowest : (m : ℕ) (columns : List ℕ) (cells : List (Option Fraction)) → All Lowest cells → All Lowest (placed m columns cells)
placed_lowest m [] cells h = All-replicate Lowest m None tt
placed_lowest m (c ∷ columns) [] h = All-replicate Lowest m None tt
placed_lowest m (c ∷ columns) (x ∷ cells) h =
    All-set Lowest (placed m columns cells) c x (All-head Lowest x cells h) (placed_lowest m columns cells (All-tail Lowest x cells h))

pub placed_is : (m n : ℕ) (columns : List ℕ) (s : Sample) → IsSample n s → IsSample m (record { time = s.time; cells = placed m columns s.cells })
placed_is m n columns s is = record { time = is.time; sized = placed_sized m columns s.cells; cells = placed_lowest m columns s.cells is.cells }

-- ---- gaps

-- a later gap is above 0
pub gap_lasts : (t u : Fraction) → IsFraction t → IsFraction u → Below t u → Below zero_fraction (lowest (difference u t))
gap_lasts t u ht hu b =
    let d : Fraction = difference u t in
    let hd : IsFraction d = product_positive u.den t.den hu ht in
    let above : Below zero_fraction d = omega (arith, ints, b) in
    Below-AtMost_trans zero_fraction d (lowest d) (record { lt = tt }) hd (lowest-IsFraction d hd) above (same-AtMost (lowest d) d (lowest-same d)).1
