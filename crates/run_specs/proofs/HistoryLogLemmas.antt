-- The log of a history is a log, and each log that has the history's entries begins with it.
use Rattle.std.proofs.Common.{◌≡◌, ℕ, zero, suc, List, [], ◌∷◌, length, take, refl, sym, ◌∙◌, ap, ap₂, subst, arith, ℤ, pos, ◌+ℤ◌, ◌-ℤ◌, ◌*ℤ◌, ◌<ℤ◌, Option}
use Rattle.std.specs.Prelude.{All}
use Rattle.std.proofs.lemmas.Int.{ints}
use Rattle.std.proofs.lemmas.List.Elements.{All-nil, All-cons, All-head, All-tail, All-take}
use Rattle.poly_specs.proofs.IntLemmas.{products, expand, add_mul, product_positive}
use Rattle.poly_specs.proofs.FractionLemmas.{AtMost-trans, Below-AtMost_trans, same-AtMost}
use Rattle.poly_specs.proofs.LowestLemmas.{lowest-IsFraction, lowest-same, lowest-stays, same-lowest}
use Rattle.poly_specs.specs.Fractions.{Fraction, IsFraction, SameFraction, AtMost, Below, sum_of, difference, zero_fraction}
use Rattle.poly_specs.specs.Arithmetic.{lowest}
use Rattle.poly_specs.specs.LowestTerms.{IsLowest}
use Rattle.run_specs.specs.Automaton.{Automaton, width}
use Rattle.run_specs.specs.Logs.{Sample, IsSample, IsLog, RiseFrom, TimesRise}
use Rattle.run_specs.specs.Keys.{State}
use Rattle.run_specs.specs.Outcomes.{Outcome, Next, Passed}
use Rattle.run_specs.specs.SessionHistories.{Entry, IsEntry, SessionHistory, IsHistory, AreLinked, LaterGapsLast, states, opening_states}
use Rattle.run_specs.specs.Sessions.{MonitorSession, IsMonitorSession, AreEntriesOf}
use Rattle.run_specs.specs.HistoryLogs.{time_after, samples_after, log_of, AgreeFrom, DoAgree}

-- ---- sums and differences of times

-- (t + g) - t is g
sum_back : (t g : Fraction) → IsFraction t → IsFraction g → SameFraction (difference (lowest (sum_of t g)) t) g
sum_back t g ht hg =
    back (lowest (sum_of t g)).num (lowest (sum_of t g)).den t.num t.den g.num g.den (lowest-same (sum_of t g))
  where
    back : (n d a b c f : ℤ) → n *ℤ (b *ℤ f) ≡ (a *ℤ f +ℤ c *ℤ b) *ℤ d → (n *ℤ b -ℤ a *ℤ d) *ℤ f ≡ c *ℤ (d *ℤ b)
    back n d a b c f e =
        let l : (n *ℤ b -ℤ a *ℤ d) *ℤ f ≡ ((n *ℤ b) *ℤ f) -ℤ ((a *ℤ d) *ℤ f) = simp expand (omega (arith, products)) in
        let r : (a *ℤ f +ℤ c *ℤ b) *ℤ d ≡ (a *ℤ f) *ℤ d +ℤ (c *ℤ b) *ℤ d = add_mul (a *ℤ f) (c *ℤ b) d in
        omega (arith, products, l, r, e)

-- t + (u - t) is u
difference_back : (t u g : Fraction) → SameFraction g (difference u t) → SameFraction (sum_of t g) u
difference_back t u g same = back t.num t.den u.num u.den g.num g.den same
  where
    back : (a b c d n f : ℤ) → n *ℤ (d *ℤ b) ≡ (c *ℤ b -ℤ a *ℤ d) *ℤ f → (a *ℤ f +ℤ n *ℤ b) *ℤ d ≡ c *ℤ (b *ℤ f)
    back a b c d n f e =
        let l : (c *ℤ b -ℤ a *ℤ d) *ℤ f ≡ ((c *ℤ b) *ℤ f) -ℤ ((a *ℤ d) *ℤ f) = simp expand (omega (arith, products)) in
        let r : (a *ℤ f +ℤ n *ℤ b) *ℤ d ≡ (a *ℤ f) *ℤ d +ℤ (n *ℤ b) *ℤ d = add_mul (a *ℤ f) (n *ℤ b) d in
        omega (arith, products, l, r, e)

-- a gap above 0 ends later than it begins
sum_above : (t g : Fraction) → IsFraction t → IsFraction g → Below zero_fraction g → Below t (lowest (sum_of t g))
sum_above t g ht hg b =
    let hs : IsFraction (sum_of t g) = product_positive t.den g.den ht hg in
    let more : pos 0 <ℤ (g.num *ℤ (t.den *ℤ t.den)) = product_positive g.num (t.den *ℤ t.den) (omega (arith, ints, b)) (product_positive t.den t.den ht ht) in
    let above : Below t (sum_of t g) = above_it t.num t.den g.num g.den more in
    Below-AtMost_trans t (sum_of t g) (lowest (sum_of t g)) ht hs (lowest-IsFraction (sum_of t g) hs) above
    (same-AtMost (lowest (sum_of t g)) (sum_of t g) (lowest-same (sum_of t g))).1
  where
    above_it : (a b c f : ℤ) → pos 0 <ℤ (c *ℤ (b *ℤ b)) → (a *ℤ (b *ℤ f)) <ℤ ((a *ℤ f +ℤ c *ℤ b) *ℤ b)
    above_it a b c f h =
        let r : (a *ℤ f +ℤ c *ℤ b) *ℤ b ≡ (a *ℤ f) *ℤ b +ℤ (c *ℤ b) *ℤ b = add_mul (a *ℤ f) (c *ℤ b) b in
        omega (arith, products, r, h)

-- the first gap ends at 0 or later
first_above : (g : Fraction) → IsFraction g → AtMost zero_fraction g → AtMost zero_fraction (lowest (sum_of zero_fraction g))
first_above g hg h =
    let hs : IsFraction (sum_of zero_fraction g) = product_positive (pos 1) g.den (record { lt = tt }) hg in
    let above : AtMost zero_fraction (sum_of zero_fraction g) = omega (arith, ints, h) in
    AtMost-trans zero_fraction (sum_of zero_fraction g) (lowest (sum_of zero_fraction g)) (record { lt = tt }) hs (lowest-IsFraction (sum_of zero_fraction g) hs) above
    (same-AtMost (lowest (sum_of zero_fraction g)) (sum_of zero_fraction g) (lowest-same (sum_of zero_fraction g))).1

-- ---- entries

-- each entry is one of this automaton
abbrev AreEntries : Automaton → List Entry → Type 0
AreEntries a [] = Unit {0}
AreEntries a (e ∷ es) = (IsEntry e × (e.key.automaton ≡ a)) × AreEntries a es

linked_are : (a : Automaton) (k : ℕ) (belief : List State) (es : List Entry) → AreLinked a k belief es → AreEntries a es
linked_are a k belief [] h = tt
linked_are a k belief (e ∷ es) h = ((h.0, h.1), next (λ b l. linked_are a k b es l) e.outcome h.4)
  where
    none : (es : List Entry) → es ≡ [] → AreEntries a es
    none [] f = tt
    none (x ∷ es) f = absurd (let b : ⊥ = cc in b)

    next : ((b : List State) → AreLinked a k b es → AreEntries a es) →
        (o : Outcome) → elim o as (λ _. Type 0) [ Next items ↦ AreLinked a k (states items) es | Passed ↦ es ≡ [] ] → AreEntries a es
    next later (Next items) l = later (states items) l
    next later Passed l = none es l

-- the samples of entries are samples, whose entries they are
time_is : (t : Fraction) (e : Entry) → IsEntry e → IsFraction t → IsFraction (sum_of t e.key.gap)
time_is t e is ht = product_positive t.den e.key.gap.den ht is.key.gap.0.positive

samples_are : (a : Automaton) (t : Fraction) (es : List Entry) → AreEntries a es → IsFraction t → All (IsSample (width a)) (samples_after t es)
samples_are a t [] is ht = All-nil (IsSample (width a))
samples_are a t (e ∷ es) is ht =
    let hs = time_is t e is.0.0 ht in
    All-cons (IsSample (width a)) (record { time = time_after t e; cells = e.key.seen }) (samples_after (time_after t e) es)
    (record {
      time = record { positive = lowest-IsFraction (sum_of t e.key.gap) hs; lowest_terms = lowest-stays (sum_of t e.key.gap) hs };
      sized = is.0.0.key.sized ∙ ap width is.0.1;
      cells = is.0.0.key.seen;
    })
    (samples_are a (time_after t e) es is.1 (lowest-IsFraction (sum_of t e.key.gap) hs))

samples_rise : (a : Automaton) (t : Fraction) (es : List Entry) → AreEntries a es → IsFraction t → All (λ e. Below zero_fraction e.key.gap) es → RiseFrom t (samples_after t es)
samples_rise a t [] is ht last = tt
samples_rise a t (e ∷ es) is ht last = (
  sum_above t e.key.gap ht is.0.0.key.gap.0.positive (All-head (λ x. Below zero_fraction x.key.gap) e es last),
  samples_rise a (time_after t e) es is.1 (lowest-IsFraction (sum_of t e.key.gap) (time_is t e is.0.0 ht)) (All-tail (λ x. Below zero_fraction x.key.gap) e es last),
)

times_rise : (a : Automaton) (es : List Entry) → AreEntries a es → LaterGapsLast es → TimesRise (samples_after zero_fraction es)
times_rise a [] is last = tt
times_rise a (e ∷ es) is last = (
  first_above e.key.gap is.0.0.key.gap.0.positive is.0.0.key.gap.1,
  samples_rise a (time_after zero_fraction e) es is.1 (lowest-IsFraction (sum_of zero_fraction e.key.gap) (time_is zero_fraction e is.0.0 (record { lt = tt }))) last,
)

samples_have : (a : Automaton) (t : Fraction) (es : List Entry) → AreEntries a es → IsFraction t → AreEntriesOf t (samples_after t es) es
samples_have a t [] is ht = tt
samples_have a t (e ∷ es) is ht =
    let g : Fraction = e.key.gap in
    let hg : IsFraction g = is.0.0.key.gap.0.positive in
    let hx : IsFraction (time_after t e) = lowest-IsFraction (sum_of t g) (time_is t e is.0.0 ht) in (
      sym (same-lowest (difference (time_after t e) t) g (product_positive (time_after t e).den t.den hx ht) hg (sum_back t g ht hg) ∙ is.0.0.key.gap.0.lowest_terms),
      refl,
      samples_have a (time_after t e) es is.1 hx,
    )

-- the samples that these entries are those of
samples_are_these : (m : ℕ) (t : Fraction) (ss : List Sample) (es : List Entry) → IsFraction t → All (IsSample m) ss → AreEntriesOf t ss es → take (length es) ss ≡ samples_after t es
samples_are_these m t ss [] ht all h = refl
samples_are_these m t [] (e ∷ es) ht all h = absurd h
samples_are_these m t (s ∷ ss) (e ∷ es) ht all h =
    let sample = All-head (IsSample m) s ss all in
    let hs : IsFraction s.time = sample.time.positive in
    let d : Fraction = difference s.time t in
    let hd : IsFraction d = product_positive s.time.den t.den hs ht in
    let hg : IsFraction e.key.gap = subst IsFraction (sym h.0) (lowest-IsFraction d hd) in
    let same : SameFraction e.key.gap d = subst (λ g. SameFraction g d) (sym h.0) (lowest-same d) in
    let time : time_after t e ≡ s.time =
    same-lowest (sum_of t e.key.gap) s.time (product_positive t.den e.key.gap.den ht hg) hs (difference_back t s.time e.key.gap same) ∙ sample.time.lowest_terms in
    let rest = samples_are_these m s.time ss es hs (All-tail (IsSample m) s ss all) h.2 in
    ap₂ (λ (x : Sample) (xs : List Sample). x ∷ xs)
    (ap₂ (λ (u : Fraction) (cells : List (Option Fraction)). record { time = u; cells = cells }) (sym time) (sym h.1))
    (rest ∙ ap (λ u. samples_after u es) (sym time))

-- ---- logs that agree

-- two times, each in lowest terms, after gaps of one length from one time
same_time : (t s r : Fraction) → IsFraction t → IsLowest s → IsLowest r → SameFraction (difference s t) (difference r t) → s ≡ r
same_time t s r ht is other same =
    let gap : Fraction = difference s t in
    let hg : IsFraction gap = product_positive s.den t.den is.positive ht in
    let sum : Fraction = sum_of t gap in
    let hs : IsFraction sum = product_positive t.den gap.den ht hg in
    sym is.lowest_terms ∙ sym (same-lowest sum s hs is.positive (difference_back t s gap refl)) ∙ same-lowest sum r hs other.positive (difference_back t r gap same) ∙ other.lowest_terms

agree_equal : (m : ℕ) (t u : Fraction) (ss rs : List Sample) → t ≡ u → IsFraction t → All (IsSample m) ss → All (IsSample m) rs → AgreeFrom t u ss rs → ss ≡ rs
agree_equal m t u [] [] e ht all others h = refl
agree_equal m t u [] (r ∷ rs) e ht all others h = absurd h
agree_equal m t u (s ∷ ss) [] e ht all others h = absurd h
agree_equal m t u (s ∷ ss) (r ∷ rs) e ht all others h =
    let here = All-head (IsSample m) s ss all in
    let there = All-head (IsSample m) r rs others in
    let time : s.time ≡ r.time = same_time t s.time r.time ht here.time there.time (subst (λ x. SameFraction (difference s.time t) (difference r.time x)) (sym e) h.0) in
    ap₂ (λ (x : Sample) (xs : List Sample). x ∷ xs) (ap₂ (λ (x : Fraction) (cells : List (Option Fraction)). record { time = x; cells = cells }) time h.1)
    (agree_equal m s.time r.time ss rs time here.time.positive (All-tail (IsSample m) s ss all) (All-tail (IsSample m) r rs others) h.2)

pub logs_equal : (m : ℕ) (samples others : List Sample) → IsLog m samples → IsLog m others → DoAgree samples others → samples ≡ others
logs_equal m samples others is other h = agree_equal m zero_fraction zero_fraction samples others refl (record { lt = tt }) is.each other.each h

-- ---- histories

-- a log that has the entries of this history
pub record HasLog (h : SessionHistory) (log : List Sample) : Type 0 where
  pub history : IsHistory h
  pub is_log : IsLog (width h.automaton) log
  pub entries : AreEntriesOf zero_fraction log h.gaps

pub session_has_log : (s : MonitorSession) → IsMonitorSession s → HasLog s.history s.log
session_has_log s is = record { history = is.history; is_log = is.log; entries = is.entries }

pub history_has_log : (h : SessionHistory) → IsHistory h → HasLog h (log_of h)
history_has_log h is =
    let all : AreEntries h.automaton h.gaps = linked_are h.automaton h.jumps (opening_states h) h.gaps is.linked in
    record {
      history = is;
      is_log = record { each = samples_are h.automaton zero_fraction h.gaps all (record { lt = tt }); rise = times_rise h.automaton h.gaps all is.later_gaps };
      entries = samples_have h.automaton zero_fraction h.gaps all (record { lt = tt });
    }

pub log_is_this : (h : SessionHistory) (log : List Sample) → IsLog (width h.automaton) log → AreEntriesOf zero_fraction log h.gaps → take (length h.gaps) log ≡ log_of h
log_is_this h log is entries = samples_are_these (width h.automaton) zero_fraction log h.gaps (record { lt = tt }) is.each entries

pub log_length : (h : SessionHistory) → length (log_of h) ≡ length h.gaps
log_length h = go zero_fraction h.gaps
  where
    go : (t : Fraction) (es : List Entry) → length (samples_after t es) ≡ length es
    go t [] = refl
    go t (e ∷ es) = let r = go (time_after t e) es in omega (arith, r)

-- ---- beginnings

-- the history of the first gaps
abbrev pub first_gaps : ℕ → SessionHistory → SessionHistory
first_gaps i h = record h { gaps = take i h.gaps }

samples-take : (t : Fraction) (i : ℕ) (es : List Entry) → samples_after t (take i es) ≡ take i (samples_after t es)
samples-take t zero es = refl
samples-take t (suc i) [] = refl
samples-take t (suc i) (e ∷ es) =
    ap (λ (ss : List Sample). record { time = time_after t e; cells = e.key.seen } ∷ ss) (samples-take (time_after t e) i es)

pub log-first : (h : SessionHistory) (i : ℕ) → log_of (first_gaps i h) ≡ take i (log_of h)
log-first h i = samples-take zero_fraction i h.gaps

none-take : (i : ℕ) (es : List Entry) → es ≡ [] → take i es ≡ []
none-take zero es e = refl
none-take (suc i) [] e = refl
none-take (suc i) (x ∷ es) e = absurd (let f : ⊥ = cc in f)

linked-take : (a : Automaton) (k : ℕ) (belief : List State) (i : ℕ) (es : List Entry) → AreLinked a k belief es → AreLinked a k belief (take i es)
linked-take a k belief zero es h = tt
linked-take a k belief (suc i) [] h = tt
linked-take a k belief (suc i) (e ∷ es) h = (h.0, h.1, h.2, h.3, next (λ b l. linked-take a k b i es l) e.outcome h.4)
  where
    next : ((b : List State) → AreLinked a k b es → AreLinked a k b (take i es)) →
        (o : Outcome) → elim o as (λ _. Type 0) [ Next items ↦ AreLinked a k (states items) es | Passed ↦ es ≡ [] ] →
        elim o as (λ _. Type 0) [ Next items ↦ AreLinked a k (states items) (take i es) | Passed ↦ take i es ≡ [] ]
    next later (Next items) l = later (states items) l
    next later Passed l = none-take i es l

gaps-take : (i : ℕ) (es : List Entry) → LaterGapsLast es → LaterGapsLast (take i es)
gaps-take zero es h = tt
gaps-take (suc i) [] h = tt
gaps-take (suc i) (e ∷ es) h = All-take (λ x. Below zero_fraction x.key.gap) i es h

pub history-first : (h : SessionHistory) (i : ℕ) → IsHistory h → IsHistory (first_gaps i h)
history-first h i is = record {
  automaton = is.automaton;
  jumps = is.jumps;
  opening = is.opening;
  not_opened = λ e. none-take i h.gaps (is.not_opened e);
  linked = linked-take h.automaton h.jumps (opening_states h) i h.gaps is.linked;
  later_gaps = gaps-take i h.gaps is.later_gaps;
}
