-- The key that a session wants is a key, and when it wants one.
use Rattle.std.proofs.Common.{◌≡◌, ◌≢◌, inl, inr, ℕ, ◌<◌, Bool, true, false, List, [], ◌∷◌, ◌++◌, length, Option, Some, None, refl, sym, ◌∙◌, ap, subst, arith, eqb→eq}
use Rattle.std.specs.Prelude.{◌==◌, All, SomeIff, IsSomeAnd, if◌then◌else◌}
use Rattle.std.proofs.lemmas.Bool.{cases_lt}
use Rattle.std.proofs.lemmas.Int.{ints}
use Rattle.std.proofs.lemmas.List.{get_or_past}
use Rattle.std.proofs.lemmas.List.Elements.{All-nil, All-cons, All-head, All-tail}
use Rattle.poly_specs.proofs.IntLemmas.{product_positive}
use Rattle.poly_specs.proofs.FractionLemmas.{AtMost-trans, Below-AtMost, same-AtMost}
use Rattle.poly_specs.proofs.LowestLemmas.{lowest-IsFraction, lowest-same, lowest-stays}
use Rattle.poly_specs.proofs.EliminationLemmas.{width_in, out_map}
use Rattle.fm_eliminate.proofs.LeavingLemmas.{all_from_in}
use Rattle.run_specs.proofs.EndLemmas.{wide_from}
use Rattle.run_specs.proofs.StageWidths.{end_within, gap_wide}
use Rattle.run_specs.proofs.SessionLemmas.{placed_is}
use Rattle.sample_succ.proofs.StartLemmas.{start_wide}
use Rattle.poly_specs.specs.Fractions.{Fraction, IsFraction, AtMost, difference, zero_fraction}
use Rattle.poly_specs.specs.Arithmetic.{lowest}
use Rattle.poly_specs.specs.LowestTerms.{IsLowest}
use Rattle.poly_specs.specs.Rows.{Row}
use Rattle.run_specs.specs.Automaton.{Automaton, width, location_at, nowhere}
use Rattle.run_specs.specs.WellFormed.{IsWellFormed}
use Rattle.run_specs.specs.Logs.{Sample, IsSample}
use Rattle.run_specs.specs.Keys.{State, Key, IsState, IsKey, no_state, parent_at}
use Rattle.run_specs.specs.Openings.{IsOpening, IsOpeningState, opening_rows}
use Rattle.run_specs.specs.Outcomes.{Item, Outcome, Next, Passed, IsItem, AreExact, IsExact}
use Rattle.run_specs.specs.Stages.{gap_rows}
use Rattle.run_specs.specs.SessionHistories.{Entry, SessionHistory, IsHistory, AreLinked, states, states_left, opening_states, belief_after, last_belief, has_passed, has_overflowed}
use Rattle.run_specs.specs.Sessions.{MonitorSession, IsMonitorSession, IsInTime, MayBegin, placed, accepted, last_time, key_for, key_wanted, wanted_for}
use Rattle.gap_keys.specs.Views.{StateView, AreWide, states_of}
use Rattle.live_session.specs.declared.prepared.Prepared.{Prepared}
use Rattle.live_session.specs.Parts.{session_of}

-- ---- states of the automaton

module _ (a : Automaton) (wf : IsWellFormed a) where
  -- a state at the opening
  opening_state : (s : State) → IsSomeAnd (opening_rows a s.loc) (λ rows. IsOpeningState (width a) rows s) → IsState a s
  opening_state s h = by_init (location_at a s.loc).init refl
    where
      rows_there : (o : Option (List Row)) → (location_at a s.loc).init ≡ o →
          IsSomeAnd (elim o as (λ _. Option (List Row)) [ None ↦ None | Some init ↦ Some (init ++ (location_at a s.loc).invariant) ]) (λ rows. IsOpeningState (width a) rows s)
      rows_there o e =
          subst (λ p. IsSomeAnd (elim p as (λ _. Option (List Row)) [ None ↦ None | Some init ↦ Some (init ++ (location_at a s.loc).invariant) ]) (λ rows. IsOpeningState (width a) rows s)) e h

      within : (init : List Row) → (location_at a s.loc).init ≡ Some init → s.loc < length a.locations
      within init e = elim (cases_lt s.loc (length a.locations)) [
        | inl lt ↦ lt
        | inr ge ↦ absurd (let f : nowhere.init ≡ Some init = sym (ap (λ l. l.init) (get_or_past a.locations s.loc nowhere ge)) ∙ e in let b : ⊥ = cc in b)
      ]

      by_init : (o : Option (List Row)) → (location_at a s.loc).init ≡ o → IsState a s
      by_init None e = absurd (rows_there None e)
      by_init (Some init) e =
          let is : IsOpeningState (width a) (init ++ (location_at a s.loc).invariant) s = rows_there (Some init) e in
          let lt = within init e in
          let wide = start_wide a wf s.loc lt init e in
          record { loc = lt; wide = wide_from (width a) s.rows (λ r i. width_in (width a) (init ++ (location_at a s.loc).invariant) wide r (is.plain r i)) }

  pub opening_are_states : (o : Option (List State)) → IsOpening a o → All (IsState a) (elim o as (λ _. List State) [ None ↦ [] | Some belief ↦ belief ])
  opening_are_states None h = All-nil (IsState a)
  opening_are_states (Some belief) h = all_from_in (IsState a) belief (λ s i. opening_state s (h.each s i))

-- the states of exact items
module _ (key : Key) (wf : IsWellFormed key.automaton) (is : IsKey key) where
  item_state : (x : Item) → IsItem key x → IsState key.automaton x.state
  item_state x item =
      let parent : IsState key.automaton (parent_at key x.parent) = is.belief x.parent no_state item.may_take.parent in
      let within = end_within key.automaton wf (parent_at key x.parent).loc x.path parent.loc item.may_take.fits in
      let wide = gap_wide key.automaton wf (parent_at key x.parent).loc x.path key.gap key.seen (parent_at key x.parent).rows parent.loc item.may_take.fits parent.wide in
      record {
        loc = subst (λ l. l < length key.automaton.locations) (sym item.loc) within;
        wide = wide_from (width key.automaton) x.state.rows (λ r i.
            width_in (width key.automaton) (gap_rows key.automaton (parent_at key x.parent).loc x.path key.gap key.seen (parent_at key x.parent).rows) wide r (item.plain r i));
      }

  items_are_states : (items : List Item) → AreExact key items → All (IsState key.automaton) (states items)
  items_are_states items exact = all_from_in (IsState key.automaton) (states items) (λ s i.
      let y = out_map (λ (x : Item). x.state) s items i in
      subst (IsState key.automaton) (sym y.2) (item_state y.0 (exact.each y.0 y.1)))

-- the states after entries
module _ (a : Automaton) (wf : IsWellFormed a) (k : ℕ) where
  left_are_states : (e : Entry) → IsKey e.key → e.key.automaton ≡ a → (o : Outcome) → IsExact e.key o → All (IsState a) (states_left o)
  left_are_states e key same (Next items) exact =
      subst (λ b. All (IsState b) (states items)) same (items_are_states e.key (subst IsWellFormed (sym same) wf) key items exact)
  left_are_states e key same Passed exact = All-nil (IsState a)

  pub belief_is_states : (belief : List State) (es : List Entry) → All (IsState a) belief → AreLinked a k belief es → All (IsState a) (belief_after belief es)
  belief_is_states belief [] h linked = h
  belief_is_states belief (e ∷ es) h linked =
      next (λ b i l. belief_is_states b es i l) e.outcome (left_are_states e linked.0.key linked.1 e.outcome linked.0.exact) linked.4
    where
      next : ((b : List State) → All (IsState a) b → AreLinked a k b es → All (IsState a) (belief_after b es)) → (o : Outcome) → All (IsState a) (states_left o) →
          elim o as (λ _. Type 0) [ Next items ↦ AreLinked a k (states items) es | Passed ↦ es ≡ [] ] → All (IsState a) (belief_after (states_left o) es)
      next later (Next items) i l = later (states items) i l
      next later Passed i l = subst (λ fs. All (IsState a) (belief_after [] fs)) (sym l) (All-nil (IsState a))

-- each key has as many variables as this automaton
pub linked_widths : (a : Automaton) (k : ℕ) (belief : List State) (es : List Entry) → AreLinked a k belief es → All (λ (e : Entry). width e.key.automaton ≡ width a) es
linked_widths a k belief [] linked = All-nil (λ (e : Entry). width e.key.automaton ≡ width a)
linked_widths a k belief (e ∷ es) linked =
    All-cons (λ (x : Entry). width x.key.automaton ≡ width a) e es (ap width linked.1) (next (λ b l. linked_widths a k b es l) e.outcome linked.4)
  where
    next : ((b : List State) → AreLinked a k b es → All (λ (x : Entry). width x.key.automaton ≡ width a) es) → (o : Outcome) →
        elim o as (λ _. Type 0) [ Next items ↦ AreLinked a k (states items) es | Passed ↦ es ≡ [] ] → All (λ (x : Entry). width x.key.automaton ≡ width a) es
    next later (Next items) l = later (states items) l
    next later Passed l = subst (λ fs. All (λ (x : Entry). width x.key.automaton ≡ width a) fs) (sym l) (All-nil (λ (x : Entry). width x.key.automaton ≡ width a))

last_are_states : (h : SessionHistory) → IsHistory h → All (IsState h.automaton) (last_belief h)
last_are_states h is =
    belief_is_states h.automaton is.automaton h.jumps (opening_states h) h.gaps (opening_are_states h.automaton is.automaton h.opening is.opening) is.linked

-- ---- the length of a gap

gap_is : (t u : Fraction) → IsFraction t → IsFraction u → AtMost t u → IsLowest (lowest (difference u t)) × AtMost zero_fraction (lowest (difference u t))
gap_is t u ht hu b =
    let d : Fraction = difference u t in
    let hd : IsFraction d = product_positive u.den t.den hu ht in
    let above : AtMost zero_fraction d = omega (arith, ints, b) in (
      record { positive = lowest-IsFraction d hd; lowest_terms = lowest-stays d hd },
      AtMost-trans zero_fraction d (lowest d) (record { lt = tt }) hd (lowest-IsFraction d hd) above (same-AtMost (lowest d) d (lowest-same d)).1,
    )

time_is : (m : ℕ) (ss : List Sample) → All (IsSample m) ss → IsFraction (last_time ss)
time_is m [] all = record { lt = tt }
time_is m (s ∷ []) all = (All-head (IsSample m) s [] all).time.positive
time_is m (s ∷ t ∷ ss) all = time_is m (t ∷ ss) (All-tail (IsSample m) s (t ∷ ss) all)

in_time_from : (ss : List Sample) (t : Fraction) → IsInTime ss t → AtMost (last_time ss) t
in_time_from [] t h = h
in_time_from (s ∷ ss) t h = Below-AtMost (last_time (s ∷ ss)) t h

-- ---- the key

pub key_is : (s : MonitorSession) (sample : Sample) → IsMonitorSession s → IsSample (length s.columns) sample → IsInTime s.log sample.time → IsKey (key_for s sample)
key_is s sample is sized time =
    let placed = placed_is (width s.history.automaton) (length s.columns) s.columns sample sized in
    record {
      jumps = is.history.jumps;
      belief = last_are_states s.history is.history;
      gap = gap_is (last_time s.log) sample.time (time_is (width s.history.automaton) s.log is.log.each) sized.time.positive (in_time_from s.log sample.time time);
      sized = placed.sized;
      seen = placed.cells;
    }

-- where an entry passed no state is left
pub none_after_passed : (a : Automaton) (k : ℕ) (belief : List State) (es : List Entry) → AreLinked a k belief es → has_passed es ≡ true → belief_after belief es ≡ []
none_after_passed a k belief [] linked p = absurd (let b : ⊥ = cc in b)
none_after_passed a k belief (e ∷ es) linked p = next (λ b l q. none_after_passed a k b es l q) e.outcome linked.4 p
  where
    next : ((b : List State) → AreLinked a k b es → has_passed es ≡ true → belief_after b es ≡ []) → (o : Outcome) →
        elim o as (λ _. Type 0) [ Next items ↦ AreLinked a k (states items) es | Passed ↦ es ≡ [] ] → elim o as (λ _. Bool) [ Next items ↦ has_passed es | Passed ↦ true ] ≡ true →
        belief_after (states_left o) es ≡ []
    next later (Next items) l q = later (states items) l q
    next later Passed l q = subst (λ fs. belief_after [] fs ≡ []) (sym l) refl

-- where a state is left nothing has passed
pub not_overflowed : (h : SessionHistory) → IsHistory h → last_belief h ≢ [] → has_overflowed h ≡ false
not_overflowed h is some = by_opening h.opening refl
  where
    by_passed : (p : Bool) → has_passed h.gaps ≡ p → has_passed h.gaps ≡ false
    by_passed false f = f
    by_passed true f = absurd (some (none_after_passed h.automaton h.jumps (opening_states h) h.gaps is.linked f))

    by_opening : (o : Option (List State)) → h.opening ≡ o → has_overflowed h ≡ false
    by_opening None f =
        let none : opening_states h ≡ [] = ap (λ o. elim o as (λ _. List State) [ None ↦ [] | Some x ↦ x ]) f in
        absurd (some (subst (λ es. belief_after (opening_states h) es ≡ []) (sym (is.not_opened f)) none))
    by_opening (Some x) f = ap (λ o. elim o as (λ _. Bool) [ None ↦ true | Some y ↦ has_passed h.gaps ]) f ∙ by_passed (has_passed h.gaps) refl

pub wants_none : (s : MonitorSession) (sample : Sample) (belief : List State) → belief ≡ [] → None ≡ key_wanted s sample belief
wants_none s sample belief e = subst (λ b. None ≡ key_wanted s sample b) (sym e) refl

pub wants_some : (s : MonitorSession) (sample : Sample) → IsHistory s.history → last_belief s.history ≢ [] → key_wanted s sample (last_belief s.history) ≡ Some (key_for s sample)
wants_some s sample is some = go (last_belief s.history) refl
  where
    go : (belief : List State) → last_belief s.history ≡ belief → key_wanted s sample belief ≡ Some (key_for s sample)
    go [] e = absurd (some e)
    go (b ∷ bs) e = ap (λ p. if p then None else Some (key_for s sample)) (not_overflowed s.history is some)

-- ---- by equations: from the parts of a stored session

pub none_there : (xs : List StateView) → (length xs == 0) ≡ true → states_of xs ≡ []
none_there [] e = refl
none_there (x ∷ xs) e = absurd (let n : length (x ∷ xs) ≡ 0 = eqb→eq (length (x ∷ xs)) 0 (rw e tt) in omega (arith, n))

pub some_there : (xs : List StateView) → (length xs == 0) ≡ false → states_of xs ≢ []
some_there [] e n = (let b : ⊥ = cc in b)
some_there (x ∷ xs) e n = (let b : ⊥ = cc in b)

pub placed_by : (h : SessionHistory) (columns : List ℕ) (log : List Sample) (g : Option Entry) (begun : Option Prepared) (s : MonitorSession) (sample p : Sample) (m : ℕ) (variables : List ℕ) →
    session_of h columns log g begun ≡ s → m ≡ width h.automaton → variables ≡ columns → p ≡ record { time = sample.time; cells = placed m variables sample.cells } → p ≡ accepted s sample
placed_by h columns log g begun s sample p m variables view em ec ep =
    ep ∙ ap (λ n. record { time = sample.time; cells = placed n variables sample.cells }) em
    ∙ ap (λ cs. record { time = sample.time; cells = placed (width h.automaton) cs sample.cells }) ec ∙ ap (λ z. accepted z sample) view

made : (o : Option Key) (k : Key) (P : Type 0) → SomeIff o (IsKey k × P) k → IsKey k → P → o ≡ Some k
made None k P h i p = absurd (h (i, p))
made (Some x) k P h i p = ap (λ z. Some z) h.1

module _ (h : SessionHistory) (columns : List ℕ) (log : List Sample) (g : Option Entry) (begun : Option Prepared) (opening belief : List StateView) (s : MonitorSession) (sample : Sample)
    (view : session_of h columns log g begun ≡ s) (at_opening : states_of opening ≡ opening_states h) (left : states_of belief ≡ belief_after (states_of opening) h.gaps) where
  left_is : states_of belief ≡ last_belief h
  left_is = left ∙ ap (λ b. belief_after b h.gaps) at_opening

  pub key_none : states_of belief ≡ [] → None ≡ wanted_for s sample None
  key_none none = subst (λ z. None ≡ wanted_for z sample None) view (wants_none (session_of h columns log g begun) sample (last_belief h) (sym left_is ∙ none))

  pub key_some : (o : Option Key) (a : Automaton) (gap : Fraction) (seen : List (Option Fraction)) → IsMonitorSession (session_of h columns log g begun) → states_of belief ≢ [] → MayBegin s sample →
      IsSample (length s.columns) sample → a ≡ h.automaton → gap ≡ lowest (difference sample.time (last_time log)) → seen ≡ (accepted s sample).cells →
      SomeIff o (IsKey (record { automaton = a; jumps = h.jumps; belief = states_of belief; gap = gap; seen = seen }) × AreWide (width a) belief)
      (record { automaton = a; jumps = h.jumps; belief = states_of belief; gap = gap; seen = seen }) →
      AreWide (width h.automaton) belief → o ≡ wanted_for s sample None
  key_some o a gap seen is some may sized ea eg es made_by wide =
      subst (λ z. o ≡ wanted_for z sample None) view (made o (key_for old sample) (AreWide (width a) belief) known kept (subst (λ (b : Automaton). AreWide (width b) belief) (sym ea) wide) ∙ sym wants)
    where
      old : MonitorSession
      old = session_of h columns log g begun

      kept : IsKey (key_for old sample)
      kept = key_is old sample is (subst (λ (z : MonitorSession). IsSample (length z.columns) sample) (sym view) sized) (subst (λ (z : MonitorSession). IsInTime z.log sample.time) (sym view) may.time)

      cells : seen ≡ (accepted old sample).cells
      cells = es ∙ ap (λ z. (accepted z sample).cells) (sym view)

      wants : key_wanted old sample (last_belief h) ≡ Some (key_for old sample)
      wants = wants_some old sample is.history (λ n. some (left_is ∙ n))

      same : ◌≡◌ {A = Key} (record { automaton = a; jumps = h.jumps; belief = states_of belief; gap = gap; seen = seen }) (key_for old sample)
      same = rw (ea, left_is, eg, cells) refl

      known : SomeIff o (IsKey (key_for old sample) × AreWide (width a) belief) (key_for old sample)
      known = subst (λ k. SomeIff o (IsKey k × AreWide (width a) belief) k) same made_by
