-- The histories of a session's states: a state's rows hold exactly where runs with its history end, and a run through a dropped state has one of an earlier history.
use Rattle.std.proofs.Common.{◌≡◌, ◌⊎◌, inl, inr, ℕ, zero, suc, ◌<◌, ◌||◌, List, [], ◌∷◌, ◌++◌, length, map, Option, Some, None, refl, sym, ◌∙◌, ap, ap₂, subst, arith}
use Rattle.std.specs.Prelude.{IsSomeAnd, slice_index_or}
use Rattle.std.specs.Ordering.{nat_cmp, ordering_then}
use Rattle.std.specs.declared.cmp.Ordering.{Ordering}
use Rattle.std.specs.declared.cmp.Ordering.TheVariants.{Less, Equal, Greater}
use Rattle.std.specs.Cmp.{nat_cmp_is}
use Rattle.std.specs.Cmp.Lexicographic.{slice_cmp}
use Rattle.std.proofs.lemmas.Cmp.{ranked, by_ranked, tied_itself}
use Rattle.std.proofs.lemmas.List.{length-map, length-append, get_or-map}
use Rattle.run_specs.proofs.StageLemmas.{holds_both}
use Rattle.run_specs.proofs.HistoryLemmas.{history_total}
use Rattle.run_specs.proofs.SessionLemmas.{last_from}
use Rattle.run_specs.proofs.RunEndLemmas.{all_same, marked, marked-append, extended, place-append, history-extended, IsAt, IsNextGap, run-extended, before_gap, fits, gap_start, IsKeyOf, other_duration, length_path}
use Rattle.poly_specs.specs.Lists.{In}
use Rattle.poly_specs.specs.Fractions.{Fraction, difference, zero_fraction}
use Rattle.poly_specs.specs.Rows.{Point, Row, SamePoint, AllHold}
use Rattle.run_specs.specs.Automaton.{Automaton, width, location_at}
use Rattle.run_specs.specs.Logs.{Sample, IsPassing}
use Rattle.run_specs.specs.Runs.{GapRun, Place, Run, Follows, IsRun, path_of, end_of, end_loc, end_point, start_point, goes_unsafe}
use Rattle.run_specs.specs.Passes.{Fits}
use Rattle.run_specs.specs.Histories.{History, history_of, history_cmp, IsEarlier}
use Rattle.run_specs.specs.Keys.{State, Key, no_state, parent_at}
use Rattle.run_specs.specs.Outcomes.{Item, MayTake, IsEnd, IsBefore, ItemsRise, AreRising, AreExact, IsAccounted, loc_after, mark_after}
use Rattle.run_specs.specs.Openings.{AreOpening, IsOpeningState, LocsRise, opening_rows}
use Rattle.run_specs.specs.SessionHistories.{states}
use Rattle.run_specs.specs.StateHistories.{no_history, opening_histories, followed, item_histories, IsNoLater, HistoriesRiseFrom, HistoriesRise, place_after, run_end, EndsRun}

-- ---- the order of histories of one length

then_equal : (o : Ordering) → ordering_then o Equal ≡ o
then_equal Less = refl
then_equal Equal = refl
then_equal Greater = refl

then_assoc : (o p q : Ordering) → ordering_then o (ordering_then p q) ≡ ordering_then (ordering_then o p) q
then_assoc Less p q = refl
then_assoc Equal p q = refl
then_assoc Greater p q = refl

last_decides : (xs ys : List (List ℕ)) (p q : List ℕ) → length xs ≡ length ys →
    slice_cmp (slice_cmp nat_cmp) (xs ++ p ∷ []) (ys ++ q ∷ []) ≡ ordering_then (slice_cmp (slice_cmp nat_cmp) xs ys) (slice_cmp nat_cmp p q)
last_decides [] [] p q e = then_equal (slice_cmp nat_cmp p q)
last_decides [] (y ∷ ys) p q e = absurd (omega arith)
last_decides (x ∷ xs) [] p q e = absurd (omega arith)
last_decides (x ∷ xs) (y ∷ ys) p q e =
    ap (λ o. ordering_then (slice_cmp nat_cmp x y) o) (last_decides xs ys p q (omega arith))
    ∙ then_assoc (slice_cmp nat_cmp x y) (slice_cmp (slice_cmp nat_cmp) xs ys) (slice_cmp nat_cmp p q)

-- histories of one length, each with a path more
followed_cmp : (h k : History) (p q : List ℕ) → length h.paths ≡ length k.paths →
    history_cmp (followed h p) (followed k q) ≡ ordering_then (history_cmp h k) (slice_cmp nat_cmp p q)
followed_cmp h k p q e =
    ap (λ o. ordering_then (nat_cmp h.start k.start) o) (last_decides h.paths k.paths p q e)
    ∙ then_assoc (nat_cmp h.start k.start) (slice_cmp (slice_cmp nat_cmp) h.paths k.paths) (slice_cmp nat_cmp p q)

followed-earlier : (h k : History) (p q : List ℕ) → length h.paths ≡ length k.paths → IsEarlier h k → IsEarlier (followed h p) (followed k q)
followed-earlier h k p q e f = followed_cmp h k p q e ∙ ap (λ o. ordering_then o (slice_cmp nat_cmp p q)) f

followed-path : (h : History) (p q : List ℕ) → slice_cmp nat_cmp p q ≡ Less → IsEarlier (followed h p) (followed h q)
followed-path h p q f = followed_cmp h h p q refl ∙ ap (λ o. ordering_then o (slice_cmp nat_cmp p q)) (tied_itself history_total h) ∙ f

followed-no_later : (h k : History) (p : List ℕ) → length h.paths ≡ length k.paths → IsNoLater h k → IsNoLater (followed h p) (followed k p)
followed-no_later h k p e (inl f) = inl (ap (λ x. followed x p) f)
followed-no_later h k p e (inr f) = inr (followed-earlier h k p p e f)

earlier-no_later : (h k l : History) → IsEarlier h k → IsNoLater k l → IsEarlier h l
earlier-no_later h k l e (inl f) = subst (IsEarlier h) f e
earlier-no_later h k l e (inr f) = history_total.trans h k l e f

-- a history with a path more says which
ends_alike : (xs ys : List (List ℕ)) (p q : List ℕ) → xs ++ p ∷ [] ≡ ys ++ q ∷ [] → (xs ≡ ys) × (p ≡ q)
ends_alike [] [] p q e = (refl, cc)
ends_alike [] (y ∷ ys) p q e = absurd (no_more ys q (let f : [] ≡ ys ++ q ∷ [] = cc in f))
  where
    no_more : (ys : List (List ℕ)) (q : List ℕ) → [] ≡ ys ++ q ∷ [] → ⊥
    no_more [] q e = cc
    no_more (y ∷ ys) q e = cc
ends_alike (x ∷ xs) [] p q e = absurd (no_more xs p (let f : xs ++ p ∷ [] ≡ [] = cc in f))
  where
    no_more : (ys : List (List ℕ)) (q : List ℕ) → ys ++ q ∷ [] ≡ [] → ⊥
    no_more [] q e = cc
    no_more (y ∷ ys) q e = cc
ends_alike (x ∷ xs) (y ∷ ys) p q e =
    let f : xs ++ p ∷ [] ≡ ys ++ q ∷ [] = cc in
    let g : x ≡ y = cc in
    let r = ends_alike xs ys p q f in (ap₂ (λ z zs. z ∷ zs) g r.0, r.1)

followed-alike : (h k : History) (p q : List ℕ) → followed h p ≡ followed k q → (h ≡ k) × (p ≡ q)
followed-alike h k p q e =
    let s : h.start ≡ k.start = ap (λ (x : History). x.start) e in
    let r = ends_alike h.paths k.paths p q (ap (λ (x : History). x.paths) e) in
    ((λ i. record { start = s i; paths = r.0 i }), r.1)

-- ---- rising histories

rise_from : (h : History) (hs : List History) (j : ℕ) → HistoriesRiseFrom h hs → j < length hs → IsEarlier h (slice_index_or hs j no_history)
rise_from h [] j r l = absurd (omega arith)
rise_from h (k ∷ ks) zero r l = r.0
rise_from h (k ∷ ks) (suc j) r l = history_total.trans h k (slice_index_or ks j no_history) r.0 (rise_from k ks j r.1 (omega arith))

pub rise_at : (hs : List History) (i j : ℕ) → HistoriesRise hs → i < j → j < length hs → IsEarlier (slice_index_or hs i no_history) (slice_index_or hs j no_history)
rise_at [] i j r h l = absurd (omega arith)
rise_at (k ∷ ks) i zero r h l = absurd (omega arith)
rise_at (k ∷ ks) zero (suc j) r h l = rise_from k ks j r (omega arith)
rise_at (k ∷ ks) (suc i) (suc j) r h l = rise_at ks i j (tail k ks r) (omega arith) (omega arith)
  where
    tail : (k : History) (ks : List History) → HistoriesRiseFrom k ks → HistoriesRise ks
    tail k [] r = tt
    tail k (x ∷ xs) r = r.1

-- an item before another has an earlier parent, or the same and a lesser path
before_cases : (i : ℕ) (path : List ℕ) (j : ℕ) (other : List ℕ) → IsBefore i path j other → (i < j) ⊎ ((i ≡ j) × (slice_cmp nat_cmp path other ≡ Less))
before_cases i path j other b =
    by_ranked (i < j) (i ≡ j) (j < i) (nat_cmp i j) (ranked i j (nat_cmp i j) refl) (λ e h. inl h)
    (λ e h. inr (h, sym (ap (λ o. ordering_then o (slice_cmp nat_cmp path other)) e) ∙ b))
    (λ e h. absurd (let f : ordering_then Greater (slice_cmp nat_cmp path other) ≡ Less = sym (ap (λ o. ordering_then o (slice_cmp nat_cmp path other)) e) ∙ b in let g : Greater ≡ Less = f in let z : ⊥ = cc in z))

-- ---- the states after samples, and their histories

-- the state's rows hold exactly where runs with this history end, inside the location's invariant; they are all in its location, and have its mark
pub record IsFollowed (a : Automaton) (k : ℕ) (ss : List Sample) (x : State) (h : History) : Type 0 where
  pub ends : (q : Point) → IsAt a q → AllHold x.rows q → (run : Run) × EndsRun a k ss h q run
  pub held : (q : Point) (run : Run) → IsAt a q → AllHold (location_at a x.loc).invariant q → EndsRun a k ss h q run → AllHold x.rows q
  pub loc : (run : Run) → IsRun a k ss run → history_of run ≡ h → (run_end a run).loc ≡ x.loc
  pub mark : (run : Run) → IsRun a k ss run → history_of run ≡ h → marked a run.gaps ≡ x.seen_unsafe
  pub some_point : (q : Point) × IsAt a q × AllHold x.rows q
  pub sized : length h.paths ≡ length ss

-- the run ends at the point in state number j, whose history is no later
pub record Stands (a : Automaton) (belief : List State) (histories : List History) (run : Run) (q : Point) (j : ℕ) : Type 0 where
  pub below : j < length belief
  pub loc : (run_end a run).loc ≡ (slice_index_or belief j no_state).loc
  pub mark : marked a run.gaps ≡ (slice_index_or belief j no_state).seen_unsafe
  pub holds : AllHold (slice_index_or belief j no_state).rows q
  pub no_later : IsNoLater (slice_index_or histories j no_history) (history_of run)

-- where the run ends inside its location's invariant
pub record EndsInside (a : Automaton) (k : ℕ) (ss : List Sample) (run : Run) (q : Point) : Type 0 where
  pub run_of : IsRun a k ss run
  pub ends : SamePoint (run_end a run).point q
  pub at : IsAt a q
  pub inside : AllHold (location_at a (run_end a run).loc).invariant q

-- the states after these samples have these histories, which rise, and each run ends in one of them
pub record AreFollowed (a : Automaton) (k : ℕ) (ss : List Sample) (belief : List State) (histories : List History) : Type 0 where
  pub as_many : length histories ≡ length belief
  pub rise : HistoriesRise histories
  pub each : (j : ℕ) → j < length belief → IsFollowed a k ss (slice_index_or belief j no_state) (slice_index_or histories j no_history)
  pub all : (run : Run) (q : Point) → EndsInside a k ss run q → (j : ℕ) × Stands a belief histories run q j

-- ---- the opening

-- number j is in the list, and what is in it has a number
pub in_at : (belief : List State) (j : ℕ) → j < length belief → In (slice_index_or belief j no_state) belief
in_at [] j h = absurd (omega arith)
in_at (x ∷ belief) zero h = inl refl
in_at (x ∷ belief) (suc j) h = inr (in_at belief j (omega arith))

pub place_of : (belief : List State) (x : State) → In x belief → (j : ℕ) × (j < length belief) × (slice_index_or belief j no_state ≡ x)
place_of [] x h = absurd h
place_of (y ∷ belief) x (inl e) = (0, omega arith, sym e)
place_of (y ∷ belief) x (inr h) = let (j, l, e) = place_of belief x h in (suc j, omega arith, e)

-- a run may start in this location: its init rows, with which the state is one of the opening
record StartsWith (a : Automaton) (x : State) (init : List Row) : Type 0 where
  is : (location_at a x.loc).init ≡ Some init
  state : IsOpeningState (width a) (init ++ (location_at a x.loc).invariant) x

starts_with : (a : Automaton) (x : State) → IsSomeAnd (opening_rows a x.loc) (λ rows. IsOpeningState (width a) rows x) → (init : List Row) × StartsWith a x init
starts_with a x h = go (location_at a x.loc).init refl h
  where
    go : (o : Option (List Row)) → (location_at a x.loc).init ≡ o →
        IsSomeAnd (elim o as (λ _. Option (List Row)) [ None ↦ None | Some init ↦ Some (init ++ (location_at a x.loc).invariant) ]) (λ rows. IsOpeningState (width a) rows x) →
        (init : List Row) × StartsWith a x init
    go None e h = absurd h
    go (Some init) e h = (init, record { is = e; state = h })

no_gaps : (a : Automaton) (k : ℕ) (run : Run) → IsRun a k [] run → run.gaps ≡ []
no_gaps a k run r = go run.gaps r.follows
  where
    go : (gs : List GapRun) → Follows a k run.start zero_fraction [] gs → gs ≡ []
    go [] h = refl
    go (g ∷ gs) h = absurd h

-- the history of a state at the opening
abbrev opening_history : State → History
opening_history x = record { start = x.loc; paths = [] }

opening_followed : (a : Automaton) (k : ℕ) (x : State) (init : List Row) → StartsWith a x init → IsFollowed a k [] x (opening_history x)
opening_followed a k x init w =
    let inv : List Row = (location_at a x.loc).invariant in
    let same_loc : (run : Run) → history_of run ≡ opening_history x → run.start.loc ≡ x.loc = λ run e. ap (λ (h : History). h.start) e in
    record {
      ends = λ q at h. (
        record { start = record { loc = x.loc; point = q }; gaps = [] },
        record {
          run_of = record {
            starts = record {
              positive = at.positive;
              sized = at.sized;
              allowed = subst (λ o. IsSomeAnd o (λ rows. AllHold rows q)) (sym w.is) ((holds_both init inv q).0 ((w.state.same q at.positive at.sized).0 h)).0;
            };
            follows = tt;
          };
          along = refl;
          ends = refl;
        },
      );
      held = λ q run at inside e.
          let at_start : AllHold init run.start.point =
          subst (λ o. IsSomeAnd o (λ rows. AllHold rows run.start.point)) (ap (λ l. (location_at a l).init) (same_loc run e.along) ∙ w.is) e.run_of.starts.allowed in
          let same : SamePoint run.start.point q = subst (λ gs. SamePoint (place_after a run.start gs).point q) (no_gaps a k run e.run_of) e.ends in
          (w.state.same q at.positive at.sized).1 ((holds_both init inv q).1 (all_same init run.start.point q e.run_of.starts.positive at.positive same at_start, inside));
      loc = λ run r e. ap (λ gs. (place_after a run.start gs).loc) (no_gaps a k run r) ∙ same_loc run e;
      mark = λ run r e. ap (λ gs. marked a gs) (no_gaps a k run r) ∙ sym w.state.unmarked;
      some_point = let (q, positive, sized, holds) = w.state.some_point in (q, record { positive = positive; sized = sized }, (w.state.same q positive sized).1 holds);
      sized = refl;
    }

opening_rise : (l : ℕ) (belief : List State) → LocsRise l belief → HistoriesRise (opening_histories belief)
opening_rise l [] r = tt
opening_rise l (x ∷ belief) r = from x belief r.1
  where
    less : (l m : ℕ) → l < m → nat_cmp l m ≡ Less
    less l m h = sym (nat_cmp_is l m Less h)

    from : (x : State) (belief : List State) → LocsRise (suc x.loc) belief → HistoriesRiseFrom (opening_history x) (opening_histories belief)
    from x [] r = tt
    from x (y ∷ ys) r = (ap (λ o. ordering_then o Equal) (less x.loc y.loc (omega (arith, r.0))), from y ys r.1)

opening_all : (a : Automaton) (k : ℕ) (belief : List State) → AreOpening a belief → (run : Run) (q : Point) → EndsInside a k [] run q →
    (j : ℕ) × Stands a belief (opening_histories belief) run q j
opening_all a k belief is run q e = go (location_at a run.start.loc).init refl e.run_of.starts.allowed
  where
    none : run.gaps ≡ []
    none = no_gaps a k run e.run_of

    go : (o : Option (List Row)) → (location_at a run.start.loc).init ≡ o → IsSomeAnd o (λ init. AllHold init run.start.point) → (j : ℕ) × Stands a belief (opening_histories belief) run q j
    go None f h = absurd h
    go (Some init) f h =
        let l : ℕ = run.start.loc in
        let rows : List Row = init ++ (location_at a l).invariant in
        let same : SamePoint run.start.point q = subst (λ gs. SamePoint (place_after a run.start gs).point q) none e.ends in
        let inside : AllHold (location_at a l).invariant q = subst (λ gs. AllHold (location_at a (place_after a run.start gs).loc).invariant q) none e.inside in
        let here : AllHold rows q = (holds_both init (location_at a l).invariant q).1 (all_same init run.start.point q e.run_of.starts.positive e.at.positive same h, inside) in
        let row_eq : opening_rows a l ≡ Some rows = ap (λ o. elim o as (λ _. Option (List Row)) [ None ↦ None | Some i ↦ Some (i ++ (location_at a l).invariant) ]) f in
        let (x, i, xl) = is.all l rows row_eq (q, e.at.positive, e.at.sized, here) in
        let s : IsSomeAnd (opening_rows a l) (λ r. IsOpeningState (width a) r x) = subst (λ j. IsSomeAnd (opening_rows a j) (λ r. IsOpeningState (width a) r x)) xl (is.each x i) in
        let t : IsOpeningState (width a) rows x = subst (λ o. IsSomeAnd o (λ r. IsOpeningState (width a) r x)) row_eq s in
        let (j, below, ex) = place_of belief x i in
        let h_j : slice_index_or (opening_histories belief) j no_history ≡ opening_history (slice_index_or belief j no_state) =
        get_or-map opening_history belief j no_state no_history below in
        let loc : l ≡ (slice_index_or belief j no_state).loc = sym (ap (λ (s : State). s.loc) ex ∙ xl) in (
          j,
          record {
            below = below;
            loc = ap (λ gs. (place_after a run.start gs).loc) none ∙ loc;
            mark = ap (λ gs. marked a gs) none ∙ sym (ap (λ (s : State). s.seen_unsafe) ex ∙ t.unmarked);
            holds = subst (λ s. AllHold s.rows q) (sym ex) ((t.same q e.at.positive e.at.sized).1 here);
            no_later = inl (h_j ∙ ap₂ (λ m (paths : List (List ℕ)). record { start = m; paths = paths }) (sym loc) (ap (λ gs. map path_of gs) (sym none)));
          },
        )

pub opening_are : (a : Automaton) (k : ℕ) (belief : List State) → AreOpening a belief → AreFollowed a k [] belief (opening_histories belief)
opening_are a k belief is = record {
  as_many = length-map belief opening_history;
  rise = opening_rise 0 belief is.rise;
  each = λ j h.
      let x : State = slice_index_or belief j no_state in
      let (init, w) = starts_with a x (is.each x (in_at belief j h)) in
      subst (λ y. IsFollowed a k [] x y) (sym (get_or-map opening_history belief j no_state no_history h)) (opening_followed a k x init w);
  all = opening_all a k belief is;
}

-- ---- a gap

gaps_many : (a : Automaton) (k : ℕ) (place : Place) (t : Fraction) (ss : List Sample) (gs : List GapRun) → Follows a k place t ss gs → length gs ≡ length ss
gaps_many a k place t [] [] h = refl
gaps_many a k place t [] (g ∷ gs) h = absurd h
gaps_many a k place t (s ∷ ss) [] h = absurd h
gaps_many a k place t (s ∷ ss) (g ∷ gs) h = let r = gaps_many a k (end_of a g) s.time ss gs h.1 in omega (arith, r)

-- the number of an item's state, and the item of a number
pub number_of : (hs : List History) (items : List Item) (y : Item) → In y items →
    (j : ℕ) × (j < length (states items)) × (slice_index_or (states items) j no_state ≡ y.state)
    × (slice_index_or (item_histories hs items) j no_history ≡ followed (slice_index_or hs y.parent no_history) y.path)
number_of hs [] y h = absurd h
number_of hs (z ∷ items) y (inl e) =
    (0, omega arith, ap (λ (x : Item). x.state) (sym e), ap (λ (x : Item). followed (slice_index_or hs x.parent no_history) x.path) (sym e))
number_of hs (z ∷ items) y (inr h) = let (j, l, e, f) = number_of hs items y h in (suc j, omega arith, e, f)

pub item_number : (hs : List History) (items : List Item) (j : ℕ) → j < length (states items) →
    (y : Item) × In y items × (slice_index_or (states items) j no_state ≡ y.state)
    × (slice_index_or (item_histories hs items) j no_history ≡ followed (slice_index_or hs y.parent no_history) y.path)
item_number hs [] j h = absurd (omega arith)
item_number hs (y ∷ items) zero h = (y, inl refl, refl, refl)
item_number hs (y ∷ items) (suc j) h = let (z, i, e, f) = item_number hs items j (omega arith) in (z, inr i, e, f)

-- a gap run from the end of a run in state number i leads along its path from there
leads : (ss : List Sample) (s : Sample) (key : Key) → IsKeyOf ss s key → (before : Run) (g : GapRun) → IsNextGap key.automaton key.jumps ss s before g →
    (i : ℕ) → i < length key.belief → (run_end key.automaton before).loc ≡ (parent_at key i).loc → AllHold (parent_at key i).rows (start_point g) →
    (q : Point) → IsAt key.automaton q → SamePoint (end_point g) q → MayTake key i (path_of g) × IsEnd key i (path_of g) q
leads ss s key is before g n i hi loc holds q at point =
    let a : Automaton = key.automaton in
    let c = n.continues in
    let same_loc : g.start_loc ≡ (parent_at key i).loc = c.same_loc ∙ loc in (
      record {
        parent = hi;
        few = omega (arith, c.few, length_path g (path_of g) refl);
        fits = subst (λ j. Fits a j (path_of g)) same_loc (fits a g.den g.start_loc g.start g.moves g.last c.gap_run.positive c.gap_run.leads);
      },
      record {
        positive = at.positive;
        sized = at.sized;
        reached = (
          g,
          record {
            same_loc = same_loc;
            sized = (gap_start a key.jumps ss s before g n).0.sized;
            allowed = holds;
            along = refl;
            gap_run = other_duration a (difference s.time (last_from zero_fraction ss)) key.gap g is.duration_is is.gap_is (sym is.gap) c.gap_run;
            passes = subst (λ cells. IsPassing a cells (end_point g)) (sym is.seen) c.passes;
            same_point = point;
          },
        );
      },
    )

module _ (ss : List Sample) (s : Sample) (key : Key) (items : List Item) (hs : List History) (is : IsKeyOf ss s key) (exact : AreExact key items)
    (old : AreFollowed key.automaton key.jumps ss key.belief hs) where
  -- the history of the parent of this number
  abbrev parent_history : ℕ → History
  parent_history i = slice_index_or hs i no_history

  same_size : (i j : ℕ) → i < length key.belief → j < length key.belief → length (parent_history i).paths ≡ length (parent_history j).paths
  same_size i j hi hj = (old.each i hi).sized ∙ sym (old.each j hj).sized

  earlier_item : (i : ℕ) (path : List ℕ) (j : ℕ) (other : List ℕ) → i < length key.belief → j < length key.belief → IsBefore i path j other →
      IsEarlier (followed (parent_history i) path) (followed (parent_history j) other)
  earlier_item i path j other hi hj b = elim (before_cases i path j other b) [
    | inl l ↦ followed-earlier (parent_history i) (parent_history j) path other (same_size i j hi hj) (rise_at hs i j old.rise l (omega (arith, hj, old.as_many)))
    | inr (e, f) ↦ subst (λ m. IsEarlier (followed (parent_history i) path) (followed (parent_history m) other)) e (followed-path (parent_history i) path other f)
  ]

  items_rise : (xs : List Item) → AreRising xs → ((x : Item) → In x xs → x.parent < length key.belief) → HistoriesRise (item_histories hs xs)
  items_rise [] r h = tt
  items_rise (x ∷ xs) r h = from x xs r (h x (inl refl)) (λ y i. h y (inr i))
    where
      from : (x : Item) (xs : List Item) → ItemsRise x.parent x.path xs → x.parent < length key.belief → ((y : Item) → In y xs → y.parent < length key.belief) →
          HistoriesRiseFrom (followed (parent_history x.parent) x.path) (item_histories hs xs)
      from x [] r hx h = tt
      from x (y ∷ ys) r hx h = (earlier_item x.parent x.path y.parent y.path hx (h y (inl refl)) r.0, from y ys r.1 (h y (inl refl)) (λ z i. h z (inr i)))

  -- ---- the runs of an item's history

  item_ends : (y : Item) → In y items → (q : Point) → IsAt key.automaton q → AllHold y.state.rows q →
      (run : Run) × EndsRun key.automaton key.jumps (ss ++ s ∷ []) (followed (parent_history y.parent) y.path) q run
  item_ends y iy q at h =
      let a : Automaton = key.automaton in
      let item = exact.each y iy in
      let (g, l) = ((item.ends q at.positive at.sized).0 h).reached in
      let p = old.each y.parent item.may_take.parent in
      let (before, r) = p.ends (start_point g) (record { positive = l.gap_run.positive; sized = l.sized }) l.allowed in
      let next : IsNextGap a key.jumps ss s before g = record {
        run_of = r.run_of;
        continues = record {
          same_loc = l.same_loc ∙ sym (p.loc before r.run_of r.along);
          same_point = sym r.ends;
          few = omega (arith, length_path g y.path l.along, item.may_take.few);
          gap_run = other_duration a key.gap (difference s.time (last_from zero_fraction ss)) g is.gap_is is.duration_is is.gap l.gap_run;
          passes = subst (λ cells. IsPassing a cells (end_point g)) is.seen l.passes;
        };
      } in (
        extended before g,
        record {
          run_of = run-extended a key.jumps ss s before g next;
          along = history-extended before g ∙ ap (λ x. followed x (path_of g)) r.along ∙ ap (λ path. followed (parent_history y.parent) path) l.along;
          ends = subst (λ (place : Place). SamePoint place.point q) (sym (place-append a before.start before.gaps g)) l.same_point;
        },
      )

  -- a run along an item's history: one along the parent's, and a gap along the item's path
  record GapAlong (y : Item) (run before : Run) (g : GapRun) : Type 0 where
    run_is : run ≡ extended before g
    next : IsNextGap key.automaton key.jumps ss s before g
    along : history_of before ≡ parent_history y.parent
    path : path_of g ≡ y.path
    same_loc : g.start_loc ≡ (parent_at key y.parent).loc

  gap_along : (y : Item) → In y items → (run : Run) → IsRun key.automaton key.jumps (ss ++ s ∷ []) run → history_of run ≡ followed (parent_history y.parent) y.path →
      (before : Run) × (g : GapRun) × GapAlong y run before g
  gap_along y iy run r e =
      let (before, g, run_is, next) = before_gap key.automaton key.jumps ss s run r in
      let alike = followed-alike (history_of before) (parent_history y.parent) (path_of g) y.path (sym (ap (λ x. history_of x) run_is ∙ history-extended before g) ∙ e) in
      let p = old.each y.parent (exact.each y iy).may_take.parent in (
        before,
        g,
        record {
          run_is = run_is;
          next = next;
          along = alike.0;
          path = alike.1;
          same_loc = next.continues.same_loc ∙ p.loc before next.run_of alike.0;
        },
      )

  item_held : (y : Item) → In y items → (q : Point) (run : Run) → IsAt key.automaton q →
      EndsRun key.automaton key.jumps (ss ++ s ∷ []) (followed (parent_history y.parent) y.path) q run → AllHold y.state.rows q
  item_held y iy q run at e =
      let a : Automaton = key.automaton in
      let item = exact.each y iy in
      let p = old.each y.parent item.may_take.parent in
      let (before, g, w) = gap_along y iy run e.run_of e.along in
      let (start, inside) = gap_start a key.jumps ss s before g w.next in
      let loc : (run_end a before).loc ≡ (parent_at key y.parent).loc = p.loc before w.next.run_of w.along in
      let holds = p.held (start_point g) before start (subst (λ l. AllHold (location_at a l).invariant (start_point g)) loc inside)
      (record { run_of = w.next.run_of; along = w.along; ends = sym w.next.continues.same_point }) in
      let last : run_end a run ≡ end_of a g = ap (λ x. run_end a x) w.run_is ∙ place-append a before.start before.gaps g in
      let point : SamePoint (end_point g) q = subst (λ (place : Place). SamePoint place.point q) last e.ends in
      let led = leads ss s key is before g w.next y.parent item.may_take.parent loc holds q at point in
      (item.ends q at.positive at.sized).1 (subst (λ path. IsEnd key y.parent path q) w.path led.1)

  item_loc : (y : Item) → In y items → (run : Run) → IsRun key.automaton key.jumps (ss ++ s ∷ []) run → history_of run ≡ followed (parent_history y.parent) y.path →
      (run_end key.automaton run).loc ≡ y.state.loc
  item_loc y iy run r e =
      let a : Automaton = key.automaton in
      let (before, g, w) = gap_along y iy run r e in
      ap (λ x. (run_end a x).loc) w.run_is ∙ ap (λ (place : Place). place.loc) (place-append a before.start before.gaps g) ∙ ap (λ j. end_loc a j (path_of g)) w.same_loc
      ∙ ap (λ path. loc_after key y.parent path) w.path ∙ sym (exact.each y iy).loc

  item_mark : (y : Item) → In y items → (run : Run) → IsRun key.automaton key.jumps (ss ++ s ∷ []) run → history_of run ≡ followed (parent_history y.parent) y.path →
      marked key.automaton run.gaps ≡ y.state.seen_unsafe
  item_mark y iy run r e =
      let a : Automaton = key.automaton in
      let item = exact.each y iy in
      let p = old.each y.parent item.may_take.parent in
      let (before, g, w) = gap_along y iy run r e in
      ap (λ (x : Run). marked a x.gaps) w.run_is ∙ marked-append a before.gaps g ∙ ap (λ b. b || goes_unsafe a g.start_loc (path_of g)) (p.mark before w.next.run_of w.along)
      ∙ ap (λ j. (parent_at key y.parent).seen_unsafe || goes_unsafe a j (path_of g)) w.same_loc ∙ ap (λ path. mark_after key y.parent path) w.path ∙ sym item.mark

  item_followed : (y : Item) → In y items → IsFollowed key.automaton key.jumps (ss ++ s ∷ []) y.state (followed (parent_history y.parent) y.path)
  item_followed y iy =
      let item = exact.each y iy in
      let (q, end) = item.some_end in
      let p = old.each y.parent item.may_take.parent in
      record {
        ends = item_ends y iy;
        held = λ q run at inside e. item_held y iy q run at e;
        loc = item_loc y iy;
        mark = item_mark y iy;
        some_point = (q, record { positive = end.positive; sized = end.sized }, (item.ends q end.positive end.sized).1 end);
        sized = omega (arith, length-append (parent_history y.parent).paths (y.path ∷ []), length-append ss (s ∷ []), p.sized);
      }

  -- ---- each run ends in an item

  in_item : (run : Run) (q : Point) (y : Item) → In y items → (run_end key.automaton run).loc ≡ y.state.loc → marked key.automaton run.gaps ≡ y.state.seen_unsafe →
      AllHold y.state.rows q → IsNoLater (followed (parent_history y.parent) y.path) (history_of run) →
      (j : ℕ) × Stands key.automaton (states items) (item_histories hs items) run q j
  in_item run q y iy loc mark holds no_later =
      let (j, below, e, f) = number_of hs items y iy in (
        j,
        record {
          below = below;
          loc = loc ∙ ap (λ (x : State). x.loc) (sym e);
          mark = mark ∙ ap (λ (x : State). x.seen_unsafe) (sym e);
          holds = subst (λ x. AllHold x.rows q) (sym e) holds;
          no_later = subst (λ h. IsNoLater h (history_of run)) (sym f) no_later;
        },
      )

  accounted : (run : Run) (q : Point) (i : ℕ) (path : List ℕ) → i < length key.belief → IsAt key.automaton q → IsEnd key i path q →
      (run_end key.automaton run).loc ≡ loc_after key i path → marked key.automaton run.gaps ≡ mark_after key i path →
      IsNoLater (followed (parent_history i) path) (history_of run) → IsAccounted key items i path → (j : ℕ) × Stands key.automaton (states items) (item_histories hs items) run q j
  accounted run q i path below at end loc mark no_later is_accounted =
      elim is_accounted [
        | inl (y, iy, ey, ep) ↦ (
            let item = exact.each y iy in
            let own : IsEnd key y.parent y.path q = subst (λ j. IsEnd key j y.path q) (sym ey) (subst (λ p. IsEnd key i p q) (sym ep) end) in
            let own_loc : loc_after key i path ≡ loc_after key y.parent y.path = ap (λ p. loc_after key i p) (sym ep) ∙ ap (λ j. loc_after key j y.path) (sym ey) in
            let own_mark : mark_after key i path ≡ mark_after key y.parent y.path = ap (λ p. mark_after key i p) (sym ep) ∙ ap (λ j. mark_after key j y.path) (sym ey) in
            let own_history : followed (parent_history i) path ≡ followed (parent_history y.parent) y.path =
            ap (λ p. followed (parent_history i) p) (sym ep) ∙ ap (λ j. followed (parent_history j) y.path) (sym ey) in
            in_item run q y iy (loc ∙ own_loc ∙ sym item.loc) (mark ∙ own_mark ∙ sym item.mark) ((item.ends q at.positive at.sized).1 own)
            (subst (λ h. IsNoLater h (history_of run)) own_history no_later))
        | inr (inl none) ↦ absurd (none q end)
        | inr (inr (y, covered)) ↦ (
            let item = exact.each y covered.item in
            let earlier = earlier_item y.parent y.path i path item.may_take.parent below covered.alike.before in
            in_item run q y covered.item (loc ∙ sym covered.alike.same_loc) (mark ∙ sym covered.alike.same_mark) ((item.ends q at.positive at.sized).1 (covered.included q end))
            (inr (earlier-no_later (followed (parent_history y.parent) y.path) (followed (parent_history i) path) (history_of run) earlier no_later)))
      ]

  items_all : (run : Run) (q : Point) → EndsInside key.automaton key.jumps (ss ++ s ∷ []) run q → (j : ℕ) × Stands key.automaton (states items) (item_histories hs items) run q j
  items_all run q e =
      let a : Automaton = key.automaton in
      let (before, g, run_is, n) = before_gap a key.jumps ss s run e.run_of in
      let (start, inside) = gap_start a key.jumps ss s before g n in
      let (i, w) = old.all before (start_point g) (record { run_of = n.run_of; ends = sym n.continues.same_point; at = start; inside = inside }) in
      let path : List ℕ = path_of g in
      let last : run_end a run ≡ end_of a g = ap (λ x. run_end a x) run_is ∙ place-append a before.start before.gaps g in
      let point : SamePoint (end_point g) q = subst (λ (place : Place). SamePoint place.point q) last e.ends in
      let (may, end) = leads ss s key is before g n i w.below w.loc w.holds q e.at point in
      let same_loc : g.start_loc ≡ (parent_at key i).loc = n.continues.same_loc ∙ w.loc in
      let loc : (run_end a run).loc ≡ loc_after key i path = ap (λ (place : Place). place.loc) last ∙ ap (λ j. end_loc a j path) same_loc in
      let mark : marked a run.gaps ≡ mark_after key i path =
      ap (λ (x : Run). marked a x.gaps) run_is ∙ marked-append a before.gaps g ∙ ap (λ b. b || goes_unsafe a g.start_loc path) w.mark
      ∙ ap (λ j. (parent_at key i).seen_unsafe || goes_unsafe a j path) same_loc in
      let many : length (parent_history i).paths ≡ length (history_of before).paths =
      (old.each i w.below).sized ∙ sym (length-map before.gaps path_of ∙ gaps_many a key.jumps before.start zero_fraction ss before.gaps n.run_of.follows) in
      let no_later : IsNoLater (followed (parent_history i) path) (history_of run) =
      subst (λ h. IsNoLater (followed (parent_history i) path) h) (sym (ap (λ x. history_of x) run_is ∙ history-extended before g))
      (followed-no_later (parent_history i) (history_of before) path many w.no_later) in
      accounted run q i path w.below e.at end loc mark no_later (exact.complete i path may)

  pub items_are : AreFollowed key.automaton key.jumps (ss ++ s ∷ []) (states items) (item_histories hs items)
  items_are = record {
    as_many =
        length-map items (λ (x : Item). followed (parent_history x.parent) x.path) ∙ sym (length-map items (λ (x : Item). x.state));
    rise = items_rise items exact.rising (λ x i. (exact.each x i).may_take.parent);
    each = λ j h.
        let (y, iy, e, f) = item_number hs items j h in
        subst (λ x. IsFollowed key.automaton key.jumps (ss ++ s ∷ []) x (slice_index_or (item_histories hs items) j no_history)) (sym e)
        (subst (λ t. IsFollowed key.automaton key.jumps (ss ++ s ∷ []) y.state t) (sym f) (item_followed y iy));
    all = items_all;
  }
