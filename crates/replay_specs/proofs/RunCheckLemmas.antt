-- What the checks of a run ask, and what a run is.
use Rattle.std.proofs.Common.{◌≡◌, inl, inr, ℕ, zero, suc, ◌<◌, ◌≤◌, Bool, true, false, List, [], ◌∷◌, ◌++◌, length, take, refl, sym, ◌∙◌, ap, subst, arith, ℤ, pos, ◌≤ℤ◌, ◌<ℤ◌, ◌*ℤ◌, Option, Some, None, Ok, Err}
use Rattle.std.specs.Prelude.{int_lt, IsSomeAnd}
use Rattle.std.specs.List.{AllByRecursion}
use Rattle.std.proofs.lemmas.Bool.{cases_lt}
use Rattle.std.proofs.lemmas.Int.{ints}
use Rattle.std.proofs.lemmas.List.{get_or_past, length-map}
use Rattle.std.proofs.lemmas.List.Elements.{All-from_recursion, recursion_from_All}
use Rattle.poly_specs.specs.Lists.{minus}
use Rattle.poly_specs.specs.Fractions.{Fraction, SameFraction, difference, zero_fraction}
use Rattle.poly_specs.specs.Rows.{Row, Point, AllHold, SamePoint, coordinate, over}
use Rattle.replay_specs.specs.declared.checks.Stop.TheVariants.{Fails}
use Rattle.run_specs.specs.Automaton.{Automaton, Location, Transition, nowhere, no_transition, width, location_at, transition_at, tolerance_at}
use Rattle.run_specs.specs.Logs.{Sample, IsLog, IsPassing, cell_at}
use Rattle.run_specs.specs.Runs.{Leg, Move, GapRun, Place, IsLeg, IsJump, LeadOn, Continues, Follows, IsRun, start_point, end_point, end_of, total}
use Rattle.replay_specs.specs.RunChecks.{Step, row_steps, slope_steps, leg_steps, jump_steps, path_steps, near_steps, IsNear, value_steps, IsMoveInRange, IsInRange, start_steps, join_steps, length_steps, gap_steps, gap_at, sample_at, gap_before, time_before, GapAnswers, HasCount, IsRunOf, run_of}
use Rattle.run_specs.proofs.SystemLemmas.{nowhere_holds}
use Rattle.replay_specs.proofs.CheckLemmas.{AllAsked, met_asked, failed_asked, asked_front, asked_back, asked_both, rows_hold, rows_asked}

-- ---- legs

module _ (slopes : List Row) (d : ℤ) (p : List ℤ) (leg : Leg) where
  abbrev slopes_point : List ℤ
  slopes_point = minus leg.at_end p ++ leg.length_of ∷ []

  slopes_ask : (b : Bool) → int_lt (pos 0) leg.length_of ≡ b → AllAsked (slope_steps b slopes d p leg) →
      (leg.length_of ≡ pos 0 → leg.at_end ≡ p) × (pos 0 <ℤ leg.length_of → AllHold slopes (over d slopes_point))
  slopes_ask true e h = (λ z. absurd (omega (arith, ints, e, z)), λ l. rows_hold d slopes_point slopes h.1)
  slopes_ask false e h = (λ z. h.0, λ l. absurd (omega (arith, ints, e, l)))

  slopes_asked : (b : Bool) → int_lt (pos 0) leg.length_of ≡ b → pos 0 ≤ℤ leg.length_of → (leg.length_of ≡ pos 0 → leg.at_end ≡ p) →
      (pos 0 <ℤ leg.length_of → AllHold slopes (over d slopes_point)) → AllAsked (slope_steps b slopes d p leg)
  slopes_asked true e h still straight = (tt, rows_asked d slopes_point slopes (straight (omega (arith, ints, e))))
  slopes_asked false e h still straight = (still (omega (arith, ints, e, h)), tt)

pub leg_is : (loc : Location) (d : ℤ) (p : List ℤ) (leg : Leg) → length leg.at_end ≡ length p → AllAsked (leg_steps loc d p leg) →
    IsLeg loc d p leg.length_of leg.at_end
unfolding leg_steps
leg_is loc d p leg sized h =
    let inside = asked_front (row_steps loc.invariant d p) (row_steps loc.invariant d leg.at_end ++ slope_steps (int_lt (pos 0) leg.length_of) loc.slopes d p leg) h.1 in
    let more = asked_back (row_steps loc.invariant d p) (row_steps loc.invariant d leg.at_end ++ slope_steps (int_lt (pos 0) leg.length_of) loc.slopes d p leg) h.1 in
    let after = asked_front (row_steps loc.invariant d leg.at_end) (slope_steps (int_lt (pos 0) leg.length_of) loc.slopes d p leg) more in
    let slopes = asked_back (row_steps loc.invariant d leg.at_end) (slope_steps (int_lt (pos 0) leg.length_of) loc.slopes d p leg) more in
    let both = slopes_ask loc.slopes d p leg (int_lt (pos 0) leg.length_of) refl slopes in
    record {
      same_size = sized;
      lasts = h.0;
      inside_before = rows_hold d p loc.invariant inside;
      inside_after = rows_hold d leg.at_end loc.invariant after;
      still = both.0;
      straight = both.1;
    }

pub leg_asked : (loc : Location) (d : ℤ) (p : List ℤ) (leg : Leg) → IsLeg loc d p leg.length_of leg.at_end → AllAsked (leg_steps loc d p leg)
unfolding leg_steps
leg_asked loc d p leg is = (
  is.lasts,
  asked_both (row_steps loc.invariant d p) (row_steps loc.invariant d leg.at_end ++ slope_steps (int_lt (pos 0) leg.length_of) loc.slopes d p leg)
      (rows_asked d p loc.invariant is.inside_before)
      (asked_both (row_steps loc.invariant d leg.at_end) (slope_steps (int_lt (pos 0) leg.length_of) loc.slopes d p leg)
      (rows_asked d leg.at_end loc.invariant is.inside_after)
      (slopes_asked loc.slopes d p leg (int_lt (pos 0) leg.length_of) refl is.lasts is.still is.straight)),
)

-- ---- jumps

module _ (a : Automaton) (l : ℕ) (d : ℤ) (m : Move) where
  abbrev relation : List Row
  relation = (transition_at a m.transition).relation

  abbrev inside : List Row
  inside = (location_at a (transition_at a m.transition).target).invariant

  pub jump_is : length m.after ≡ length m.leg.at_end → AllAsked (jump_steps a l d m) →
      ((transition_at a m.transition).source ≡ l) × IsJump a m.transition d m.leg.at_end m.after
  unfolding jump_steps
  jump_is sized h = (
    h.0,
    record {
      same_size = sized;
      related = rows_hold d (m.leg.at_end ++ m.after) relation (asked_front (row_steps relation d (m.leg.at_end ++ m.after)) (row_steps inside d m.after) h.1);
      inside_after = rows_hold d m.after inside (asked_back (row_steps relation d (m.leg.at_end ++ m.after)) (row_steps inside d m.after) h.1);
    },
  )

  pub jump_asked : (transition_at a m.transition).source ≡ l → IsJump a m.transition d m.leg.at_end m.after → AllAsked (jump_steps a l d m)
  unfolding jump_steps
  jump_asked e is = (
    e,
    asked_both (row_steps relation d (m.leg.at_end ++ m.after)) (row_steps inside d m.after)
        (rows_asked d (m.leg.at_end ++ m.after) relation is.related) (rows_asked d m.after inside is.inside_after),
  )

-- ---- paths

module _ (a : Automaton) (d : ℤ) (last : Leg) where
  abbrev AreSized : List ℤ → List Move → Type 0
  AreSized p ms = (length p ≡ width a) × AllByRecursion (IsMoveInRange a) ms × (length last.at_end ≡ width a)

  pub path_is : (l : ℕ) (p : List ℤ) (ms : List Move) → AreSized p ms → AllAsked (path_steps a d l p ms last) → LeadOn a d l p ms last
  path_is l p [] s h = leg_is (location_at a l) d p last (s.2 ∙ sym s.0) h
  path_is l p (m ∷ ms) s h =
      let here = s.1.0 in
      let leg = asked_front (leg_steps (location_at a l) d p m.leg) (jump_steps a l d m ++ path_steps a d (transition_at a m.transition).target m.after ms last) h in
      let more = asked_back (leg_steps (location_at a l) d p m.leg) (jump_steps a l d m ++ path_steps a d (transition_at a m.transition).target m.after ms last) h in
      let jump = asked_front (jump_steps a l d m) (path_steps a d (transition_at a m.transition).target m.after ms last) more in
      let rest = asked_back (jump_steps a l d m) (path_steps a d (transition_at a m.transition).target m.after ms last) more in
      let jumps = jump_is a l d m (here.after ∙ sym here.at_end) jump in (
        leg_is (location_at a l) d p m.leg (here.at_end ∙ sym s.0) leg,
        jumps.0,
        jumps.1,
        path_is (transition_at a m.transition).target m.after ms (here.after, s.1.1, s.2) rest,
      )

  pub path_asked : (l : ℕ) (p : List ℤ) (ms : List Move) → LeadOn a d l p ms last → AllAsked (path_steps a d l p ms last)
  path_asked l p [] h = leg_asked (location_at a l) d p last h
  path_asked l p (m ∷ ms) h =
      asked_both (leg_steps (location_at a l) d p m.leg) (jump_steps a l d m ++ path_steps a d (transition_at a m.transition).target m.after ms last)
      (leg_asked (location_at a l) d p m.leg h.0)
      (asked_both (jump_steps a l d m) (path_steps a d (transition_at a m.transition).target m.after ms last)
      (jump_asked a l d m h.1 h.2) (path_asked (transition_at a m.transition).target m.after ms h.3))

  transition_within : (m : Move) → pos 0 <ℤ d → IsJump a m.transition d m.leg.at_end m.after → m.transition < length a.transitions
  transition_within m hd is = elim (cases_lt m.transition (length a.transitions)) [
    | inl lt ↦ lt
    | inr ge ↦ absurd (nowhere_holds d (m.leg.at_end ++ m.after) hd
        (subst (λ (x : Transition). AllHold x.relation (over d (m.leg.at_end ++ m.after))) (get_or_past a.transitions m.transition no_transition ge) is.related))
  ]

  location_within : (l : ℕ) (p : List ℤ) → pos 0 <ℤ d → AllHold (location_at a l).invariant (over d p) → l < length a.locations
  location_within l p hd h = elim (cases_lt l (length a.locations)) [
    | inl lt ↦ lt
    | inr ge ↦ absurd (nowhere_holds d p hd (subst (λ (x : Location). AllHold x.invariant (over d p)) (get_or_past a.locations l nowhere ge) h))
  ]

  pub start_within : (l : ℕ) (p : List ℤ) (ms : List Move) → pos 0 <ℤ d → LeadOn a d l p ms last → l < length a.locations
  start_within l p [] hd h = location_within l p hd h.inside_before
  start_within l p (m ∷ ms) hd h = location_within l p hd h.0.inside_before

  pub path_sized : (l : ℕ) (p : List ℤ) (ms : List Move) → pos 0 <ℤ d → length p ≡ width a → LeadOn a d l p ms last → AreSized p ms
  path_sized l p [] hd s h = (s, tt, h.same_size ∙ s)
  path_sized l p (m ∷ ms) hd s h =
      let at_end = h.0.same_size ∙ s in
      let after = h.2.same_size ∙ at_end in
      let rest = path_sized (transition_at a m.transition).target m.after ms hd after h.3 in
      (s, (record { at_end = at_end; transition = transition_within m hd h.2; after = after }, rest.1), rest.2)

-- ---- samples

module _ (a : Automaton) (cells : List (Option Fraction)) (p : Point) where
  abbrev IsNearIn : ℕ → Type 0
  IsNearIn j = IsNear (tolerance_at a j) (cell_at j cells) (coordinate j p)

  abbrev steps_in : ℕ → List Step
  steps_in j = value_steps (tolerance_at a j) (cell_at j cells) (coordinate j p)

  value_is : (j : ℕ) → AllAsked (steps_in j) → IsNearIn j
  unfolding value_steps
  value_is j h = h.0

  value_asked : (j : ℕ) → IsNearIn j → AllAsked (steps_in j)
  unfolding value_steps
  value_asked j h = (h, tt)

  pub near_is : (n : ℕ) → AllAsked (near_steps a cells p n) → (j : ℕ) → j < n → IsNearIn j
  near_is zero h j lt = absurd (omega arith)
  near_is (suc n) h j lt = elim (cases_lt j n) [
    | inl below ↦ near_is n (asked_front (near_steps a cells p n) (steps_in n) h) j below
    | inr ge ↦ subst IsNearIn (let e : n ≡ j = omega arith in e) (value_is n (asked_back (near_steps a cells p n) (steps_in n) h))
  ]

  pub near_asked : (n : ℕ) → ((j : ℕ) → j < n → IsNearIn j) → AllAsked (near_steps a cells p n)
  near_asked zero h = tt
  near_asked (suc n) h =
      asked_both (near_steps a cells p n) (steps_in n) (near_asked n (λ j lt. h j (omega arith))) (value_asked n (h n (omega arith)))

  pub passing : length cells ≡ width a → length p.num ≡ width a → AllAsked (near_steps a cells p (width a)) → IsPassing a cells p
  passing all sized h = record {
    sized = sized;
    near = λ j v seen. elim (cases_lt j (width a)) [
      | inl lt ↦ near_is (width a) h j lt v seen
      | inr ge ↦ absurd (let e : cell_at j cells ≡ None = get_or_past cells j None (omega arith) in let b : ⊥ = cc in b)
    ];
  }

-- ---- a gap

-- what the check of a gap asks
pub record AsksOfGap (a : Automaton) (k : ℕ) (before : Option GapRun) (t : Fraction) (s : Sample) (g : GapRun) : Type 0 where
  pub in_range : IsInRange a g
  pub few : length g.moves ≤ k
  pub join : AllAsked (join_steps a before g)
  pub path : AllAsked (path_steps a g.den g.start_loc g.start g.moves g.last)
  pub lasts : SameFraction (record { num = total g.moves g.last; den = g.den }) (difference s.time t)
  pub near : AllAsked (near_steps a s.cells (end_point g) (width a))

module _ (a : Automaton) (k : ℕ) (before : Option GapRun) (t : Fraction) (s : Sample) (g : GapRun) where
  abbrev path : List Step
  path = path_steps a g.den g.start_loc g.start g.moves g.last

  abbrev ends : List Step
  ends = length_steps (difference s.time t) g ++ near_steps a s.cells (end_point g) (width a)

  pub gap_asks : AllAsked (gap_steps a k before t s g) → AsksOfGap a k before t s g
  unfolding gap_steps length_steps
  gap_asks h =
      let more = asked_back (join_steps a before g) (path ++ ends) h.1 in
      let last = asked_back path ends more in
      record {
        in_range = h.0.0;
        few = h.0.1;
        join = asked_front (join_steps a before g) (path ++ ends) h.1;
        path = asked_front path ends more;
        lasts = last.0;
        near = last.1;
      }

  pub gap_asked : AsksOfGap a k before t s g → AllAsked (gap_steps a k before t s g)
  unfolding gap_steps length_steps
  gap_asked h = (
    (h.in_range, h.few),
    asked_both (join_steps a before g) (path ++ ends) h.join (asked_both path ends h.path (h.lasts, h.near)),
  )

  pub gap_goes_on : (place : Place) → length s.cells ≡ width a → g.start_loc ≡ place.loc → SamePoint (start_point g) place.point → AsksOfGap a k before t s g →
      Continues a k place (difference s.time t) s g
  gap_goes_on place sized loc point h =
      let range = h.in_range in
      record {
        same_loc = loc;
        same_point = point;
        few = h.few;
        gap_run = record {
          positive = range.positive;
          leads = path_is a g.den g.last g.start_loc g.start g.moves
              (range.start, recursion_from_All (IsMoveInRange a) g.moves range.moves, range.last) h.path;
          lasts = h.lasts;
        };
        passes = passing a s.cells (end_point g) sized range.last h.near;
      }

  same_length : (p q : Point) → SamePoint p q → length p.num ≡ length q.num
  same_length p q e = sym (length-map p.num (λ n. n *ℤ q.den)) ∙ ap length e ∙ length-map q.num (λ n. n *ℤ p.den)

  pub asks_from : (place : Place) → length place.point.num ≡ width a → AllAsked (join_steps a before g) → Continues a k place (difference s.time t) s g →
      AsksOfGap a k before t s g
  asks_from place sized join is =
      let run = is.gap_run in
      let start = same_length (start_point g) place.point is.same_point ∙ sized in
      let all = path_sized a g.den g.last g.start_loc g.start g.moves run.positive start run.leads in
      record {
        in_range = record {
          positive = run.positive;
          start_loc = start_within a g.den g.last g.start_loc g.start g.moves run.positive run.leads;
          start = start;
          moves = All-from_recursion (IsMoveInRange a) g.moves all.1;
          last = all.2;
        };
        few = is.few;
        join = join;
        path = path_asked a g.den g.last g.start_loc g.start g.moves run.leads;
        lasts = run.lasts;
        near = near_asked a s.cells (end_point g) (width a) (λ j lt v seen. is.passes.near j v seen);
      }

-- ---- all gaps

-- the gap before gap i, where this one stands before all
abbrev gap_after : Option GapRun → ℕ → List GapRun → Option GapRun
gap_after b zero gs = b
gap_after b (suc i) gs = Some (gap_at i gs)

-- the time before gap i, where this one stands before all
abbrev time_after : Fraction → ℕ → List Sample → Fraction
time_after t zero ss = t
time_after t (suc i) ss = (sample_at i ss).time

abbrev AreAsked : Automaton → ℕ → Option GapRun → Fraction → List Sample → List GapRun → Type 0
AreAsked a k b t ss gs = (i : ℕ) → i < length gs → AsksOfGap a k (gap_after b i gs) (time_after t i ss) (sample_at i ss) (gap_at i gs)

module _ (a : Automaton) (k : ℕ) where
  asked_later : (b : Option GapRun) (t : Fraction) (s : Sample) (ss : List Sample) (g : GapRun) (gs : List GapRun) →
      AreAsked a k b t (s ∷ ss) (g ∷ gs) → AreAsked a k (Some g) s.time ss gs
  asked_later b t s ss g gs h zero lt = h 1 (omega arith)
  asked_later b t s ss g gs h (suc i) lt = h (suc (suc i)) (omega arith)

  asked_sooner : (b : Option GapRun) (t : Fraction) (s : Sample) (ss : List Sample) (g : GapRun) (gs : List GapRun) →
      AsksOfGap a k b t s g → AreAsked a k (Some g) s.time ss gs → AreAsked a k b t (s ∷ ss) (g ∷ gs)
  asked_sooner b t s ss g gs here h zero lt = here
  asked_sooner b t s ss g gs here h (suc zero) lt = h 0 (omega arith)
  asked_sooner b t s ss g gs here h (suc (suc i)) lt = h (suc i) (omega arith)

  follow : (b : GapRun) (t : Fraction) (ss : List Sample) (gs : List GapRun) → AllByRecursion (λ s. length s.cells ≡ width a) ss → length gs ≤ length ss →
      AreAsked a k (Some b) t ss gs → Follows a k (end_of a b) t (take (length gs) ss) gs
  follow b t ss [] all le h = tt
  follow b t [] (g ∷ gs) all le h = absurd (omega arith)
  follow b t (s ∷ ss) (g ∷ gs) all le h =
      let here = h 0 (omega arith) in (
        gap_goes_on a k (Some b) t s g (end_of a b) all.0 here.join.0 here.join.1.0 here,
        follow g s.time ss gs all.1 (omega arith) (asked_later (Some b) t s ss g gs h),
      )

  followed : (b : GapRun) (t : Fraction) (ss : List Sample) (gs : List GapRun) → length (end_point b).num ≡ width a →
      Follows a k (end_of a b) t (take (length gs) ss) gs → AreAsked a k (Some b) t ss gs
  followed b t ss [] sized h = λ i lt. absurd (omega arith)
  followed b t [] (g ∷ gs) sized h = absurd h
  followed b t (s ∷ ss) (g ∷ gs) sized h =
      asked_sooner (Some b) t s ss g gs
      (asks_from a k (Some b) t s g (end_of a b) sized (h.0.same_loc, (h.0.same_point, tt)) h.0)
      (followed g s.time ss gs h.0.passes.sized h.1)

  start_is : (init : Option (List Row)) (g : GapRun) → AllAsked (start_steps init g) → IsSomeAnd init (λ rows. AllHold rows (start_point g))
  start_is None g h = h.0
  start_is (Some rows) g h = rows_hold g.den g.start rows h

  start_asked : (init : Option (List Row)) (g : GapRun) → IsSomeAnd init (λ rows. AllHold rows (start_point g)) → AllAsked (start_steps init g)
  start_asked None g h = (h, tt)
  start_asked (Some rows) g h = rows_asked g.den g.start rows h

  run_is : (ss : List Sample) (gs : List GapRun) → AllByRecursion (λ s. length s.cells ≡ width a) ss → HasCount ss gs → AreAsked a k None zero_fraction ss gs →
      IsRun a k (take (length gs) ss) (run_of gs)
  run_is ss [] all le h = absurd (omega arith)
  run_is [] (g ∷ gs) all le h = absurd (omega arith)
  run_is (s ∷ ss) (g ∷ gs) all le h =
      let here = h 0 (omega arith) in
      let place : Place = record { loc = g.start_loc; point = start_point g } in
      record {
        starts = record {
          positive = here.in_range.positive;
          sized = here.in_range.start;
          allowed = start_is (location_at a g.start_loc).init g here.join;
        };
        follows = (
          gap_goes_on a k None zero_fraction s g place all.0 refl refl here,
          follow g s.time ss gs all.1 (omega arith) (asked_later None zero_fraction s ss g gs h),
        );
      }

  run_asked : (ss : List Sample) (gs : List GapRun) → HasCount ss gs → IsRun a k (take (length gs) ss) (run_of gs) → AreAsked a k None zero_fraction ss gs
  run_asked ss [] le is = absurd (omega arith)
  run_asked [] (g ∷ gs) le is = absurd (omega arith)
  run_asked (s ∷ ss) (g ∷ gs) le is =
      let place : Place = record { loc = g.start_loc; point = start_point g } in
      asked_sooner None zero_fraction s ss g gs
      (asks_from a k None zero_fraction s g place is.starts.sized (start_asked (location_at a g.start_loc).init g is.starts.allowed) is.follows.0)
      (followed g s.time ss gs is.follows.0.passes.sized is.follows.1)

  before_is : (i : ℕ) (gs : List GapRun) → gap_after None i gs ≡ gap_before i gs
  before_is zero gs = refl
  before_is (suc i) gs = refl

  time_is : (i : ℕ) (ss : List Sample) → time_after zero_fraction i ss ≡ time_before i ss
  time_is zero ss = refl
  time_is (suc i) ss = refl

  pub that_hold : (ss : List Sample) (gs : List GapRun) → IsLog (width a) ss → HasCount ss gs →
      ((i : ℕ) → i < length gs → GapAnswers a k ss gs i (Ok tt)) → IsRunOf a k ss gs
  that_hold ss gs log le h = (
    le,
    run_is ss gs (recursion_from_All (λ s. length s.cells ≡ width a) ss (λ i d lt. (log.each i d lt).sized)) le
        (λ i lt. gap_asks a k (gap_after None i gs) (time_after zero_fraction i ss) (sample_at i ss) (gap_at i gs)
        (rw (before_is i gs, time_is i ss)
        (met_asked (gap_steps a k (gap_before i gs) (time_before i ss) (sample_at i ss) (gap_at i gs)) (h i lt)))),
  )

  pub that_fails : (ss : List Sample) (gs : List GapRun) (i : ℕ) → i < length gs → GapAnswers a k ss gs i (Err Fails) → IsRunOf a k ss gs → ⊥
  that_fails ss gs i lt h is =
      failed_asked (gap_steps a k (gap_before i gs) (time_before i ss) (sample_at i ss) (gap_at i gs)) h
      (gap_asked a k (gap_before i gs) (time_before i ss) (sample_at i ss) (gap_at i gs)
      (rw (sym (before_is i gs), sym (time_is i ss)) (run_asked ss gs is.0 is.1 i lt)))
