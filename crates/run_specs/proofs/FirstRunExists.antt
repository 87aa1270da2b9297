-- Where some run of a log meets an aim, there is a first one.
use Rattle.std.proofs.Common.{◌≡◌, ◌⊎◌, inl, inr, ℕ, suc, ◌+◌, ◌<◌, ◌≤◌, Bool, true, false, List, [], ◌∷◌, ◌++◌, length, take, map, get_or, Some, None, refl, sym, ◌∙◌, ap, subst, arith, ℤ, pos, ◌*ℤ◌, ◌<ℤ◌}
use Rattle.std.specs.Prelude.{All, IfSome, IsSomeAnd}
use Rattle.std.specs.List.{AllZip, list_any}
use Rattle.std.proofs.lemmas.Bool.{cases_lt, cases_Bool}
use Rattle.std.proofs.lemmas.List.{get_or_past, get_or-map, length-map}
use Rattle.std.proofs.lemmas.List.Elements.{All-nil, All-cons, All-head, All-tail}
use Rattle.std.proofs.lemmas.List.Folds.{Any-from_list_any, list_any-from_Any}
use Rattle.poly_specs.proofs.IntLemmas.{products, same_cancel}
use Rattle.poly_specs.proofs.PickLemmas.{pick-alike}
use Rattle.poly_specs.proofs.PickingLemmas.{point_or_none, some_numbers}
use Rattle.run_specs.proofs.MixLemmas.{transitions}
use Rattle.run_specs.proofs.MixRuns.{runs_alike}
use Rattle.run_specs.proofs.PickedLemmas.{AllFractions, fraction_at, length-fractions, picked_numbers, left_interval}
use Rattle.run_specs.proofs.LeastHistories.{IsWithin, least_history}
use Rattle.run_specs.proofs.SystemLemmas.{IsSystem, both, taken, of_rows, nowhere_holds}
use Rattle.run_specs.proofs.HistorySystems.{AreCells, HistoryHolds, columns, gaps_columns, path_columns, history_system}
use Rattle.run_specs.proofs.RunNumbers.{run_numbers, numbers_run, reduced_run, visits_same}
use Rattle.run_specs.proofs.AimLemmas.{some_gap, gaps_end, ends_numbers, zip_equal, zip_back}
use Rattle.run_specs.proofs.PickedValues.{pick-same, zip_long, zip_at, zip_at_take, zip_take}
use Rattle.poly_specs.specs.Lists.{In}
use Rattle.poly_specs.specs.Fractions.{Fraction, IsFraction, SameFraction, fractions, zero_fraction}
use Rattle.poly_specs.specs.LowestTerms.{IsLowest}
use Rattle.poly_specs.specs.Rows.{Point, over, coordinate, AllHold}
use Rattle.poly_specs.specs.Bounds.{IsPoint}
use Rattle.poly_specs.specs.Picks.{IsPick}
use Rattle.poly_specs.specs.Pickings.{Picking, IsOpen, ArePicked}
use Rattle.run_specs.specs.Automaton.{Automaton, Transition, nowhere, no_transition, width, transition_at, tolerance_at}
use Rattle.run_specs.specs.WellFormed.{IsWellFormed}
use Rattle.run_specs.specs.Logs.{Sample, IsSample, IsLog, cell_at}
use Rattle.run_specs.specs.Runs.{Leg, Move, GapRun, Place, Run, LeadOn, Follows, IsStart, IsRun, path_of, end_of, goes_unsafe}
use Rattle.run_specs.specs.Histories.{History, history_of, IsEarlier}
use Rattle.run_specs.specs.Aims.{Aim, EndsWhere, IsAimedRun}
use Rattle.run_specs.specs.FirstRun.{picked, pick_at, IsLeft, IsReduced, IsFirstRun}

-- two fractions that equal a third are equal
pub same-through : (x y z : Fraction) → IsFraction y → SameFraction x y → SameFraction y z → SameFraction x z
same-through x y z hy e f =
    let c : y.den *ℤ (x.num *ℤ z.den) ≡ y.den *ℤ (z.num *ℤ x.den) = omega (arith, products, ap (λ n. n *ℤ z.den) e, ap (λ n. n *ℤ x.den) f) in
    same_cancel y.den (x.num *ℤ z.den) (z.num *ℤ x.den) hy c

-- ---- the samples of a log

pub all_in : {A : Type 0} (P : A → Type 0) (xs : List A) → All P xs → (x : A) → In x xs → P x
all_in P [] h x i = absurd i
all_in P (y ∷ xs) h x (inl e) = subst P (sym e) (All-head P y xs h)
all_in P (y ∷ xs) h x (inr i) = all_in P xs (All-tail P y xs h) x i

pub cells_are : (a : Automaton) (log : List Sample) → IsWellFormed a → IsLog (width a) log → (s : Sample) → In s log → AreCells a s.cells
cells_are a log wf is s i =
    let sample : IsSample (width a) s = all_in (IsSample (width a)) log is.each s i in
    record { tolerances = tolerance; values = value sample; sized = sample.sized }
  where
    tolerance : (j : ℕ) → IsFraction (tolerance_at a j)
    tolerance j = elim (cases_lt j (length a.obs)) [
      | inl lt ↦ (wf.tolerances.1 j zero_fraction lt).0.positive
      | inr ge ↦ subst IsFraction (sym (get_or_past a.obs j zero_fraction ge)) (record { lt = tt })
    ]

    value : IsSample (width a) s → (j : ℕ) (x : Fraction) → cell_at j s.cells ≡ Some x → IsFraction x
    value sample j x e = elim (cases_lt j (length s.cells)) [
      | inl lt ↦ (let h = sample.cells j None lt in let g = subst (λ cell. IfSome cell IsLowest) e h in g.positive)
      | inr ge ↦ absurd (let n = get_or_past s.cells j None ge in let b : ⊥ = cc in b)
    ]

some_sample : (a : Automaton) (k : ℕ) (before : Place) (t : Fraction) (log : List Sample) (gs : List GapRun) → (gs ≡ [] → ⊥) → Follows a k before t log gs → log ≡ [] → ⊥
some_sample a k before t [] [] some h none = some refl
some_sample a k before t [] (g ∷ gs) some h none = h
some_sample a k before t (s ∷ ss) gs some h none = let b : ⊥ = cc in b

-- ---- the histories of runs are within limits

path_within : (a : Automaton) (d : ℤ) (l : ℕ) (p : List ℤ) (ms : List Move) (f : Leg) → pos 0 <ℤ d → LeadOn a d l p ms f → All (λ e. e < length a.transitions) (transitions ms)
path_within a d l p [] f hd h = All-nil (λ e. e < length a.transitions)
path_within a d l p (y ∷ ms) f hd h =
    All-cons (λ e. e < length a.transitions) y.transition (transitions ms) here (path_within a d (transition_at a y.transition).target y.after ms f hd h.3)
  where
    here : y.transition < length a.transitions
    here = elim (cases_lt y.transition (length a.transitions)) [
      | inl lt ↦ lt
      | inr ge ↦ absurd (nowhere_holds d (y.leg.at_end ++ y.after) hd
          (subst (λ (x : Transition). AllHold x.relation (over d (y.leg.at_end ++ y.after))) (get_or_past a.transitions y.transition no_transition ge) h.2.related))
    ]

-- a path within the limits
abbrev IsShort : Automaton → ℕ → List ℕ → Type 0
IsShort a k path = (length path ≤ k) × All (λ e. e < length a.transitions) path

gaps_within : (a : Automaton) (k : ℕ) (before : Place) (t : Fraction) (ss : List Sample) (gs : List GapRun) → Follows a k before t ss gs →
    (length (map path_of gs) ≡ length ss) × All (IsShort a k) (map path_of gs)
gaps_within a k before t [] [] h = (refl, All-nil (IsShort a k))
gaps_within a k before t [] (g ∷ gs) h = absurd h
gaps_within a k before t (s ∷ ss) [] h = absurd h
gaps_within a k before t (s ∷ ss) (g ∷ gs) h =
    let r = gaps_within a k (end_of a g) s.time ss gs h.1 in
    let few : length (path_of g) ≤ k = omega (arith, h.0.few, length-map g.moves (λ m. m.transition)) in (
      ap suc r.0,
      All-cons (IsShort a k) (path_of g) (map path_of gs) (few, path_within a g.den g.start_loc g.start g.moves g.last h.0.gap_run.positive h.0.gap_run.leads) r.1,
    )

start_within : (a : Automaton) (start : Place) → IsStart a start → start.loc < length a.locations
start_within a start is = elim (cases_lt start.loc (length a.locations)) [
  | inl lt ↦ lt
  | inr ge ↦ absurd (subst (λ loc. IsSomeAnd loc.init (λ init. AllHold init start.point)) (get_or_past a.locations start.loc nowhere ge) is.allowed)
]

within : (a : Automaton) (k : ℕ) (log : List Sample) (run : Run) → IsRun a k log run → IsWithin (length a.locations) (length a.transitions) k (length log) (history_of run)
within a k log run is =
    let g = gaps_within a k run.start zero_fraction log run.gaps is.follows in
    record { start = start_within a run.start is.starts; one_for_each_gap = g.0; few = g.1 }

-- ---- the points of a history and its runs

-- an automaton, and a log that is not empty
record Setting (a : Automaton) (k : ℕ) (log : List Sample) : Type 0 where
  well_formed : IsWellFormed a
  cells : (s : Sample) → In s log → AreCells a s.cells
  some : log ≡ [] → ⊥

-- a run that meets the aim has this history
abbrev HasAimed : Automaton → ℕ → List Sample → Aim → History → Type 0
HasAimed a k log aim h = (run : Run) × IsAimedRun a k log aim run × (history_of run ≡ h)

-- there are at least as many numbers as variables
path_wide : (m : ℕ) (path : List ℕ) (n : ℕ) → m ≤ n → m ≤ path_columns m path n
path_wide m [] n h = omega (arith, h)
path_wide m (e ∷ path) n h = path_wide m path (m + (suc m + n)) (omega arith)

gaps_wide : (m : ℕ) (paths : List (List ℕ)) (n : ℕ) → m ≤ n → m ≤ gaps_columns m paths n
gaps_wide m [] n h = h
gaps_wide m (path ∷ paths) n h = gaps_wide m paths (path_columns m path n) (path_wide m path n h)

module _ (a : Automaton) (k : ℕ) (log : List Sample) (aim : Aim) (at : Setting a k log) (h : History) where
  -- the aim's rows hold at the last values, which are the first of the numbers
  abbrev LastHold : ℤ → List ℤ → Type 0
  LastHold d ns = AllHold aim.rows (over d (take (width a) ns))

  -- the numbers of the runs of this history whose last values meet the aim
  system : IsSystem (columns a h) (λ d ns. HistoryHolds a k log h d ns × LastHold d ns)
  system =
      both (columns a h) (HistoryHolds a k log h) LastHold (history_system a k log h at.well_formed.each_location at.cells)
      (taken (width a) (λ d ns. AllHold aim.rows (over d ns)) (columns a h) (gaps_wide (width a) h.paths (width a) (omega arith)) (of_rows (width a) aim.rows))

  -- a run of the history with these numbers, whose last values meet the aim
  record PointRun (q : Point) : Type 0 where
    run : Run
    is : IsRun a k log run
    history : history_of run ≡ h
    picks : picked run ≡ fractions q.den q.num
    ends : EndsWhere aim.rows run.gaps

  -- where a run's numbers are those of a point of the system, its last values meet the aim
  ends_there : (run : Run) (q : Point) → IsRun a k log run → IsPoint (columns a h) (system.rows) q → AllZip SameFraction (picked run) (fractions q.den q.num) → EndsWhere aim.rows run.gaps
  ends_there run q is point same =
      let here : LastHold q.den q.num = ((system.exact q.den q.num point.positive point.sized).0 point.holds).1 in
      (ends_numbers a k log run aim.rows q.den q.num (some_gap a k run.start zero_fraction log run.gaps at.some is.follows) is point.positive same).1 here

  from_point : (q : Point) → IsPoint (columns a h) (system.rows) q → PointRun q
  from_point q is =
      let holds = (system.exact q.den q.num is.positive is.sized).0 is.holds in
      let r = numbers_run a k log h q.den q.num at.some is.positive is.sized holds.0 in
      record { run = r.run; is = r.is; history = r.history; picks = r.picks; ends = ends_there r.run q r.is is (zip_equal (picked r.run) (fractions q.den q.num) r.picks) }

  -- the numbers of a run, as a point of the system
  record RunPoint (run : Run) : Type 0 where
    point : Point
    is : IsPoint (columns a h) (system.rows) point
    same : AllZip SameFraction (picked run) (fractions point.den point.num)

  to_point : (run : Run) → IsAimedRun a k log aim run → history_of run ≡ h → RunPoint run
  to_point run aimed e =
      let some = some_gap a k run.start zero_fraction log run.gaps at.some aimed.run_of.follows in
      let n = run_numbers a k log run at.well_formed.each_location at.cells some aimed.run_of in
      let long : length n.numbers ≡ columns a h = n.long ∙ ap (columns a) e in
      let ends = (ends_numbers a k log run aim.rows n.den n.numbers some aimed.run_of n.positive n.same).0 aimed.meets.ends in
      record {
        point = over n.den n.numbers;
        is = record {
          positive = n.positive;
          sized = long;
          holds = (system.exact n.den n.numbers n.positive long).1 (subst (λ x. HistoryHolds a k log x n.den n.numbers) e n.holds, ends);
        };
        same = n.same;
      }

  -- a run meets the aim if its last values do, and a run of the same history visits what the aim asks for
  aimed_like : (run other : Run) → IsAimedRun a k log aim run → history_of run ≡ history_of other → IsRun a k log other → EndsWhere aim.rows other.gaps → IsAimedRun a k log aim other
  aimed_like run other aimed e is ends =
      record { run_of = is; meets = record { visits = λ t. visits_same a k log run other e aimed.run_of is (aimed.meets.visits t); ends = ends } }

  aimed_or_none : HasAimed a k log aim h ⊎ (HasAimed a k log aim h → ⊥)
  aimed_or_none = elim (point_or_none (columns a h) (system.rows) (system.wide)) [
    | inr none ↦ inr (λ x. let p = to_point x.0 x.1 x.2 in none (p.point, p.is.positive, p.is.sized, p.is.holds))
    | inl x ↦ (
        let r = from_point x.0 (record { positive = x.1; sized = x.2; holds = x.3 }) in
        visited r.run r.is r.history r.ends aim.alarm refl)
  ]
    where
      visited : (run : Run) → IsRun a k log run → history_of run ≡ h → EndsWhere aim.rows run.gaps → (b : Bool) → aim.alarm ≡ b → HasAimed a k log aim h ⊎ (HasAimed a k log aim h → ⊥)
      visited run is e ends false f = inl (run, record { run_of = is; meets = record { visits = λ t. absurd (let b : ⊥ = cc in b); ends = ends } }, e)
      visited run is e ends true f = elim (cases_Bool (list_any (λ g. goes_unsafe a g.start_loc (path_of g)) run.gaps)) [
        | inl goes ↦ inl (run, record { run_of = is; meets = record { visits = λ t. Any-from_list_any (λ g. goes_unsafe a g.start_loc (path_of g)) run.gaps goes; ends = ends } }, e)
        | inr stays ↦ inr (λ x.
            let visits = visits_same a k log x.0 run (x.2 ∙ sym e) x.1.run_of is (x.1.meets.visits f) in
            let goes = list_any-from_Any (λ g. goes_unsafe a g.start_loc (path_of g)) run.gaps visits in
            let b : ⊥ = cc in b)
      ]

  -- ---- what is left for a number of a run, and what is open in the system

  -- a run of the history whose numbers are those of the list
  record IsPickedRun (run : Run) (fs : List Fraction) : Type 0 where
    aimed : IsAimedRun a k log aim run
    history : history_of run ≡ h
    sized : length fs ≡ columns a h
    long : length (picked run) ≡ columns a h
    fractions : All IsFraction fs
    same : (j : ℕ) → j < columns a h → SameFraction (pick_at j run) (get_or fs j zero_fraction)

  -- the picking of all numbers from the system
  abbrev picking : List Fraction → Picking
  picking fs = record { rows = system.rows; first = 0; numbers = fs }

  coordinate_at : (q : Point) (j : ℕ) → j < length q.num → get_or (fractions q.den q.num) j zero_fraction ≡ coordinate j q
  coordinate_at q j lt = get_or-map (λ n. record { num = n; den = q.den }) q.num j (pos 0) zero_fraction lt

  left_from_open : (run : Run) (fs : List Fraction) (i : ℕ) (v : Fraction) → IsPickedRun run fs → i < columns a h → IsOpen (picking fs) i v → IsLeft a k log aim run i v
  left_from_open run fs i v is hi (q, t) =
      let point : IsPoint (columns a h) (system.rows) q = subst (λ n. IsPoint n (system.rows) q) is.sized t.point in
      let r = from_point q point in
      let there : (j : ℕ) → j < columns a h → pick_at j r.run ≡ coordinate j q =
      λ j hj. ap (λ ns. get_or ns j zero_fraction) r.picks ∙ coordinate_at q j (subst (λ n. j < n) (sym point.sized) hj) in
      let long : length (picked r.run) ≡ columns a h = ap length r.picks ∙ length-fractions q.den q.num ∙ point.sized in (
        r.run,
        record {
          aimed = aimed_like run r.run is.aimed (is.history ∙ sym r.history) r.is r.ends;
          same_history = r.history ∙ sym is.history;
          same_numbers = zip_take i (picked r.run) (picked run) (long ∙ sym is.long) (λ j hj lt.
              let jn : j < columns a h = omega (arith, hj, hi) in
              subst (λ x. SameFraction x (pick_at j run)) (sym (there j jn))
              (same-through (coordinate j q) (get_or fs j zero_fraction) (pick_at j run) (is.fractions j zero_fraction (subst (λ n. j < n) (sym is.sized) jn)) (t.agrees j hj) (sym (is.same j jn))));
          value = subst (λ x. SameFraction x v) (sym (there i hi)) t.value;
        },
      )

  open_from_left : (run : Run) (fs : List Fraction) (i : ℕ) (v : Fraction) → IsPickedRun run fs → i < columns a h → IsLeft a k log aim run i v → IsOpen (picking fs) i v
  open_from_left run fs i v is hi (other, t) =
      let p = to_point other t.aimed (t.same_history ∙ is.history) in
      let q : Point = p.point in
      let there : (j : ℕ) → j < columns a h → SameFraction (coordinate j q) (pick_at j other) =
      λ j hj. sym (subst (SameFraction (pick_at j other)) (coordinate_at q j (subst (λ n. j < n) (sym p.is.sized) hj)) (zip_at (picked other) (fractions q.den q.num) j p.same)) in
      let positive : (r : Run) (j : ℕ) → IsAimedRun a k log aim r → IsFraction (pick_at j r) = λ r j aimed. fraction_at (picked r) j (are_fractions r aimed) in (
        q,
        record {
          point = subst (λ n. IsPoint n (system.rows) q) (sym is.sized) p.is;
          agrees = λ j hj.
              let jn : j < columns a h = omega (arith, hj, hi) in
              same-through (coordinate j q) (pick_at j other) (get_or fs j zero_fraction) (positive other j t.aimed) (there j jn)
              (same-through (pick_at j other) (pick_at j run) (get_or fs j zero_fraction) (positive run j is.aimed) (zip_at_take i j (picked other) (picked run) hj t.same_numbers) (is.same j jn));
          value = same-through (coordinate i q) (pick_at i other) v (positive other i t.aimed) (there i hi) t.value;
        },
      )
    where
      are_fractions : (r : Run) → IsAimedRun a k log aim r → AllFractions (picked r)
      are_fractions r aimed = (picked_numbers a (pos 1) (pos 1) r r (runs_alike a k log r r refl aimed.run_of aimed.run_of)).first

  -- each number of a run is the pick of what is left for it, where the numbers of the list are picked from the system
  picks_left : (run : Run) (fs : List Fraction) → IsPickedRun run fs → ArePicked (picking fs) → (i : ℕ) → i < length (picked run) → IsPick (IsLeft a k log aim run i) (pick_at i run)
  picks_left run fs is picks i hi =
      let hn : i < columns a h = subst (λ n. i < n) is.long hi in
      let there : IsPick (IsOpen (picking fs) i) (get_or fs i zero_fraction) = picks i (omega arith) (subst (λ n. i < n) (sym is.sized) hn) in
      let left = pick-alike {S = IsOpen (picking fs) i} {T = IsLeft a k log aim run i} (λ v. left_from_open run fs i v is hn) (λ v. open_from_left run fs i v is hn) (get_or fs i zero_fraction) there in
      let positive : IsFraction (pick_at i run) = fraction_at (picked run) i ((picked_numbers a (pos 1) (pos 1) run run (runs_alike a k log run run refl is.aimed.run_of is.aimed.run_of)).first) in
      pick-same (get_or fs i zero_fraction) (pick_at i run) (left_interval a k log aim run i at.well_formed is.aimed hi) positive (sym (is.same i hn)) left

  -- ---- the run that is picked

  record PickedRun : Type 0 where
    run : Run
    aimed : IsAimedRun a k log aim run
    history : history_of run ≡ h
    picks : (i : ℕ) → i < length (picked run) → IsPick (IsLeft a k log aim run i) (pick_at i run)
    reduced : All IsReduced run.gaps

  picked_run : HasAimed a k log aim h → PickedRun
  picked_run (run, aimed, e) =
      let p = to_point run aimed e in
      let s = some_numbers (columns a h) (system.rows) [] p.point (system.wide) (All-nil IsFraction) (omega arith) p.is (λ j lt. absurd (omega arith)) in
      let fs : List Fraction = s.0 in
      let q : Point = s.1 in
      let are = s.2 in
      let r = from_point q are.point in
      let o = reduced_run a k log r.run at.well_formed.each_location at.cells r.is in
      let same : AllZip SameFraction (picked o.reduced) (fractions q.den q.num) =
      subst (AllZip SameFraction (picked o.reduced)) r.picks (zip_back (picked r.run) (picked o.reduced) o.same) in
      let other : IsAimedRun a k log aim o.reduced = aimed_like run o.reduced aimed (e ∙ sym r.history ∙ sym o.history) o.is (ends_there o.reduced q o.is are.point same) in
      let is : IsPickedRun o.reduced fs = record {
        aimed = other;
        history = o.history ∙ r.history;
        sized = are.sized;
        long = sym (zip_long (picked r.run) (picked o.reduced) o.same) ∙ ap length r.picks ∙ length-fractions q.den q.num ∙ are.point.sized;
        fractions = are.fractions;
        same = λ j hj.
            let here : pick_at j r.run ≡ coordinate j q = ap (λ ns. get_or ns j zero_fraction) r.picks ∙ coordinate_at q j (subst (λ n. j < n) (sym are.point.sized) hj) in
            let to : SameFraction (coordinate j q) (pick_at j o.reduced) = subst (λ x. SameFraction x (pick_at j o.reduced)) here (zip_at (picked r.run) (picked o.reduced) j o.same) in
            same-through (pick_at j o.reduced) (coordinate j q) (get_or fs j zero_fraction) are.point.positive (sym to) (are.agrees j hj);
      } in
      record { run = o.reduced; aimed = other; history = is.history; picks = picks_left o.reduced fs is are.picked; reduced = o.gaps }

-- ---- the first run

pub some_first_run : (a : Automaton) (k : ℕ) (log : List Sample) (aim : Aim) (other : Run) → IsWellFormed a → IsLog (width a) log → IsAimedRun a k log aim other →
    (run : Run) × IsFirstRun a k log aim run
some_first_run a k log aim run wf is_log aimed =
    let at : Setting a k log = record {
      well_formed = wf;
      cells = cells_are a log wf is_log;
      some = some_sample a k run.start zero_fraction log run.gaps (gaps_end aim.rows run.gaps aimed.meets.ends) aimed.run_of.follows;
    } in
    let l = least_history (length a.locations) (length a.transitions) k (length log) (HasAimed a k log aim) (λ h w. aimed_or_none a k log aim at h) (history_of run)
    (within a k log run aimed.run_of) (run, aimed, refl) in
    let r = picked_run a k log aim at l.0 l.2 in (
      r.run,
      record {
        aimed = r.aimed;
        earliest = λ other h earlier. l.3 (history_of other) (within a k log other h.run_of) (other, h, refl) (subst (IsEarlier (history_of other)) r.history earlier);
        picks = r.picks;
        reduced = r.reduced;
      },
    )
