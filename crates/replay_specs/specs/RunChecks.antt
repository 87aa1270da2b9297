-- The checks of a run that was read: steps in order, of which the first that does not hold decides.
use Rattle.std.specs.Prelude.{◌≡◌, ◌⊎◌, ℕ, zero, suc, ◌+◌, ◌<◌, ◌≤◌, Bool, true, false, List, [], ◌∷◌, ◌++◌, All, length, take, ℤ, pos, ◌+ℤ◌, ◌≤ℤ◌, ◌<ℤ◌, int_lt, Option, Some, None, Result, Ok, Err, ⊤, slice_index_or}
use Rattle.poly_specs.specs.Lists.{minus}
use Rattle.poly_specs.specs.Fractions.{Fraction, SameFraction, DifferAtMost, zero_fraction, difference}
use Rattle.poly_specs.specs.Bits.{FitsBits, SomePasses, NonePasses}
use Rattle.poly_specs.specs.Rows.{Point, Row, Holds, SamePoint, coordinate, over}
use Rattle.poly_specs.specs.Evaluation.{eval_numbers}
use Rattle.replay_specs.specs.declared.checks.Stop.{Stop}
use Rattle.replay_specs.specs.declared.checks.Stop.TheVariants.{Fails, Passes}
use Rattle.run_specs.specs.Automaton.{Automaton, Location, width, location_at, transition_at, tolerance_at}
use Rattle.run_specs.specs.Logs.{Sample, cell_at}
use Rattle.run_specs.specs.Runs.{Leg, Move, GapRun, Run, IsRun, end_loc, path_of, start_point, end_point, total}
use Rattle.run_specs.specs.Stages.{near_sums}

-- ---- steps

-- a step: the numbers that it forms, and what it asks then
pub record Step : Type 1 where
  pub numbers : List ℤ
  pub asked : Type 0

-- a step that forms no number
abbrev pub asks : Type 0 → Step
asks claim = record { numbers = []; asked = claim }

-- what the steps answer: the first of which a number passes 128 bits, or that asks what is not so, decides
abbrev pub Answers : List Step → Result ⊤ Stop → Type 0
Answers [] x = x ≡ Ok tt
Answers (s ∷ ss) x =
    (SomePasses s.numbers × (x ≡ Err Passes))
    ⊎ (NonePasses s.numbers × (((s.asked → ⊥) × (x ≡ Err Fails)) ⊎ (s.asked × Answers ss x)))

-- ---- the steps of the parts of a gap

-- the rows at these numbers over d, in order
abbrev pub row_steps : List Row → ℤ → List ℤ → List Step
row_steps [] d ns = []
row_steps (r ∷ rows) d ns = record { numbers = eval_numbers r ns d; asked = Holds r (over d ns) } ∷ row_steps rows d ns

-- of a leg that lasts, all differences by variable are formed, and then the slopes hold; else its ends are equal
abbrev pub slope_steps : Bool → List Row → ℤ → List ℤ → Leg → List Step
slope_steps true slopes d p leg =
    record { numbers = minus leg.at_end p; asked = ⊤ } ∷ row_steps slopes d (minus leg.at_end p ++ leg.length_of ∷ [])
slope_steps false slopes d p leg = asks (leg.at_end ≡ p) ∷ []

-- a leg from p: its length, the invariant at its start and at its end, its slopes
unfoldable pub leg_steps : Location → ℤ → List ℤ → Leg → List Step
leg_steps loc d p leg =
    asks (pos 0 ≤ℤ leg.length_of)
    ∷ (row_steps loc.invariant d p
    ++ (row_steps loc.invariant d leg.at_end ++ slope_steps (int_lt (pos 0) leg.length_of) loc.slopes d p leg))

-- the jump after a leg in location l: it leaves this location, its rows, the target's invariant
unfoldable pub jump_steps : Automaton → ℕ → ℤ → Move → List Step
jump_steps a l d m =
    asks ((transition_at a m.transition).source ≡ l)
    ∷ (row_steps (transition_at a m.transition).relation d (m.leg.at_end ++ m.after)
    ++ row_steps (location_at a (transition_at a m.transition).target).invariant d m.after)

-- from location l and the values p, each leg and jump in order, and then the last leg
abbrev pub path_steps : Automaton → ℤ → ℕ → List ℤ → List Move → Leg → List Step
path_steps a d l p [] last = leg_steps (location_at a l) d p last
path_steps a d l p (m ∷ ms) last =
    leg_steps (location_at a l) d p m.leg
    ++ (jump_steps a l d m ++ path_steps a d (transition_at a m.transition).target m.after ms last)

-- the partial sums of the lengths, after this one
abbrev pub sums_from : ℤ → List Move → Leg → List ℤ
sums_from so_far [] last = (so_far +ℤ last.length_of) ∷ []
sums_from so_far (m ∷ ms) last = (so_far +ℤ m.leg.length_of) ∷ sums_from (so_far +ℤ m.leg.length_of) ms last

-- the value x is within the tolerance w of what is observed
abbrev pub IsNear : Fraction → Option Fraction → Fraction → Type 0
IsNear w cell x = (v : Fraction) → cell ≡ Some v → DifferAtMost w v x

-- the step of a variable: the sum and the difference of what is observed with the tolerance, and then that its value is near
unfoldable pub value_steps : Fraction → Option Fraction → Fraction → List Step
value_steps w cell x = record { numbers = near_sums w cell; asked = IsNear w cell x } ∷ []

-- those of the first n variables, in order
abbrev pub near_steps : Automaton → List (Option Fraction) → Point → ℕ → List Step
near_steps a cells p zero = []
near_steps a cells p (suc n) = near_steps a cells p n ++ value_steps (tolerance_at a n) (cell_at n cells) (coordinate n p)

-- ---- the steps of a gap

-- a move with as many values as variables, and a transition of the automaton
pub record IsMoveInRange (a : Automaton) (m : Move) : Type 0 where
  pub at_end : length m.leg.at_end ≡ width a
  pub transition : m.transition < length a.transitions
  pub after : length m.after ≡ width a

-- sizes and numbers are in range
pub record IsInRange (a : Automaton) (g : GapRun) : Type 0 where
  pub positive : pos 0 <ℤ g.den
  pub start_loc : g.start_loc < length a.locations
  pub start : length g.start ≡ width a
  pub moves : All (IsMoveInRange a) g.moves
  pub last : length g.last.at_end ≡ width a

-- a start location has init rows, and they hold
abbrev pub start_steps : Option (List Row) → GapRun → List Step
start_steps None g = asks ⊥ ∷ []
start_steps (Some rows) g = row_steps rows g.den g.start

-- the first gap begins at a start; a later one in the location and at the point where the gap before it ends
abbrev pub join_steps : Automaton → Option GapRun → GapRun → List Step
join_steps a None g = start_steps (location_at a g.start_loc).init g
join_steps a (Some before) g =
    asks (g.start_loc ≡ end_loc a before.start_loc (path_of before)) ∷ asks (SamePoint (start_point g) (end_point before)) ∷ []

-- the lengths add up to this one
unfoldable pub length_steps : Fraction → GapRun → List Step
length_steps duration g =
    record {
      numbers = sums_from (pos 0) g.moves g.last;
      asked = SameFraction (record { num = total g.moves g.last; den = g.den }) duration;
    }
    ∷ []

-- a gap after this one, if there is one, and after time t: its range and at most k moves, the join, each leg and jump, its length, its sample
unfoldable pub gap_steps : Automaton → ℕ → Option GapRun → Fraction → Sample → GapRun → List Step
gap_steps a k before t s g =
    asks (IsInRange a g × (length g.moves ≤ k))
    ∷ (join_steps a before g
    ++ (path_steps a g.den g.start_loc g.start g.moves g.last
    ++ (length_steps (difference s.time t) g ++ near_steps a s.cells (end_point g) (width a))))

-- ---- the gaps of a run, from 0

-- past the last gap
abbrev pub no_gap : GapRun
no_gap = record { den = pos 1; start_loc = 0; start = []; moves = []; last = record { length_of = pos 0; at_end = [] } }

-- past the last sample
abbrev pub no_sample : Sample
no_sample = record { time = zero_fraction; cells = [] }

-- gap i
abbrev pub gap_at : ℕ → List GapRun → GapRun
gap_at i gaps = slice_index_or gaps i no_gap

-- sample i
abbrev pub sample_at : ℕ → List Sample → Sample
sample_at i samples = slice_index_or samples i no_sample

-- the gap before gap i
abbrev pub gap_before : ℕ → List GapRun → Option GapRun
gap_before zero gaps = None
gap_before (suc i) gaps = Some (gap_at i gaps)

-- the time before gap i
abbrev pub time_before : ℕ → List Sample → Fraction
time_before zero samples = zero_fraction
time_before (suc i) samples = (sample_at i samples).time

-- what the check of gap i answers
abbrev pub GapAnswers : Automaton → ℕ → List Sample → List GapRun → ℕ → Result ⊤ Stop → Type 0
GapAnswers a k samples gaps i x =
    Answers (gap_steps a k (gap_before i gaps) (time_before i samples) (sample_at i samples) (gap_at i gaps)) x

-- gap i is the first that does not hold
pub record StopsAt (a : Automaton) (k : ℕ) (samples : List Sample) (gaps : List GapRun) (i : ℕ) (how : Stop) : Type 0 where
  pub inside : i < length gaps
  pub before : (j : ℕ) → j < i → GapAnswers a k samples gaps j (Ok tt)
  pub stops : GapAnswers a k samples gaps i (Err how)

-- ---- the run of a log's first samples

-- from the start of the first gap
abbrev pub run_of : List GapRun → Run
run_of gaps = record { start = record { loc = (gap_at 0 gaps).start_loc; point = start_point (gap_at 0 gaps) }; gaps = gaps }

-- at least one gap, and no more than samples
abbrev pub HasCount : List Sample → List GapRun → Type 0
HasCount samples gaps = (1 ≤ length gaps) × (length gaps ≤ length samples)

-- the gaps are a run of the log's first samples, one for each
abbrev pub IsRunOf : Automaton → ℕ → List Sample → List GapRun → Type 0
IsRunOf a k samples gaps = HasCount samples gaps × IsRun a k (take (length gaps) samples) (run_of gaps)

-- the place that is told: the number of the first gap that does not hold, from 1; 0 of a run, and of the wrong count of gaps
abbrev pub IsPlace : Automaton → ℕ → List Sample → List GapRun → ℕ → Type 0
IsPlace a k samples gaps place =
    ((place ≡ 0) × (IsRunOf a k samples gaps ⊎ (HasCount samples gaps → ⊥)))
    ⊎ (HasCount samples gaps × ((i : ℕ) × (place ≡ i + 1) × StopsAt a k samples gaps i Fails))

-- the check of the gap of this number, from 1, passes, and it is the first that does not hold
abbrev pub PassesAt : Automaton → ℕ → List Sample → List GapRun → ℕ → Type 0
PassesAt a k samples gaps place =
    HasCount samples gaps × ((i : ℕ) × (place ≡ i + 1) × StopsAt a k samples gaps i Passes)

-- ---- numbers that are not the least of their type

pub record IsKeptLeg (leg : Leg) : Type 0 where
  pub length_fits : FitsBits leg.length_of
  pub end_fits : All FitsBits leg.at_end

pub record IsKeptMove (m : Move) : Type 0 where
  pub leg : IsKeptLeg m.leg
  pub after_fits : All FitsBits m.after

pub record IsKeptGap (g : GapRun) : Type 0 where
  pub start_fits : All FitsBits g.start
  pub moves : All IsKeptMove g.moves
  pub last : IsKeptLeg g.last
