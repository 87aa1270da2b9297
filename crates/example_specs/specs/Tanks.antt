-- A tank: its level rises from 0 at a slope of at most 2, and from 8 on it may be in an unsafe location.
use Rattle.std.specs.Prelude.{ℕ, List, [], ◌∷◌, pos, negsuc, true, false, Some, None, codes}
use Rattle.poly_specs.specs.Fractions.{Fraction, zero_fraction}
use Rattle.poly_specs.specs.Rows.{over}
use Rattle.run_specs.specs.Automaton.{Location, Transition, Automaton}
use Rattle.run_specs.specs.Logs.{Sample}
use Rattle.run_specs.specs.Runs.{Leg, Move, GapRun, Run}
use Rattle.example_specs.specs.Literals.{whole, row, keeps_value, observes}

-- init x = 0, inv x <= 10, flow x in [-1, 2]
abbrev pub normal : Location
normal = record {
  name = codes "normal";
  is_unsafe = false;
  init = Some (row (pos 1 ∷ []) (pos 0) ∷ row (negsuc 0 ∷ []) (pos 0) ∷ []);
  invariant = row (pos 1 ∷ []) (negsuc 9) ∷ [];
  slopes = row (pos 1 ∷ negsuc 1 ∷ []) (pos 0) ∷ row (negsuc 0 ∷ negsuc 0 ∷ []) (pos 0) ∷ [];
}

-- unsafe, inv x >= 8, flow x in [-1, 1]
abbrev pub high : Location
high = record {
  name = codes "high";
  is_unsafe = true;
  init = None;
  invariant = row (negsuc 0 ∷ []) (pos 8) ∷ [];
  slopes = row (pos 1 ∷ negsuc 0 ∷ []) (pos 0) ∷ row (negsuc 0 ∷ negsuc 0 ∷ []) (pos 0) ∷ [];
}

-- from normal to high when x >= 8
abbrev pub up : Transition
up = record { label = codes "up"; source = 0; target = 1; relation = row (negsuc 0 ∷ pos 0 ∷ []) (pos 8) ∷ keeps_value }

-- from high to normal when x <= 9
abbrev pub down : Transition
down = record { label = codes "down"; source = 1; target = 0; relation = row (pos 1 ∷ pos 0 ∷ []) (negsuc 8) ∷ keeps_value }

-- the tank with this tolerance
abbrev pub tank_within : Fraction → Automaton
tank_within w = record {
  name = codes "T";
  variables = codes "x" ∷ [];
  obs = w ∷ [];
  locations = normal ∷ high ∷ [];
  transitions = up ∷ down ∷ [];
}

-- the tank, observed exactly
abbrev pub tank : Automaton
tank = tank_within zero_fraction

-- ---- runs from the value 0, over the denominator 1

-- a leg of length t to x
abbrev pub leg : ℕ → ℕ → Leg
leg t x = record { length_of = pos t; at_end = pos x ∷ [] }

-- such a leg, and a jump after it
abbrev pub move : ℕ → ℕ → ℕ → Move
move t x e = record { leg = leg t x; transition = e; after = pos x ∷ [] }

-- a gap from x in location l
abbrev pub gap_from : ℕ → ℕ → List Move → Leg → GapRun
gap_from l x moves last = record { den = pos 1; start_loc = l; start = pos x ∷ []; moves = moves; last = last }

-- a run that starts in the first location, at 0
abbrev pub run_of : List GapRun → Run
run_of gaps = record { start = record { loc = 0; point = over (pos 1) (pos 0 ∷ []) }; gaps = gaps }

-- ---- logs and their runs

-- the value 0 at time 0, and 8 at time 4
abbrev pub rising : List Sample
rising = observes (whole 0) (whole 0) ∷ observes (whole 4) (whole 8) ∷ []

-- the run that is high at the last sample's time
abbrev pub rising_run : Run
rising_run = run_of (gap_from 0 0 [] (leg 0 0) ∷ gap_from 0 0 (move 4 8 0 ∷ []) (leg 0 8) ∷ [])

-- the value 0 at time 0, and 3 at time 1
abbrev pub steep : List Sample
steep = observes (whole 0) (whole 0) ∷ observes (whole 1) (whole 3) ∷ []

-- the value 8 at time 4 and at time 5
abbrev pub level : List Sample
level = observes (whole 4) (whole 8) ∷ observes (whole 5) (whole 8) ∷ []

-- the jump up at time 4, at the end of the first gap
abbrev pub jumps_early : Run
jumps_early = run_of (gap_from 0 0 (move 4 8 0 ∷ []) (leg 0 8) ∷ gap_from 1 8 [] (leg 1 8) ∷ [])

-- the jump up at time 4, at the start of the second gap
abbrev pub jumps_late : Run
jumps_late = run_of (gap_from 0 0 [] (leg 4 8) ∷ gap_from 0 8 (move 0 8 0 ∷ []) (leg 1 8) ∷ [])

-- up in the first gap, and down in the second
abbrev pub one_in_each : Run
one_in_each = run_of (gap_from 0 0 (move 4 8 0 ∷ []) (leg 0 8) ∷ gap_from 1 8 (move 0 8 1 ∷ []) (leg 1 8) ∷ [])

-- up and down in the second gap
abbrev pub two_in_one : Run
two_in_one = run_of (gap_from 0 0 [] (leg 4 8) ∷ gap_from 0 8 (move 0 8 0 ∷ move 0 8 1 ∷ []) (leg 1 8) ∷ [])
