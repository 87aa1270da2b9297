-- A value that is 0 and stays there, in an unsafe location.
use Rattle.std.specs.Prelude.{List, [], ◌∷◌, pos, negsuc, true, Some, codes}
use Rattle.poly_specs.specs.Fractions.{Fraction}
use Rattle.poly_specs.specs.Rows.{Row, over}
use Rattle.run_specs.specs.Automaton.{Automaton}
use Rattle.run_specs.specs.Logs.{Sample}
use Rattle.run_specs.specs.Runs.{Run}
use Rattle.example_specs.specs.Literals.{fraction, row, whole, observes}
use Rattle.example_specs.specs.Shutters.{resting}

-- x = 0
abbrev pub at_zero : List Row
at_zero = row (pos 1 ∷ []) (pos 0) ∷ row (negsuc 0 ∷ []) (pos 0) ∷ []

-- one location, in which x rests; a run starts at 0; x is observed within w
abbrev pub fixed : Fraction → Automaton
fixed w = record {
  name = codes "F";
  variables = codes "x" ∷ [];
  obs = w ∷ [];
  locations = record { name = codes "a"; is_unsafe = true; init = Some at_zero; invariant = []; slopes = resting } ∷ [];
  transitions = [];
}

-- at time 0 the value 0 is observed
abbrev pub zero_seen : List Sample
zero_seen = observes (whole 0) (whole 0) ∷ []

-- the run of one gap of length 0 that rests at 0
abbrev pub zero_run : Run
zero_run = record {
  start = record { loc = 0; point = over (pos 1) (pos 0 ∷ []) };
  gaps =
      record { den = pos 1; start_loc = 0; start = pos 0 ∷ []; moves = []; last = record { length_of = pos 0; at_end = pos 0 ∷ [] } } ∷ [];
}

-- a tolerance of 1/999999999
abbrev pub tiny : Fraction
tiny = fraction 1 999999999

-- at time 0 the value 100000000000000.000000000000000001 is observed
abbrev pub huge_seen : List Sample
huge_seen = observes (whole 0) (fraction 100000000000000000000000000000001 1000000000000000000) ∷ []
