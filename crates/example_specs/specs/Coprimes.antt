-- Two values that rest at 1/100000000000000000000 and 1/100000000000000000001, in an unsafe location: their least common denominator passes 128 bits.
use Rattle.std.specs.Prelude.{List, [], ◌∷◌, pos, negsuc, true, Some, None, codes}
use Rattle.poly_specs.specs.Fractions.{zero_fraction}
use Rattle.poly_specs.specs.Rows.{Row, over}
use Rattle.run_specs.specs.Automaton.{Automaton}
use Rattle.run_specs.specs.Logs.{Sample}
use Rattle.run_specs.specs.Runs.{Run}
use Rattle.example_specs.specs.Literals.{row, whole}

-- 100000000000000000000 * x = 1, 100000000000000000001 * y = 1
abbrev pub coprime_starts : List Row
coprime_starts =
    row (pos 100000000000000000000 ∷ pos 0 ∷ []) (negsuc 0)
    ∷ row (negsuc 99999999999999999999 ∷ pos 0 ∷ []) (pos 1)
    ∷ row (pos 0 ∷ pos 100000000000000000001 ∷ []) (negsuc 0)
    ∷ row (pos 0 ∷ negsuc 100000000000000000000 ∷ []) (pos 1)
    ∷ []

-- flow x in [0, 0], flow y in [0, 0]
abbrev pub both_resting : List Row
both_resting =
    row (pos 1 ∷ pos 0 ∷ pos 0 ∷ []) (pos 0)
    ∷ row (negsuc 0 ∷ pos 0 ∷ pos 0 ∷ []) (pos 0)
    ∷ row (pos 0 ∷ pos 1 ∷ pos 0 ∷ []) (pos 0)
    ∷ row (pos 0 ∷ negsuc 0 ∷ pos 0 ∷ []) (pos 0)
    ∷ []

-- one location, in which both rest
abbrev pub coprimes : Automaton
coprimes = record {
  name = codes "C";
  variables = codes "x" ∷ codes "y" ∷ [];
  obs = zero_fraction ∷ zero_fraction ∷ [];
  locations = record { name = codes "a"; is_unsafe = true; init = Some coprime_starts; invariant = []; slopes = both_resting } ∷ [];
  transitions = [];
}

-- at time 0 nothing is observed
abbrev pub both_blank : Sample
both_blank = record { time = whole 0; cells = None ∷ None ∷ [] }

-- the run of one gap of length 0 that rests there, over the product of the two
abbrev pub coprime_run : Run
coprime_run = record {
  start = record { loc = 0; point = over (pos 10000000000000000000100000000000000000000) (pos 100000000000000000001 ∷ pos 100000000000000000000 ∷ []) };
  gaps =
      record {
        den = pos 10000000000000000000100000000000000000000;
        start_loc = 0;
        start = pos 100000000000000000001 ∷ pos 100000000000000000000 ∷ [];
        moves = [];
        last = record { length_of = pos 0; at_end = pos 100000000000000000001 ∷ pos 100000000000000000000 ∷ [] };
      }
      ∷ [];
}
