-- A shutter: its value is strictly between 0 and 1 and never moves; it may jump to an unsafe location at any time.
use Rattle.std.specs.Prelude.{List, [], ◌∷◌, pos, negsuc, true, false, Some, None, codes}
use Rattle.poly_specs.specs.Fractions.{zero_fraction}
use Rattle.poly_specs.specs.Rows.{Row, over}
use Rattle.run_specs.specs.Automaton.{Automaton}
use Rattle.run_specs.specs.Runs.{Run}
use Rattle.example_specs.specs.Literals.{row, keeps_value}

-- flow x in [0, 0]
abbrev pub resting : List Row
resting = row (pos 1 ∷ pos 0 ∷ []) (pos 0) ∷ row (negsuc 0 ∷ pos 0 ∷ []) (pos 0) ∷ []

-- x > 0, x < 1
abbrev pub strictly_inside : List Row
strictly_inside = record { coef = negsuc 0 ∷ []; cst = pos 0; strict = true } ∷ record { coef = pos 1 ∷ []; cst = negsuc 0; strict = true } ∷ []

-- two locations that both rest; a run starts in the first, strictly inside
abbrev pub shutter : Automaton
shutter = record {
  name = codes "S";
  variables = codes "x" ∷ [];
  obs = zero_fraction ∷ [];
  locations =
      record { name = codes "a"; is_unsafe = false; init = Some strictly_inside; invariant = []; slopes = resting }
      ∷ record { name = codes "b"; is_unsafe = true; init = None; invariant = []; slopes = resting }
      ∷ [];
  transitions = record { label = codes "go"; source = 0; target = 1; relation = keeps_value } ∷ [];
}

-- the run of one gap of length 0 that rests at 1/2 and jumps
abbrev pub half_run : Run
half_run = record {
  start = record { loc = 0; point = over (pos 2) (pos 1 ∷ []) };
  gaps =
      record {
        den = pos 2;
        start_loc = 0;
        start = pos 1 ∷ [];
        moves = record { leg = record { length_of = pos 0; at_end = pos 1 ∷ [] }; transition = 0; after = pos 1 ∷ [] } ∷ [];
        last = record { length_of = pos 0; at_end = pos 1 ∷ [] };
      }
      ∷ [];
}

-- the run of one gap of length 0 that rests at 1/3
abbrev pub third_run : Run
third_run = record {
  start = record { loc = 0; point = over (pos 3) (pos 1 ∷ []) };
  gaps =
      record { den = pos 3; start_loc = 0; start = pos 1 ∷ []; moves = []; last = record { length_of = pos 0; at_end = pos 1 ∷ [] } } ∷ [];
}
