-- The last leg of a path together with the sample after it, before any column is eliminated.
use Rattle.std.specs.Prelude.{ℕ, ◌+◌, ◌*◌, List, [], ◌++◌, map}
use Rattle.poly_specs.specs.Rows.{Row, with_coef}
use Rattle.poly_specs.specs.Systems.{System}
use Rattle.run_specs.specs.Automaton.{width}
use Rattle.run_specs.specs.Keys.{Key}
use Rattle.run_specs.specs.Stages.{zeros, leg_rows, sample_rows}

-- a row over the values and the elapsed time, in the columns of a leg: at its end
abbrev pub at_leg_end : ℕ → Row → Row
at_leg_end m r = with_coef (r.coef ++ zeros (m + 1)) r

-- the rows of the key's sample at the end of a leg
abbrev pub sample_at_end : Key → List Row
sample_at_end key = map (at_leg_end (width key.automaton)) (sample_rows key.automaton key.gap key.seen [])

-- the system of a leg in location l from this state, at whose end the gap's length has elapsed and the sample is passed
abbrev pub last_system : Key → ℕ → List Row → System
last_system key l state = record { width = 2 * width key.automaton + 2; rows = leg_rows key.automaton l state ++ sample_at_end key }
