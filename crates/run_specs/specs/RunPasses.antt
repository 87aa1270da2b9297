-- When the first run of a log that meets an aim passes 128 bits.
use Rattle.std.specs.Prelude.{◌⊎◌, ℕ, ◌+◌, List, [], ◌∷◌, ◌++◌, map, IsSomeAnd, ℤ, pos, ◌+ℤ◌}
use Rattle.poly_specs.specs.Lists.{In}
use Rattle.poly_specs.specs.Fractions.{Fraction, zero_fraction, fractions, difference}
use Rattle.poly_specs.specs.Rows.{Row}
use Rattle.poly_specs.specs.Bits.{SomePasses}
use Rattle.poly_specs.specs.Denominators.{common_numbers}
use Rattle.poly_specs.specs.Pickings.{Picking, PickPasses}
use Rattle.run_specs.specs.Automaton.{Automaton, width, location_at, transition_at}
use Rattle.run_specs.specs.Logs.{Sample}
use Rattle.run_specs.specs.Runs.{Leg, Move, GapRun, Run, path_of}
use Rattle.run_specs.specs.Stages.{rows_after, gap_start, leg_stage, leg_rows, jump_stage, jump_rows, opening_stage, gap_rows}
use Rattle.run_specs.specs.Passes.{LogPasses, history_rows}
use Rattle.run_specs.specs.Aims.{Aim}
use Rattle.run_specs.specs.FirstRun.{IsFirstRun, backwards, last_values}

-- ---- the pickings of a run

-- those of a gap, over its denominator, from this state in location l after this elapsed time
abbrev pub path_pickings : Automaton → ℤ → ℕ → ℤ → List Row → List ℤ → List Move → Leg → List Picking
path_pickings a d l elapsed state start [] last =
    record {
      rows = leg_rows a l state;
      first = width a + 1;
      numbers = fractions d (last.at_end ++ (elapsed +ℤ last.length_of) ∷ last.length_of ∷ start);
    }
    ∷ []
path_pickings a d l elapsed state start (m ∷ ms) last =
    record {
      rows = leg_rows a l state;
      first = width a + 1;
      numbers = fractions d (m.leg.at_end ++ (elapsed +ℤ m.leg.length_of) ∷ m.leg.length_of ∷ start);
    }
    ∷ record {
      rows = jump_rows a m.transition (rows_after (leg_stage a l state));
      first = width a + 1;
      numbers = fractions d (m.after ++ (elapsed +ℤ m.leg.length_of) ∷ m.leg.at_end);
    }
    ∷ path_pickings a d (transition_at a m.transition).target (elapsed +ℤ m.leg.length_of)
    (rows_after (jump_stage a m.transition (rows_after (leg_stage a l state)))) m.after ms last

-- those of the gaps from these rows and the time t on
abbrev pub gaps_pickings : Automaton → Fraction → List Sample → List Row → List GapRun → List Picking
gaps_pickings a t [] rows gs = []
gaps_pickings a t (s ∷ ss) rows [] = []
gaps_pickings a t (s ∷ ss) rows (g ∷ gs) =
    path_pickings a g.den g.start_loc (pos 0) (gap_start (width a) rows) g.start g.moves g.last
    ++ gaps_pickings a s.time ss (gap_rows a g.start_loc (path_of g) (difference s.time t) s.cells rows) gs

-- that of its last values, from the rows of the last state and then these rows
abbrev pub last_picking : Automaton → List Sample → Run → List Row → List Row → Picking
last_picking a samples run init rows = record {
  rows = history_rows a samples run.start.loc (map path_of run.gaps) init ++ rows;
  first = 0;
  numbers = last_values run.gaps;
}

-- those of the run: of its last values, and of the numbers of its gaps
abbrev pub pickings : Automaton → List Sample → Run → List Row → List Row → List Picking
pickings a samples run init rows =
    last_picking a samples run init rows
    ∷ gaps_pickings a zero_fraction samples (rows_after (opening_stage a run.start.loc init)) run.gaps

-- the numbers of a gap run, as fractions
abbrev pub gap_numbers : GapRun → List Fraction
gap_numbers g = fractions g.den (g.last.at_end ++ backwards g.start g.moves g.last)

-- picking a number of the first run that meets the aim passes, or writing one of its gaps over its least denominator
abbrev pub FirstRunPasses : Automaton → List Sample → Aim → Run → Type 0
FirstRunPasses a samples aim run =
    IsSomeAnd (location_at a run.start.loc).init (λ init. (p : Picking) × In p (pickings a samples run init aim.rows) × PickPasses p)
    ⊎ ((g : GapRun) × In g run.gaps × SomePasses (common_numbers (gap_numbers g)))

-- the log passes, or the first run that meets the aim does
abbrev pub RunPasses : Automaton → ℕ → List Sample → Aim → Type 0
RunPasses a k samples aim =
    LogPasses a k samples ⊎ ((run : Run) × IsFirstRun a k samples aim run × FirstRunPasses a samples aim run)
