-- A log with two alarms in a row, its first runs, and its reports.
use Rattle.std.specs.Prelude.{ℕ, List, [], ◌∷◌, ◌++◌, true, false, Some, ℤ, pos, negsuc, codes}
use Rattle.poly_specs.specs.Fractions.{zero_fraction}
use Rattle.poly_specs.specs.Rows.{Row, over}
use Rattle.run_specs.specs.Automaton.{Automaton}
use Rattle.run_specs.specs.Runs.{GapRun, Run}
use Rattle.run_specs.specs.declared.Verdict.{Verdict}
use Rattle.run_specs.specs.declared.Verdict.TheVariants.{Alarm}
use Rattle.log_specs.specs.declared.LogForm.TheVariants.{Check}
use Rattle.log_specs.specs.declared.RunsMode.{RunsMode}
use Rattle.replay_specs.specs.RunTexts.{ended_lines}
use Rattle.log_specs.specs.Blocks.{Task}

-- a row that is not strict and has no constant
abbrev pub at_most_zero : List ℤ → Row
at_most_zero coef = record { coef = coef; cst = pos 0; strict = false }

-- one unsafe location, where x starts at 0 and stays: each log without columns is an alarm
abbrev pub lamp : Automaton
lamp = record {
  name = codes "L";
  variables = codes "x" ∷ [];
  obs = zero_fraction ∷ [];
  locations =
      record {
        name = codes "on";
        is_unsafe = true;
        init = Some (at_most_zero (pos 1 ∷ []) ∷ at_most_zero (negsuc 0 ∷ []) ∷ []);
        invariant = [];
        slopes = at_most_zero (pos 1 ∷ pos 0 ∷ []) ∷ at_most_zero (negsuc 0 ∷ pos 0 ∷ []) ∷ [];
      }
      ∷ [];
  transitions = [];
}

-- its logs, with the runs of this mode
abbrev pub lamp_task : RunsMode → Task
lamp_task mode = record { form = Check; models = lamp ∷ []; jumps = 2; runs = mode }

-- two samples without a cell, at the times 0 and 1
abbrev pub lamp_log : List ℕ
lamp_log = ended_lines (codes "time" ∷ codes "0" ∷ codes "1" ∷ [])

abbrev pub two_alarms : List Verdict
two_alarms = Alarm ∷ Alarm ∷ []

-- ---- the first runs

-- a gap of this length
abbrev pub lit_for : ℕ → GapRun
lit_for t = record {
  den = pos 1;
  start_loc = 0;
  start = pos 0 ∷ [];
  moves = [];
  last = record { length_of = pos t; at_end = pos 0 ∷ [] };
}

abbrev pub lit_run : List GapRun → Run
lit_run gaps = record { start = record { loc = 0; point = over (pos 1) (pos 0 ∷ []) }; gaps = gaps }

-- of the log up to its first sample, and of the whole log
abbrev pub first_run : Run
first_run = lit_run (lit_for 0 ∷ [])

abbrev pub second_run : Run
second_run = lit_run (lit_for 0 ∷ lit_for 1 ∷ [])

-- as they are printed
abbrev pub first_lines : List (List ℕ)
first_lines = codes "+ run 1" ∷ codes "+ gap 1 0" ∷ codes "+ at 0" ∷ codes "+ stay 0" ∷ codes "+ at 0" ∷ []

abbrev pub second_lines : List (List ℕ)
second_lines =
    codes "+ run 2" ∷ codes "+ gap 1 0" ∷ codes "+ at 0" ∷ codes "+ stay 0" ∷ codes "+ at 0"
    ∷ codes "+ gap 1 0" ∷ codes "+ at 0" ∷ codes "+ stay 1" ∷ codes "+ at 0" ∷ []

-- ---- the reports

-- with these lines behind the replies
abbrev pub lamp_report : List (List ℕ) → List (List ℕ) → List ℕ
lamp_report first second = ended_lines ((codes "2,alarm" ∷ first) ++ (codes "3,alarm" ∷ second))

abbrev pub no_runs : List ℕ
no_runs = lamp_report [] []

abbrev pub one_run : List ℕ
one_run = lamp_report first_lines []

abbrev pub both_runs : List ℕ
both_runs = lamp_report first_lines second_lines
