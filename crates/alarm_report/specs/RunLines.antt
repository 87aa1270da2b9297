-- The lines behind an alarm.
use Rattle.std.specs.Prelude.{ℕ, List, ◌++◌, map, Option, Some, None, codes}
use Rattle.log_specs.specs.Blocks.{printed_overflow}
use Rattle.replay_specs.specs.RunTexts.{run_lines, ended_lines}
use Rattle.run_specs.specs.Runs.{GapRun}

-- those of the gaps of its run, each behind `+ `, or those of a run that passes
abbrev pub lines_of_run : Option (List GapRun) → List ℕ
lines_of_run None = printed_overflow
lines_of_run (Some gaps) = ended_lines (map (λ line. codes "+ " ++ line) (run_lines gaps))
