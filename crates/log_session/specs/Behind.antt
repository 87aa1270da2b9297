-- What stands behind a reply to a session of a table.
use Rattle.std.specs.Prelude.{◌≡◌, ◌⊎◌, ℕ, List, [], Bool, true, false, Some}
use Rattle.run_specs.specs.Runs.{GapRun}
use Rattle.log_specs.specs.Blocks.{printed_overflow}
use Rattle.alarm_report.specs.RunLines.{lines_of_run}
use Rattle.log_table.specs.Tables.{Table}
use Rattle.log_table.specs.FirstRuns.{IsFirstRunOf, FirstRunOfPasses}

-- where a run is wanted: the lines of the first run of the session of this name, or an overflow where its run passes
abbrev pub StandsBehind : Table → List ℕ → Bool → List ℕ → Type 0
StandsBehind t name false bytes = bytes ≡ []
StandsBehind t name true bytes =
    ((gaps : List GapRun) × IsFirstRunOf t name gaps × (bytes ≡ lines_of_run (Some gaps)))
    ⊎ (FirstRunOfPasses t name × (bytes ≡ printed_overflow))
