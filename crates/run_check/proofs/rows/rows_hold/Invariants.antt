use Rattle.std.proofs.Common.{drop}
use Rattle.replay_specs.specs.RunChecks.{row_steps}
use Rattle.run_check.proofs.StepLemmas.{Leads}
use Rattle.run_check.proofs.rows.rows_hold.Given as goal

abbrev pub invariant-loop-row : goal.invariant-loop-row
invariant-loop-row l = Leads (row_steps (drop l.row-index l.rows) l.den l.num) (row_steps l.rows l.den l.num)
