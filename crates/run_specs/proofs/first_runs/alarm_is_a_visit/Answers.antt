use Rattle.run_specs.proofs.AimLemmas.{alarm_visit}
use Rattle.run_specs.proofs.first_runs.alarm_is_a_visit.Goals as goal

pub returns : goal.returns
returns c a run = alarm_visit a run
