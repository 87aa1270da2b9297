use Rattle.run_specs.proofs.AimLemmas.{value_aim}
use Rattle.run_specs.proofs.first_runs.aim_of_a_value.Goals as goal

pub returns : goal.returns
returns c a k log run j v is h = value_aim a k log run j v is h
