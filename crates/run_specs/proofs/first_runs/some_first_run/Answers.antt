use Rattle.run_specs.proofs.FirstRunExists.{some_first_run}
use Rattle.run_specs.proofs.first_runs.some_first_run.Goals as goal

pub returns : goal.returns
returns c a k log aim other wf is aimed = some_first_run a k log aim other wf is aimed
