use Rattle.run_specs.proofs.FirstRunLemmas.{one_first_run}
use Rattle.run_specs.proofs.first_runs.one_first_run.Goals as goal

pub returns : goal.returns
returns c a k log aim run other wf one two = one_first_run a k log aim run other wf one two
