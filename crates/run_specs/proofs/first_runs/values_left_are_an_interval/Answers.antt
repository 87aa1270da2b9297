use Rattle.run_specs.proofs.PickedLemmas.{left_interval}
use Rattle.run_specs.proofs.first_runs.values_left_are_an_interval.Goals as goal

pub returns : goal.returns
returns c a k log aim run i wf aimed h = left_interval a k log aim run i wf aimed h
