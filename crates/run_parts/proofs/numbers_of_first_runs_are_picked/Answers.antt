use Rattle.run_parts.proofs.RunParts.{first_run_picked}
use Rattle.run_parts.proofs.numbers_of_first_runs_are_picked.Goals as goal

pub returns : goal.returns
returns c a k log aim run init p wf is first e i = first_run_picked a k log aim run init p wf is first e i
