use Rattle.example_specs.proofs.Runs.{early_is, late_is}
use Rattle.example_specs.proofs.jump_in_either_gap.Goals as goal

pub returns : goal.returns
returns c = (early_is, late_is)
