use Rattle.run_specs.proofs.GapExact.{gap_exact}
use Rattle.run_specs.proofs.gap_stages_are_exact.Goals as goal

pub returns : goal.returns
returns c = gap_exact
