use Rattle.model_specs.proofs.LineLemmas.{faults_climb}
use Rattle.model_specs.proofs.laws.faults_rise.Goals as goal

pub returns : goal.returns
returns c = faults_climb
