use Rattle.run_specs.proofs.RunLemmas.{verdicts_unique}
use Rattle.run_specs.proofs.one_list_of_verdicts.Goals as goal

pub returns : goal.returns
returns c a k log vs ws fits x y = verdicts_unique a k log vs ws fits x y
