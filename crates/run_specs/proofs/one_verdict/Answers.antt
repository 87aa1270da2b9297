use Rattle.run_specs.proofs.RunLemmas.{verdict_unique}
use Rattle.run_specs.proofs.one_verdict.Goals as goal

pub returns : goal.returns
returns c a k log v w fits x y = verdict_unique a k log v w fits x y
