use Rattle.number_specs.proofs.LiteralLemmas.{literals_are}
use Rattle.number_specs.proofs.literals_are_small.Goals as goal

pub returns : goal.returns
returns c = literals_are
