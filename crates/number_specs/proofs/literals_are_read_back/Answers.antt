use Rattle.number_specs.proofs.LiteralLemmas.{literals_back}
use Rattle.number_specs.proofs.literals_are_read_back.Goals as goal

pub returns : goal.returns
returns c = literals_back
