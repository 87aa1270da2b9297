use Rattle.number_specs.proofs.LogNumberLemmas.{numbers_are}
use Rattle.number_specs.proofs.numbers_are_in_range.Goals as goal

pub returns : goal.returns
returns c = numbers_are
