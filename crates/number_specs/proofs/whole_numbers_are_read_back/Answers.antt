use Rattle.number_specs.proofs.TextLemmas.{whole_back}
use Rattle.number_specs.proofs.whole_numbers_are_read_back.Goals as goal

pub returns : goal.returns
returns c = whole_back
