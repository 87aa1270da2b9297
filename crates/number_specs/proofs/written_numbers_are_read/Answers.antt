use Rattle.number_specs.proofs.FormLemmas.{written_is_read}
use Rattle.number_specs.proofs.written_numbers_are_read.Goals as goal

pub returns : goal.returns
returns c = written_is_read
