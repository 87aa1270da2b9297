use Rattle.number_specs.proofs.FormLemmas.{other_is_out}
use Rattle.number_specs.proofs.other_written_numbers_are_out_of_range.Goals as goal

pub returns : goal.returns
returns c = other_is_out
