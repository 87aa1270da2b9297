use Rattle.number_specs.proofs.ScanLemmas.{no_other_form}
use Rattle.number_specs.proofs.other_texts_are_no_numbers.Goals as goal

pub returns : goal.returns
returns c = no_other_form
