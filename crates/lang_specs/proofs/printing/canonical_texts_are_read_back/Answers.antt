use Rattle.lang_specs.proofs.ReadBack.{read_back}
use Rattle.lang_specs.proofs.printing.canonical_texts_are_read_back.Goals as goal

pub returns : goal.returns
returns c = read_back
