use Rattle.lang_specs.proofs.WordLemmas.{names_are}
use Rattle.lang_specs.proofs.laws.names_are_no_keywords.Goals as goal

pub returns : goal.returns
returns c = names_are
