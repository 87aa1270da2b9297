use Rattle.lang_specs.proofs.CanonicalLemmas.{one_text}
use Rattle.lang_specs.proofs.laws.one_canonical_text.Goals as goal

pub returns : goal.returns
returns c = one_text
