use Rattle.lha_model.proofs.EqualityLemmas.{transitions_exact}
use Rattle.lha_model.proofs.equality.equal_transitions.Goals as goal

pub returns : goal.returns
returns c = transitions_exact
