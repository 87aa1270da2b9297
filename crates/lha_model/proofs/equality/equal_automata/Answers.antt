use Rattle.lha_model.proofs.EqualityLemmas.{automata_exact}
use Rattle.lha_model.proofs.equality.equal_automata.Goals as goal

pub returns : goal.returns
returns c = automata_exact
