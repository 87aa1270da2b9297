use Rattle.lha_model.proofs.EqualityLemmas.{locations_exact}
use Rattle.lha_model.proofs.equality.equal_locations.Goals as goal

pub returns : goal.returns
returns c = locations_exact
