use Rattle.lha_model.proofs.EqualityLemmas.{samples_exact}
use Rattle.lha_model.proofs.equality.equal_samples.Goals as goal

pub returns : goal.returns
returns c = samples_exact
