use Rattle.lha_model.proofs.EqualityLemmas.{lists_exact, samples_exact}
use Rattle.lha_model.proofs.equality.equal_logs.Goals as goal

pub returns : goal.returns
returns c = lists_exact samples_exact
