use Rattle.gap_keys.proofs.KeyEquality.{views_exact}
use Rattle.gap_keys.proofs.equality.equal_states.Goals as goal

pub returns : goal.returns
returns c = views_exact
