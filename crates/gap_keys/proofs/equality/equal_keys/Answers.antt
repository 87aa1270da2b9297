use Rattle.gap_keys.proofs.KeyEquality.{keys_exact}
use Rattle.gap_keys.proofs.equality.equal_keys.Goals as goal

pub returns : goal.returns
returns c = keys_exact
