use Rattle.poly_specs.proofs.CombinationLemmas.{combination_sound}
use Rattle.poly_specs.proofs.rows.combination_is_implied.Goals as goal

pub returns : goal.returns
returns c = combination_sound
