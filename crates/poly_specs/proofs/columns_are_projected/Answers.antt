use Rattle.poly_specs.proofs.DownLemmas.{columns_projected}
use Rattle.poly_specs.proofs.columns_are_projected.Goals as goal

pub returns : goal.returns
returns c = columns_projected
