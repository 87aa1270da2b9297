use Rattle.poly_specs.proofs.DownLemmas.{column_projected}
use Rattle.poly_specs.proofs.column_is_projected.Goals as goal

pub returns : goal.returns
returns c = column_projected
