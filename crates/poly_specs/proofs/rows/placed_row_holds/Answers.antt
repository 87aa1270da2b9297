use Rattle.poly_specs.proofs.RowLemmas.{Holds-placed}
use Rattle.poly_specs.proofs.rows.placed_row_holds.Goals as goal

pub returns : goal.returns
returns c = Holds-placed
