use Rattle.poly_specs.proofs.RowLemmas.{Holds-cut}
use Rattle.poly_specs.proofs.rows.cut_row_holds.Goals as goal

pub returns : goal.returns
returns c n r p z l = Holds-cut n r p z
