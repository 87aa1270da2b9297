use Rattle.poly_specs.proofs.RowLemmas.{Holds-dominated}
use Rattle.poly_specs.proofs.rows.dominated_row_is_implied.Goals as goal

pub returns : goal.returns
returns c = Holds-dominated
