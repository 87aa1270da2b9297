use Rattle.poly_specs.proofs.RowLemmas.{combination-free}
use Rattle.poly_specs.proofs.rows.combination_is_free.Goals as goal

pub returns : goal.returns
returns c = combination-free
