use Rattle.poly_specs.proofs.ColumnLemmas.{each_projected}
use Rattle.poly_specs.proofs.projections.each_column_is_projected.Goals as goal

pub returns : goal.returns
returns c w columns rows p = each_projected w columns rows p
