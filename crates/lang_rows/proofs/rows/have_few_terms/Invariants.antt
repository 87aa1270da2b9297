use Rattle.std.proofs.Common.{◌≡◌, map, drop}
use Rattle.std.specs.List.{list_all}
use Rattle.lang_rows.specs.RowMachine.{few_both}
use Rattle.lang_rows.specs.Views.{row_of}
use Rattle.lang_rows.proofs.rows.have_few_terms.Given as goal

abbrev pub invariant-loop-row : goal.invariant-loop-row
invariant-loop-row l = list_all few_both (map row_of (drop l.row-index l.rows)) ≡ list_all few_both (map row_of l.rows)
