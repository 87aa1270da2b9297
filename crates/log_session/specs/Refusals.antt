-- The refusal that is told of a line, by what refused it; none where there was no memory.
use Rattle.std.specs.Prelude.{Option, Some, None}
use Rattle.log_specs.specs.declared.Refusal.{Refusal}
use Rattle.log_specs.specs.declared.Refusal.TheVariants as why
use Rattle.log_reader.specs.declared.refusal.RowRefusal.{RowRefusal}
use Rattle.log_reader.specs.declared.refusal.RowRefusal.TheVariants as row

abbrev pub row_word : RowRefusal → Option Refusal
row_word row.Long = Some why.Long
row_word row.Text = Some why.Text
row_word row.Fields = Some why.Fields
row_word row.Name = Some why.Name
row_word row.Number = Some why.Number
row_word row.Memory = None
