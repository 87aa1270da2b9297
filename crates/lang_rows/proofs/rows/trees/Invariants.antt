use Rattle.std.proofs.Common.{map, take}
use Rattle.lang_tokens.specs.Machines.{AllValues}
use Rattle.lang_rows.specs.Texts.{IsRowValue}
use Rattle.lang_rows.specs.Views.{row_of}
use Rattle.lang_rows.proofs.rows.trees.Given as goal

abbrev pub invariant-loop-text : goal.invariant-loop-text
invariant-loop-text l = AllValues IsRowValue (map row_of (take l.text-index l.texts)) l.trees.items
