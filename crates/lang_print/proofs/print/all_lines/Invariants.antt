use Rattle.std.proofs.Common.{◌≡◌, take}
use Rattle.std.specs.List.{flat_map}
use Rattle.lang_print.specs.Pages.{with_lines}
use Rattle.lang_print.proofs.print.all_lines.Given as goal

abbrev pub invariant-loop-item : goal.invariant-loop-item
invariant-loop-item g l = l.page ≡ with_lines l.fn.page (flat_map g.T.PrintLines.lines (take l.item-index l.items))
