use Rattle.std.proofs.Common.{◌≡◌, map, drop}
use Rattle.lang_tokens.specs.Places.{placed_of}
use Rattle.lang_tokens.specs.Machines.{listed, run, start_of}
use Rattle.lang_lists.specs.BoxMachine.{boxes}
use Rattle.lang_lists.specs.Views.{reading_of}
use Rattle.lang_lists.proofs.boxes.read_boxes.Given as goal

abbrev pub invariant-loop-token : goal.invariant-loop-token
invariant-loop-token l = run (listed boxes) (reading_of l.reader) (map (placed_of l.line) (drop l.token-index l.tokens)) ≡ run (listed boxes) (start_of boxes) (map (placed_of l.line) l.tokens)
