use Rattle.std.proofs.Common.{◌≡◌, map, drop}
use Rattle.lang_tokens.specs.Places.{placed_of}
use Rattle.lang_tokens.specs.Machines.{listed, run, start_of}
use Rattle.lang_lists.specs.BoundMachine.{bounds}
use Rattle.lang_lists.specs.BoundViews.{reading_of}
use Rattle.lang_lists.proofs.bounds.read_bounds.Given as goal

abbrev pub invariant-loop-token : goal.invariant-loop-token
invariant-loop-token l = run (listed bounds) (reading_of l.reader) (map (placed_of l.line) (drop l.token-index l.tokens)) ≡ run (listed bounds) (start_of bounds) (map (placed_of l.line) l.tokens)
