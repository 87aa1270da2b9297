use Rattle.std.proofs.Common.{◌≡◌, map, drop}
use Rattle.lang_tokens.specs.Places.{placed_of}
use Rattle.lang_tokens.specs.Machines.{run}
use Rattle.lang_rows.specs.RowMachine.{at_first, row_line}
use Rattle.lang_rows.specs.Views.{state_of}
use Rattle.lang_rows.proofs.rows.read_rows.Given as goal

abbrev pub invariant-loop-token : goal.invariant-loop-token
invariant-loop-token l = run (row_line l.strict) (state_of l.reader) (map (placed_of l.line) (drop l.token-index l.tokens)) ≡ run (row_line l.strict) at_first (map (placed_of l.line) l.tokens)
