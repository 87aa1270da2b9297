use Rattle.std.proofs.Common.{◌≡◌, map, drop}
use Rattle.lang_tokens.specs.Places.{placed_of}
use Rattle.lang_tokens.specs.Machines.{run}
use Rattle.lang_lines.specs.ShortMachine.{start_at, short_line}
use Rattle.lang_lines.specs.Views.{place_of}
use Rattle.lang_lines.proofs.short.read_short.Given as goal

abbrev pub invariant-loop-token : goal.invariant-loop-token
invariant-loop-token l = run (short_line l.word) (place_of l.place) (map (placed_of l.line) (drop l.token-index l.tokens)) ≡ run (short_line l.word) (start_at l.word) (map (placed_of l.line) l.tokens)
