use Rattle.std.proofs.Common.{◌≡◌, map, drop}
use Rattle.lang_tokens.specs.Places.{placed_of}
use Rattle.lang_tokens.specs.Machines.{listed, run, start_of}
use Rattle.lang_lists.specs.NameMachine.{names}
use Rattle.lang_lists.specs.NameViews.{reading_of}
use Rattle.lang_lists.proofs.names.read_names.Given as goal

abbrev pub invariant-loop-token : goal.invariant-loop-token
invariant-loop-token l = run (listed names) (reading_of l.reader) (map (placed_of l.line) (drop l.token-index l.tokens)) ≡ run (listed names) (start_of names) (map (placed_of l.line) l.tokens)
