use Rattle.std.proofs.Common.{◌≡◌, ◌++◌, take}
use Rattle.std.specs.Prelude.{flat_map}
use Rattle.replay_specs.specs.RunTexts.{move_lines}
use Rattle.run_text.specs.Behind.{lines_behind}
use Rattle.run_text.proofs.write.write_moves.Given as goal

abbrev pub invariant-loop-step : goal.invariant-loop-step
invariant-loop-step l = l.out.items ≡ l.fn.out.items ++ lines_behind l.prefix (flat_map move_lines (take l.step-index l.moves))
