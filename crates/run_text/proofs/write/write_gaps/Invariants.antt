use Rattle.std.proofs.Common.{◌≡◌, ◌++◌, take}
use Rattle.std.specs.Prelude.{flat_map}
use Rattle.replay_specs.specs.RunTexts.{gap_lines}
use Rattle.run_text.specs.Behind.{lines_behind}
use Rattle.run_text.proofs.write.write_gaps.Given as goal

abbrev pub invariant-loop-gap : goal.invariant-loop-gap
invariant-loop-gap l = l.out.items ≡ l.fn.out.items ++ lines_behind l.prefix (flat_map gap_lines (take l.gap-index l.gaps))
