use Rattle.std.proofs.Common.{◌≡◌, ◌++◌, take}
use Rattle.replay_specs.specs.RunTexts.{at_line}
use Rattle.run_text.proofs.write.write_values.Given as goal

abbrev pub invariant-loop-value : goal.invariant-loop-value
invariant-loop-value l = l.out.items ≡ l.fn.out.items ++ l.prefix ++ at_line (take l.value-index l.values)
