use Rattle.std.proofs.Common.{ℕ, ◌<◌}
use Rattle.run_specs.specs.WellFormed.{HasBox}
use Rattle.lha_model.proofs.boxes.has_boxes.Given as goal

abbrev pub invariant-loop-j : goal.invariant-loop-j
invariant-loop-j l = (j : ℕ) → j < l.j → HasBox l.m l.slopes j
