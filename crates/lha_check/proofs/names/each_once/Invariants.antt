use Rattle.std.proofs.Common.{◌≡◌, [], map, take, drop}
use Rattle.model_specs.specs.Faults.{repeated_in}
use Rattle.lha_check.proofs.names.each_once.Given as goal

abbrev pub invariant-loop-i : goal.invariant-loop-i
invariant-loop-i l = repeated_in l.line [] l.names ≡ repeated_in l.line (map (λ x. x) (take l.i l.names)) (drop l.i l.names)
