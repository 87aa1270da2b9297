use Rattle.std.proofs.Common.{◌≡◌, [], map, take, drop}
use Rattle.model_specs.specs.Faults.{bounds_faults}
use Rattle.lha_check.proofs.bounds.check_bounds.Given as goal

abbrev pub invariant-loop-i : goal.invariant-loop-i
invariant-loop-i l =
    bounds_faults l.line l.vars [] l.bounds ≡ bounds_faults l.line l.vars (map (λ b. b.var) (take l.i l.bounds)) (drop l.i l.bounds)
