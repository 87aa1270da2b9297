use Rattle.std.proofs.Common.{◌≡◌, [], map, take, drop}
use Rattle.model_specs.specs.Faults.{boxes_faults}
use Rattle.lha_check.proofs.boxes.check_boxes.Given as goal

abbrev pub invariant-loop-i : goal.invariant-loop-i
invariant-loop-i l =
    boxes_faults l.line l.vars [] l.boxes ≡ boxes_faults l.line l.vars (map (λ b. b.var) (take l.i l.boxes)) (drop l.i l.boxes)
