use Rattle.std.proofs.Common.{◌≡◌, drop}
use Rattle.model_specs.specs.Faults.{missing_slope}
use Rattle.lha_check.proofs.boxes.each_has_box.Given as goal

abbrev pub invariant-loop-var : goal.invariant-loop-var
invariant-loop-var l = missing_slope l.line l.boxes l.vars ≡ missing_slope l.line l.boxes (drop l.var-index l.vars)
