use Rattle.std.proofs.Common.{◌≡◌, drop}
use Rattle.model_specs.specs.Automata.{box_of}
use Rattle.model_rows.proofs.slopes.box_of.Given as goal

abbrev pub invariant-loop-bounds : goal.invariant-loop-bounds
invariant-loop-bounds l = box_of l.boxes l.var ≡ box_of (drop l.bounds-index l.boxes) l.var
