use Rattle.std.proofs.Common.{◌≡◌, ◌+◌, drop}
use Rattle.model_specs.specs.Constraints.{place_in}
use Rattle.model_rows.proofs.names.place_in.Given as goal

abbrev pub invariant-loop-i : goal.invariant-loop-i
invariant-loop-i l = place_in l.names l.name ≡ l.i + place_in (drop l.i l.names) l.name
