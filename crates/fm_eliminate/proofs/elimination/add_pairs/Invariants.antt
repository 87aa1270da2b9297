use Rattle.std.proofs.Common.{◌++◌, take}
use Rattle.std.specs.List.{flat_map}
use Rattle.poly_specs.specs.Elimination.{lowers}
use Rattle.fm_eliminate.specs.Leaving.{IsLeft, combinations}
use Rattle.fm_eliminate.proofs.elimination.add_pairs.Given as goal

abbrev pub invariant-loop-lower : goal.invariant-loop-lower
invariant-loop-lower l = IsLeft (l.initial.kept ++ flat_map (combinations l.x l.rows) (lowers l.x (take l.lower-index l.rows))) l.kept
