use Rattle.std.proofs.Common.{◌++◌, take}
use Rattle.poly_specs.specs.Elimination.{free_of}
use Rattle.fm_eliminate.specs.Leaving.{IsLeft}
use Rattle.fm_eliminate.proofs.elimination.add_free.Given as goal

abbrev pub invariant-loop-row : goal.invariant-loop-row
invariant-loop-row l = IsLeft (l.initial.kept ++ free_of l.x (take l.row-index l.rows)) l.kept
