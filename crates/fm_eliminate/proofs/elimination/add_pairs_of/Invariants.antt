use Rattle.std.proofs.Common.{◌++◌, take}
use Rattle.fm_eliminate.specs.Leaving.{IsLeft, combinations}
use Rattle.fm_eliminate.proofs.elimination.add_pairs_of.Given as goal

abbrev pub invariant-loop-upper : goal.invariant-loop-upper
invariant-loop-upper l = IsLeft (l.initial.kept ++ combinations l.x (take l.upper-index l.rows) l.lower) l.kept
