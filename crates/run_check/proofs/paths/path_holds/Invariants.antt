use Rattle.std.proofs.Common.{drop}
use Rattle.replay_specs.specs.RunChecks.{path_steps}
use Rattle.run_check.proofs.PathLemmas.{PathSoFar}
use Rattle.run_check.proofs.paths.path_holds.Given as goal

abbrev pub invariant-loop-m : goal.invariant-loop-m
invariant-loop-m l =
    PathSoFar l.a l.gap.den l.gap.last (path_steps l.a l.gap.den l.gap.start_loc l.gap.start l.gap.moves l.gap.last) l.loc l.from (drop l.m-index l.m-items)
