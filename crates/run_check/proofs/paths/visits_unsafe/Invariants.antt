use Rattle.std.proofs.Common.{◌≡◌, ◌<◌, drop, length}
use Rattle.run_specs.specs.Runs.{goes_unsafe, path_of}
use Rattle.run_check.proofs.PathLemmas.{transitions_of}
use Rattle.run_check.proofs.paths.visits_unsafe.Given as goal

abbrev pub invariant-loop-m : goal.invariant-loop-m
invariant-loop-m l =
    (goes_unsafe l.a l.loc (transitions_of (drop l.m-index l.m-items)) ≡ goes_unsafe l.a l.gap.start_loc (path_of l.gap))
    × (l.loc < length l.a.locations)
