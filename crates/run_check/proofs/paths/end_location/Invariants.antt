use Rattle.std.proofs.Common.{◌≡◌, drop}
use Rattle.run_specs.specs.Runs.{end_loc, path_of}
use Rattle.run_check.proofs.PathLemmas.{transitions_of}
use Rattle.run_check.proofs.paths.end_location.Given as goal

abbrev pub invariant-loop-m : goal.invariant-loop-m
invariant-loop-m l = end_loc l.a l.loc (transitions_of (drop l.m-index l.m-items)) ≡ end_loc l.a l.gap.start_loc (path_of l.gap)
