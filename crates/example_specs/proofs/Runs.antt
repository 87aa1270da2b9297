-- Runs of the tank and of the shutter.
use Rattle.std.proofs.Common.{[], ◌∷◌, refl, lit<}
use Rattle.run_specs.specs.Runs.{IsRun, VisitsUnsafe}
use Rattle.run_specs.specs.Verdicts.{IsPossible}
use Rattle.example_specs.proofs.RunTests.{run_from}
use Rattle.example_specs.specs.Literals.{fraction, whole, observes, blank}
use Rattle.example_specs.specs.Tanks.{tank, tank_within, rising, rising_run, level, jumps_early, jumps_late, one_in_each, two_in_one, run_of, gap_from, leg}
use Rattle.example_specs.specs.Shutters.{shutter, half_run}

pub rising_is : IsRun tank 1 rising rising_run
rising_is = run_from tank 1 rising rising_run tt

pub rising_visits : VisitsUnsafe tank rising_run
rising_visits = (1, _, lit< tt, refl, refl)

pub early_is : IsRun tank 1 level jumps_early
early_is = run_from tank 1 level jumps_early tt

pub late_is : IsRun tank 1 level jumps_late
late_is = run_from tank 1 level jumps_late tt

pub one_in_each_is : IsRun tank 1 level one_in_each
one_in_each_is = run_from tank 1 level one_in_each tt

pub two_in_one_is : IsRun tank 2 level two_in_one
two_in_one_is = run_from tank 2 level two_in_one tt

pub half_is : IsRun shutter 1 (blank (whole 0) ∷ []) half_run
half_is = run_from shutter 1 (blank (whole 0) ∷ []) half_run tt

pub half_visits : VisitsUnsafe shutter half_run
half_visits = (0, _, lit< tt, refl, refl)

pub tolerated : IsPossible (tank_within (fraction 1 2)) 2 (observes (whole 0) (fraction 1 2) ∷ observes (whole 1) (fraction 5 2) ∷ [])
tolerated = (
  run_of (gap_from 0 0 [] (leg 0 0) ∷ gap_from 0 0 [] (leg 1 2) ∷ []),
  run_from (tank_within (fraction 1 2)) 2 (observes (whole 0) (fraction 1 2) ∷ observes (whole 1) (fraction 5 2) ∷ []) (run_of (gap_from 0 0 [] (leg 0 0) ∷ gap_from 0 0 [] (leg 1 2) ∷ [])) tt,
)
