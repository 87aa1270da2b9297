-- How many values the points of a gap run have.
use Rattle.std.specs.Prelude.{◌≡◌, ℕ, All, length}
use Rattle.run_specs.specs.Runs.{GapRun}

-- each point of the gap run has n values
pub record IsWide (n : ℕ) (g : GapRun) : Type 0 where
  pub start : length g.start ≡ n
  pub moves : All (λ m. (length m.leg.at_end ≡ n) × (length m.after ≡ n)) g.moves
  pub last : length g.last.at_end ≡ n
