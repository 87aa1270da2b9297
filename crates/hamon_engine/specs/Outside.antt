-- What a run reads from and writes to.
use Rattle.std.specs.Prelude.{ℕ, List, Option}
use Rattle.report_loop.specs.Outcome.{Streams}

-- the log, the output and the shelf, before or after a run
pub record Outside : Type 0 where
  pub streams : Streams
  pub shelf : List ℕ → Option (List ℕ)
  pub shelf_faults : ℕ
