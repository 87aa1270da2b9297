use Rattle.std.proofs.Common.{Result, sym, subst}
use Rattle.std.specs.Prelude.{All, IfOk, IfSome}
use Rattle.number_specs.specs.LogNumbers.{IsLogNumber}
use Rattle.run_specs.specs.Logs.{Sample}
use Rattle.log_specs.specs.declared.Refusal.{Refusal}
use Rattle.log_specs.specs.LogRows.{Cells}
use Rattle.log_specs.proofs.RowLemmas.{IsRead, cells_are_read}
use Rattle.world_cases.proofs.events.sample_of.Goals as goal

pub returns-in-Ok : goal.returns-in-Ok
returns-in-Ok c =
    let read = subst (λ (r : Result Cells Refusal). IfOk r IsRead) c.in-Ok.ensures.cells (cells_are_read c.args.line.now) in (
      subst (λ (s : Sample). IsLogNumber s.time) (sym c.new-sample.ensures) read.time,
      subst (λ (s : Sample). All (λ cell. IfSome cell IsLogNumber) s.cells) (sym c.new-sample.ensures) read.cells,
    )
