use Rattle.std.proofs.Common.{Result, Ok, sym, ap, ◌∙◌, subst}
use Rattle.std.specs.Prelude.{All, IfSome, OnOk}
use Rattle.number_specs.specs.LogNumbers.{IsLogNumber}
use Rattle.run_specs.specs.Logs.{Sample}
use Rattle.log_specs.specs.declared.Refusal.{Refusal}
use Rattle.log_specs.specs.LogRows.{Cells}
use Rattle.log_table.specs.Tables.{cells_in}
use Rattle.log_session.specs.Told.{TellsCells}
use Rattle.log_session.proofs.ReadLemmas.{read_is}
use Rattle.log_session.proofs.judged_log.JudgedLog.add_cells.Goals as goal

pub add_sample-requires-clause-time : goal.add_sample-requires-clause-time
add_sample-requires-clause-time g c =
    subst (λ (s : Sample). IsLogNumber s.time) (sym c.new-sample.ensures)
    (read_is c.args.line.now _ c.in-Ok.ensures.cells).time

pub add_sample-requires-clause-cells : goal.add_sample-requires-clause-cells
add_sample-requires-clause-cells g c =
    subst (λ (s : Sample). All (λ cell. IfSome cell IsLogNumber) s.cells) (sym c.new-sample.ensures)
    (read_is c.args.line.now _ c.in-Ok.ensures.cells).cells

pub returns-in-Ok-clause-ok : goal.returns-in-Ok-clause-ok
returns-in-Ok-clause-ok g c =
    subst (λ (r : Result Cells Refusal). OnOk c.add_sample.result (TellsCells c.args.self.now c.add_sample.new.self c.args.number r c.args.blocks.now.items c.add_sample.new.blocks.items))
    (ap (λ (s : Sample). Ok (cells_in s)) c.new-sample.ensures ∙ sym c.in-Ok.ensures.cells) c.add_sample.ensures.ok
