use Rattle.std.proofs.Common.{map, true, bytes_eq, Ok, sym, ap, ◌∙◌, subst}
use Rattle.std.specs.Arc.{arc_value}
use Rattle.std.specs.List.{IsDistinct}
use Rattle.std.specs.Option.{option_map}
use Rattle.std.proofs.lemmas.Result.{on_ok_weaker}
use Rattle.number_specs.specs.LogNumbers.{IsLogNumber}
use Rattle.run_specs.specs.Logs.{Sample}
use Rattle.log_specs.specs.LogRows.{opening, sample, flush}
use Rattle.log_specs.specs.LogSessions.{automaton_of, judge_row}
use Rattle.log_table.specs.Tables.{cells_in}
use Rattle.log_reader.specs.declared.rows.LogRow.{LogRow}
use Rattle.log_reader.specs.Rows.{row_said}
use Rattle.log_session.specs.Progress.{Progress}
use Rattle.log_session.specs.Parts.{progress_of}
use Rattle.log_session.specs.Told.{Tells, TellsRow, IsRowOfALine}
use Rattle.log_session.proofs.RowLemmas.{named_has, row_opening, row_sample}
use Rattle.log_session.proofs.ToldLemmas.{flush_told}
use Rattle.log_session.proofs.judged_log.JudgedLog.add_row_of.Goals as goal

pub add_sample-requires-clause-time : goal.add_sample-requires-clause-time
add_sample-requires-clause-time g c =
    let read = subst (λ (r : LogRow). IsRowOfALine (row_said r)) c.in-Sample.is c.requires.row in
    subst (λ (s : Sample). IsLogNumber s.time) (sym c.new-sample.ensures) read.1

pub add_opening-requires-clause-distinct : goal.add_opening-requires-clause-distinct
add_opening-requires-clause-distinct g c =
    let i = c.self.inside in
    named_has (λ a. arc_value a.now) (λ a. IsDistinct bytes_eq a.variables) (map (λ a. arc_value a) i.models.now) c.in-Opening.automaton c.named-automaton.result c.named-automaton.ensures
    c.self.invariant.distinct

pub returns-in-Opening-clause-ok : goal.returns-in-Opening-clause-ok
returns-in-Opening-clause-ok g c =
    let i = c.self.inside in
    let found = c.named-automaton.ensures ∙ ap (λ (p : Progress). automaton_of p.models c.in-Opening.automaton) c.self.view_is in
    on_ok_weaker c.add_opening.result
    (λ told.
    subst (λ (r : LogRow). TellsRow c.args.self.now c.add_opening.new.self c.args.number (Ok (row_said r)) c.args.blocks.now.items c.add_opening.new.blocks.items) (sym c.in-Opening.is)
    (subst (λ n. TellsRow c.args.self.now c.add_opening.new.self c.args.number (Ok (opening n c.in-Opening.automaton c.in-Opening.columns.items)) c.args.blocks.now.items c.add_opening.new.blocks.items) c.deref.ensures.value
    (subst (λ ns. TellsRow c.args.self.now c.add_opening.new.self c.args.number (Ok (opening c.deref.result.now c.in-Opening.automaton ns)) c.args.blocks.now.items c.add_opening.new.blocks.items) c.deref-in-Opening.ensures.value
    (row_opening c.args.self.now c.add_opening.new.self c.args.number c.deref.result.now c.in-Opening.automaton c.deref-in-Opening.result.now (option_map (λ a. arc_value a.now) c.named-automaton.result)
    c.args.blocks.now.items c.add_opening.new.blocks.items found told))))
    c.add_opening.ensures.ok

pub returns-in-Sample-clause-ok : goal.returns-in-Sample-clause-ok
returns-in-Sample-clause-ok g c =
    on_ok_weaker c.add_sample.result
    (λ told.
    subst (λ (r : LogRow). TellsRow c.args.self.now c.add_sample.new.self c.args.number (Ok (row_said r)) c.args.blocks.now.items c.add_sample.new.blocks.items) (sym c.in-Sample.is)
    (subst (λ n. TellsRow c.args.self.now c.add_sample.new.self c.args.number (Ok (sample n c.in-Sample.time c.in-Sample.cells.items)) c.args.blocks.now.items c.add_sample.new.blocks.items) c.deref-in-Sample.ensures.value
    (subst (λ (s : Sample). TellsRow c.args.self.now c.add_sample.new.self c.args.number (Ok (sample c.deref-in-Sample.result.now s.time s.cells)) c.args.blocks.now.items c.add_sample.new.blocks.items) c.new-sample.ensures
    (row_sample c.args.self.now c.add_sample.new.self c.args.number c.deref-in-Sample.result.now (cells_in c.new-sample.result) c.args.blocks.now.items c.add_sample.new.blocks.items told))))
    c.add_sample.ensures.ok

pub returns-in-Flush-clause-ok : goal.returns-in-Flush-clause-ok
returns-in-Flush-clause-ok g c =
    let i = c.self-in-Flush.inside in
    let models = map (λ a. arc_value a) i.models.now in
    λ task of.
    subst (λ (r : LogRow). Tells task c.args.self.now (progress_of i.form models i.runs i.table true i.tally) c.args.number (judge_row task.models c.args.self.now.known.state (Ok (row_said r))) c.args.blocks.now.items c.args.blocks.now.items)
    (sym c.in-Flush.is)
    (subst (λ (p : Progress). Tells task p (progress_of i.form models i.runs i.table true i.tally) c.args.number (judge_row task.models p.known.state (Ok flush)) c.args.blocks.now.items c.args.blocks.now.items)
    c.self-in-Flush.view_is
    (flush_told i.form models i.runs i.table i.has_begun task i.tally c.args.number c.args.blocks.now.items))
