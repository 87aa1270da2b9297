use Rattle.std.proofs.Common.{map, true, ◌||◌, Some, sym, ap, ◌∙◌, subst}
use Rattle.std.specs.Arc.{arc_value}
use Rattle.std.proofs.lemmas.Result.{on_ok_weaker}
use Rattle.std.specs.Option.{option_map}
use Rattle.log_specs.specs.Blocks.{wants_run}
use Rattle.log_specs.specs.LogSessions.{LogState, judge_sample, session_of}
use Rattle.log_table.specs.Tables.{cells_in}
use Rattle.log_session.specs.Progress.{Progress}
use Rattle.log_session.specs.Parts.{progress_of}
use Rattle.log_session.specs.Told.{TellsSample}
use Rattle.log_session.specs.Behind.{StandsBehind}
use Rattle.log_session.proofs.BehindLemmas.{alarm_wanted}
use Rattle.log_session.proofs.ToldLemmas.{sample_told, refused_told}
use Rattle.log_session.proofs.judged_log.JudgedLog.add_sample.Goals as goal

pub run_behind-requires-clause-alarm : goal.run_behind-requires-clause-alarm
run_behind-requires-clause-alarm g c =
    let i = c.self.inside in
    λ e. c.in-Ok.ensures.ok.told ∙ ap Some (alarm_wanted i.runs c.last_reply-last.result c.in-Ok.verdict (sym c.wants_run-is_wanted.ensures ∙ e))

pub returns-in_ok-run-in-Ok-clause-ok : goal.returns-in_ok-run-in-Ok-clause-ok
returns-in_ok-run-in-Ok-clause-ok g c =
    let i = c.self.inside in
    let models = map (λ a. arc_value a) i.models.now in
    let wanted = c.wants_run-is_wanted.ensures ∙ ap (λ l. wants_run i.runs l c.in-Ok.verdict) c.last_reply-last.ensures in
    on_ok_weaker c.put_answer.result
    (λ grown.
    subst (λ (p : Progress). TellsSample p (progress_of i.form models i.runs c.reply.new.self true c.in-Some.tally) c.args.number c.args.name.now
    (cells_in c.args.sample.now) c.args.blocks.now.items c.put_answer.new.blocks.items)
    c.self.view_is
    (sample_told i.form models i.runs i.table i.has_begun c.reply.new.self i.tally c.args.number c.args.name.now (cells_in c.args.sample.now) c.in-Ok.verdict c.in-Ok.ensures.ok
    (option_map (λ n. n.now) c.subject.result) c.subject.ensures.told c.in-Some.tally c.in-Some.ensures
    c.wants_run-is_wanted.result wanted c.deref.result.now (subst (StandsBehind c.reply.new.self c.args.name.now c.wants_run-is_wanted.result) (sym c.deref.ensures.value) c.in_ok-run-in-Ok.ensures)
    c.args.blocks.now.items c.put_answer.new.blocks.items grown))
    c.put_answer.ensures.ok

pub returns-in-Err-clause-ok : goal.returns-in-Err-clause-ok
returns-in-Err-clause-ok g c =
    let i = c.self.inside in
    on_ok_weaker c.refuse_not_taken.result
    (λ told task is.
    refused_told i.form (map (λ a. arc_value a) i.models.now) i.runs i.table i.has_begun c.reply.new.self i.tally c.args.self.now c.refuse_not_taken.new.self c.args.number c.in-Err.why
    (λ (at : LogState). judge_sample at (cells_in c.args.sample.now) (session_of at c.args.name.now)) c.args.blocks.now.items c.refuse_not_taken.new.blocks.items c.self.view_is c.in-Err.ensures.err c.in-Err.ensures.refusal told task)
    c.refuse_not_taken.ensures.ok
