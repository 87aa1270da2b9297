use Rattle.std.proofs.Common.{map, true, subst}
use Rattle.std.specs.Arc.{arc_value}
use Rattle.std.proofs.lemmas.Result.{on_ok_weaker}
use Rattle.std.specs.Option.{option_map}
use Rattle.log_specs.specs.LogSessions.{LogState, judge_opening, session_of}
use Rattle.log_session.specs.Progress.{Progress}
use Rattle.log_session.specs.Parts.{progress_of}
use Rattle.log_session.specs.Told.{TellsOpening}
use Rattle.log_session.proofs.ToldLemmas.{opening_told, refused_told}
use Rattle.log_session.proofs.judged_log.JudgedLog.add_opening.Goals as goal

pub returns-in-Ok-clause-ok : goal.returns-in-Ok-clause-ok
returns-in-Ok-clause-ok g c =
    let i = c.self.inside in
    let automaton = (option_map (λ a. arc_value a.now) c.args.automaton) in
    subst (λ (p : Progress). TellsOpening p (progress_of i.form (map (λ a. arc_value a) i.models.now) i.runs c.open.new.self true i.tally) c.args.number c.args.name.now c.args.columns.now automaton c.args.blocks.now.items c.args.blocks.now.items)
    c.self.view_is
    (opening_told i.form (map (λ a. arc_value a) i.models.now) i.runs i.table i.has_begun c.open.new.self i.tally c.args.number c.args.name.now c.args.columns.now automaton c.args.blocks.now.items c.in-Ok.ensures.ok)

pub returns-in-Err-clause-ok : goal.returns-in-Err-clause-ok
returns-in-Err-clause-ok g c =
    let i = c.self.inside in
    on_ok_weaker c.refuse_not_taken.result
    (λ told task is.
    refused_told i.form (map (λ a. arc_value a) i.models.now) i.runs i.table i.has_begun c.open.new.self i.tally c.args.self.now c.refuse_not_taken.new.self c.args.number c.in-Err.why
    (λ (at : LogState). judge_opening at c.args.name.now c.args.columns.now (option_map (λ a. arc_value a.now) c.args.automaton) (session_of at c.args.name.now)) c.args.blocks.now.items c.refuse_not_taken.new.blocks.items c.self.view_is c.in-Err.ensures.err c.in-Err.ensures.refusal told task)
    c.refuse_not_taken.ensures.ok
