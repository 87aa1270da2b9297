use Rattle.std.proofs.Common.{map, Result, Ok, sym, ap, ◌∙◌, subst}
use Rattle.std.specs.Prelude.{OnOk, List, ℕ}
use Rattle.std.specs.Arc.{arc_value}
use Rattle.std.specs.Option.{option_map}
use Rattle.std.proofs.lemmas.Result.{on_ok_weaker}
use Rattle.log_specs.specs.declared.Refusal.{Refusal}
use Rattle.log_specs.specs.LogSessions.{first_automaton}
use Rattle.log_session.specs.Progress.{Progress}
use Rattle.log_session.specs.Told.{TellsHeader}
use Rattle.log_session.proofs.HeaderLemmas.{header_told}
use Rattle.log_session.proofs.judged_log.JudgedLog.add_header.Goals as goal

pub returns-in-Ok-clause-ok : goal.returns-in-Ok-clause-ok
returns-in-Ok-clause-ok g c =
    let i = c.self.inside in
    let models = map (λ a. arc_value a) i.models.now in
    let first = c.first_of-automaton.ensures.found ∙ ap (λ (p : Progress). first_automaton p.models) c.self.view_is in
    subst (λ (r : Result (List (List ℕ)) Refusal). OnOk c.add_opening.result (TellsHeader c.args.self.now c.add_opening.new.self c.args.number r c.args.blocks.now.items c.add_opening.new.blocks.items))
    (ap (λ names. Ok names) c.deref.ensures.value ∙ sym c.in-Ok.ensures.columns)
    (on_ok_weaker c.add_opening.result
    (header_told i.form models i.runs i.table i.has_begun i.tally c.args.self.now c.add_opening.new.self c.args.number c.deref.result.now
    (option_map (λ a. arc_value a.now) c.first_of-automaton.result) c.args.blocks.now.items c.add_opening.new.blocks.items c.self.view_is c.self.invariant c.requires.check c.requires.first first)
    c.add_opening.ensures.ok)
