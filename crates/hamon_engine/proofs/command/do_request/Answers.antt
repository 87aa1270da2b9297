use Rattle.std.proofs.Common.{ℕ, ◌≤◌, List, length, map, subst, sym}
use Rattle.std.specs.Prelude.{IfSome}
use Rattle.std.specs.Arc.{arc_value}
use Rattle.command_words.specs.Said.{said, said_command}
use Rattle.hamon_engine.specs.Models.{AreModelsOf, LacksModels}
use Rattle.hamon_engine.proofs.ModelLemmas.{named_apart}
use Rattle.hamon_engine.proofs.CommandLemmas.{does_from, does_alone, does_cause}
use Rattle.hamon_engine.proofs.RunLemmas.{lacks_runs, lacks_cause, does_runs}
use Rattle.hamon_engine.proofs.command.do_request.Goals as goal

pub do_command-requires-clause-names : goal.do_command-requires-clause-names
do_command-requires-clause-names g c = named_apart (map (λ a. arc_value a) c.deref.result.now) (rw c.deref.ensures.value c.in-Ok.ensures.names)

pub returns-in-Ok-clause-tellable : goal.returns-in-Ok-clause-tellable
returns-in-Ok-clause-tellable g c =
    does_alone c.args.request.now.options _ _ c.do_command.result (said_command c.args.request.now.command) (map (λ a. arc_value a) c.deref.result.now) c.do_command.ensures

pub returns-in-Ok-clause-cause : goal.returns-in-Ok-clause-cause
returns-in-Ok-clause-cause g c =
    does_cause c.args.request.now.options _ _ c.do_command.result (said_command c.args.request.now.command) (map (λ a. arc_value a) c.deref.result.now)
    (does_from (said_command c.args.request.now.command) (map (λ a. arc_value a) c.deref.result.now) c.args.request.now.options _ _
    (g.S.Shelf.text c.args.shelf.now) (g.S.Shelf.text c.models_from.new.shelf) (g.S.Shelf.text c.do_command.new.shelf) _ _ _ c.do_command.result
    c.models_from.ensures.same c.models_from.ensures.later c.do_command.ensures)

pub returns-in-Ok-clause-report : goal.returns-in-Ok-clause-report
returns-in-Ok-clause-report g c =
    let named =
    subst (λ (name : List ℕ). IfSome (g.S.Shelf.text c.args.shelf.now name) (λ text. AreModelsOf text (map (λ a. arc_value a) c.in-Ok.models.items))) c.model_of.ensures c.in-Ok.ensures.models in
    does_runs _ _ (g.S.Shelf.text c.args.shelf.now) (g.S.Shelf.text c.do_command.new.shelf) _ _ c.do_command.result (map (λ a. arc_value a) c.deref.result.now) (said c.args.request.now)
    (rw c.deref.ensures.value named)
    (does_from (said_command c.args.request.now.command) (map (λ a. arc_value a) c.deref.result.now) c.args.request.now.options _ _
    (g.S.Shelf.text c.args.shelf.now) (g.S.Shelf.text c.models_from.new.shelf) (g.S.Shelf.text c.do_command.new.shelf) _ _ _ c.do_command.result
    c.models_from.ensures.same c.models_from.ensures.later c.do_command.ensures)

pub returns-in-Err-clause-report : goal.returns-in-Err-clause-report
returns-in-Err-clause-report g c =
    rw (← c.ended_without.ensures)
    (lacks_runs _ (g.S.Shelf.text c.args.shelf.now) _ _ _ c.in-Err.why (said c.args.request.now)
    (subst (λ (name : List ℕ). LacksModels (g.S.Shelf.text c.args.shelf.now name) (g.S.Shelf.faults c.args.shelf.now) (g.S.Shelf.faults c.models_from.new.shelf) c.in-Err.why) c.model_of.ensures c.in-Err.ensures.lack))

pub returns-in-Err-clause-cause : goal.returns-in-Err-clause-cause
returns-in-Err-clause-cause g c =
    rw (← c.ended_without.ensures)
    (lacks_cause _ (g.S.Shelf.text c.args.shelf.now) (g.S.Shelf.text c.models_from.new.shelf) _ _ c.in-Err.why _ (said_command c.args.request.now.command) c.in-Err.ensures.lack)
