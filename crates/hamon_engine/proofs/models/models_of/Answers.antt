use Rattle.std.specs.Arc.{arc_value}
use Rattle.hamon_engine.proofs.ModelLemmas.{are_models, some_left, some_seen, why_not}
use Rattle.hamon_engine.proofs.models.models_of.Goals as goal

pub returns-in-Ok-clause-models : goal.returns-in-Ok-clause-models
returns-in-Ok-clause-models c =
    are_models c.args.text.now _ c.in-Ok.ensures.automata c.in-Ok.ensures.found (some_seen (λ a. arc_value a) c.in-Ok.models.items c.in-Ok.ensures.some) c.in-Ok.ensures.names

pub returns-in-Err-clause-why : goal.returns-in-Err-clause-why
returns-in-Err-clause-why c = why_not c.args.text.now c.in-Err.fault c.refused.result c.refused.ensures c.in-Err.ensures.fault c.in-Err.ensures.found

pub returns-in-Ok-clause-some : goal.returns-in-Ok-clause-some
returns-in-Ok-clause-some c = some_left c.in-Ok.models.items c.in-Ok.ensures.some
