use Rattle.std.proofs.Common.{◌∙◌}
use Rattle.sample_succ.proofs.AnswerLemmas.{items_answer}
use Rattle.sample_succ.proofs.gap_step.step.Goals as goal

pub returns-in_ok-found-in-Ok : goal.returns-in_ok-found-in-Ok
returns-in_ok-found-in-Ok c =
    items_answer c.args.key.now c.in-Ok.found.items c.new.result (c.new.ensures ∙ c.in_ok-found-in-Ok.ensures) c.in-Ok.ensures.ok c.in-Ok.ensures.wide
