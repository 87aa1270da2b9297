use Rattle.std.proofs.Common.{◌∙◌, ap}
use Rattle.log_specs.specs.LogSessions.{is_below}
use Rattle.log_samples.proofs.RowLemmas.{follows_last}
use Rattle.log_samples.proofs.rows.may_follow.Goals as goal

pub returns-in-Some : goal.returns-in-Some
returns-in-Some c =
    c.is_below.ensures ∙ ap (λ t. is_below t c.args.time.now) c.time.ensures
    ∙ follows_last c.args.samples.now c.in-Some.last.now c.args.time.now c.in-Some.ensures.value
