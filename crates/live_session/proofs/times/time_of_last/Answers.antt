use Rattle.std.proofs.Common.{◌∙◌}
use Rattle.live_session.proofs.LastLemmas.{last_time_at}
use Rattle.live_session.proofs.times.time_of_last.Goals as goal

pub returns-in-Some : goal.returns-in-Some
returns-in-Some c = c.time.ensures ∙ last_time_at c.args.log.now c.in-Some.sample.now c.in-Some.ensures.value
