use Rattle.live_session.proofs.DrivenLemmas.{begun_at}
use Rattle.log_table.proofs.opened.refused_by_limit.Goals as goal

pub cancel-requires : goal.cancel-requires
cancel-requires c = (c.args.sample.now, begun_at c.args.session.now c.begin.new.self c.args.sample.now c.in-Ok.ensures.ok)
