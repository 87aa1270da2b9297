use Rattle.live_session.proofs.DrivenLemmas.{begun_at}
use Rattle.interleave_core.proofs.seats.Seat.begin.Goals as goal

pub invariant_of-self : goal.invariant_of-self
invariant_of-self c = (c.args.sample.now, begun_at c.self.inside.session c.begin.new.self c.args.sample.now c.in-Ok.ensures.ok)
