use Rattle.std.proofs.Common.{◌∙◌, ap}
use Rattle.run_specs.specs.Sessions.{MonitorSession}
use Rattle.live_session.proofs.DrivenLemmas.{begun_at}
use Rattle.session_drive.proofs.DrivenOver.{driven_over}
use Rattle.session_drive.proofs.local.drive_local.Goals as goal

pub give_served-requires-clause-begun : goal.give_served-requires-clause-begun
give_served-requires-clause-begun g c = (c.args.sample.now, begun_at c.args.session.now c.begin.new.session c.args.sample.now c.in_ok-begin.ensures.ok)

pub cancel-requires : goal.cancel-requires
cancel-requires g c = (
  c.args.sample.now,
  ap (λ (s : MonitorSession). s.phase) c.in-Err.ensures.err ∙ begun_at c.args.session.now c.begin.new.session c.args.sample.now c.in_ok-begin.ensures.ok,
)

pub returns-in-Ok-clause-ok : goal.returns-in-Ok-clause-ok
returns-in-Ok-clause-ok g c =
    driven_over _ c.args.session.now c.begin.new.session c.give_served.new.session c.finish.new.self c.args.sample.now c.args.memo.now c.give_served.new.memo c.finish.result c.in-Ok.counts
    c.in_ok-begin.ensures.ok c.in-Ok.ensures.ok c.finish.ensures.finishes c.finish.ensures.lawful c.finish.ensures.stays
