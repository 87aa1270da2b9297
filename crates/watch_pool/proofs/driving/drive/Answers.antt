use Rattle.std.proofs.Common.{◌∙◌, ap}
use Rattle.run_specs.specs.Sessions.{MonitorSession}
use Rattle.live_session.proofs.DrivenLemmas.{begun_at, begun_without, driven}
use Rattle.watch_pool.proofs.driving.drive.Goals as goal

pub give_wanted-requires : goal.give_wanted-requires
give_wanted-requires g c = record {
  begun = (c.args.sample.now, begun_at c.args.session.now c.begin.new.session c.args.sample.now c.in_ok-begin.ensures.ok);
  nothing_given = begun_without c.args.session.now c.begin.new.session c.args.sample.now c.in_ok-begin.ensures.ok;
}

pub cancel-requires : goal.cancel-requires
cancel-requires g c = (
  c.args.sample.now,
  ap (λ (s : MonitorSession). s.phase) c.in-Err.ensures.err ∙ begun_at c.args.session.now c.begin.new.session c.args.sample.now c.in_ok-begin.ensures.ok,
)

pub returns-in-Ok-clause-ok : goal.returns-in-Ok-clause-ok
returns-in-Ok-clause-ok g c =
    driven c.args.session.now c.begin.new.session c.give_wanted.new.session c.finish.new.self c.args.sample.now c.finish.result c.in_ok-begin.ensures.ok c.in-Ok.ensures.ok
    c.finish.ensures.finishes c.finish.ensures.lawful c.finish.ensures.stays
