use Rattle.wave_log.specs.Waves.{sample_row}
use Rattle.wave_log.proofs.EachBelow.{none_yet, one_more}
use Rattle.wave_log.proofs.rows.add_samples.Goals as goal

pub loop-session-init : goal.loop-session-init
loop-session-init c = none_yet c.args.log.now.items (sample_row c.args.seed c.args.time)

pub loop-session-preserved : goal.loop-session-preserved
loop-session-preserved c =
    one_more c.args.log.now.items c.loop-session.log.items c.add_sample.new.log.items c.loop-session.session (sample_row c.args.seed c.args.time)
    c.loop-session.invariant c.in_ok-add_sample.ensures
