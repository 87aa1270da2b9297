use Rattle.wave_log.specs.Waves.{opening_row}
use Rattle.wave_log.proofs.EachBelow.{none_yet, one_more}
use Rattle.wave_log.proofs.rows.add_openings.Goals as goal

pub loop-session-init : goal.loop-session-init
loop-session-init c = none_yet c.args.log.now.items opening_row

pub loop-session-preserved : goal.loop-session-preserved
loop-session-preserved c =
    one_more _ c.loop-session.log.items c.add_opening.new.log.items c.loop-session.session opening_row c.loop-session.invariant c.in_ok-add_opening.ensures
