use Rattle.std.proofs.Common.{◌++◌, ◌∙◌, ap}
use Rattle.wave_log.specs.Waves.{each_below, opening_row, rows_at}
use Rattle.wave_log.proofs.EachBelow.{none_yet, one_more}
use Rattle.wave_log.proofs.rows.wave_log.Goals as goal

pub loop-time-init : goal.loop-time-init
loop-time-init c = c.in_ok-add_openings.ensures ∙ ap (λ bytes. bytes ++ each_below 8 opening_row) c.new-log.ensures.items ∙ none_yet (each_below 8 opening_row) (rows_at c.args.seed)

pub loop-time-preserved : goal.loop-time-preserved
loop-time-preserved c =
    one_more (each_below 8 opening_row) c.loop-time.log.items c.add_samples.new.log.items c.loop-time.time (rows_at c.args.seed) c.loop-time.invariant c.in_ok-add_samples.ensures
