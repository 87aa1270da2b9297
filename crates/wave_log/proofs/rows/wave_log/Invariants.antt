use Rattle.std.proofs.Common.{◌≡◌, ◌++◌}
use Rattle.wave_log.specs.Waves.{each_below, opening_row, rows_at}
use Rattle.wave_log.proofs.rows.wave_log.Given as goal

abbrev pub invariant-loop-time : goal.invariant-loop-time
invariant-loop-time l = l.log.items ≡ each_below 8 opening_row ++ each_below l.time (rows_at l.seed)
