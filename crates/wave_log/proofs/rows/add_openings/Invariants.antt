use Rattle.std.proofs.Common.{◌≡◌, ◌++◌}
use Rattle.wave_log.specs.Waves.{each_below, opening_row}
use Rattle.wave_log.proofs.rows.add_openings.Given as goal

abbrev pub invariant-loop-session : goal.invariant-loop-session
invariant-loop-session l = l.log.items ≡ l.fn.log.items ++ each_below l.session opening_row
