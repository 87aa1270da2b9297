use Rattle.std.proofs.Common.{◌≡◌, ◌++◌}
use Rattle.wave_log.specs.Waves.{each_below, sample_row}
use Rattle.wave_log.proofs.rows.add_samples.Given as goal

abbrev pub invariant-loop-session : goal.invariant-loop-session
invariant-loop-session l = l.log.items ≡ l.fn.log.items ++ each_below l.session (sample_row l.seed l.time)
