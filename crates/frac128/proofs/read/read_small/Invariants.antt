use Rattle.std.proofs.Common.{◌≡◌, ℕ, ◌+◌, ◌^◌, ◌<◌, length}
use Rattle.number_specs.specs.LogNumbers.{small_from}
use Rattle.frac128.proofs.read.read_small.Given as goal

abbrev pub invariant-loop-rest : goal.invariant-loop-rest
invariant-loop-rest l = (count : ℕ) × (count + length l.rest ≡ length l.bytes) × (small_from 0 0 l.bytes ≡ small_from l.value count l.rest) × (l.value < 10 ^ count)

abbrev pub decreases-loop-rest : goal.decreases-loop-rest
decreases-loop-rest l = length l.rest
