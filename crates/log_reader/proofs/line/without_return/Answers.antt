use Rattle.std.proofs.Common.{arith, sym}
use Rattle.log_reader.proofs.ByteLemmas.{return_dropped, return_kept, return_of_nothing}
use Rattle.log_reader.proofs.line.without_return.Goals as goal
use Rattle.log_reader.proofs.line.without_return.Goals.{else-size-gt0-via-then-size-gt0+else-raw-size-eq13, else-size-gt0-via-else-size-gt0}

pub returns-then-raw-size-eq13 : goal.returns-then-raw-size-eq13
returns-then-raw-size-eq13 c = sym (return_dropped _ _ (omega (arith, c.if-size-gt0.true)) c.if-raw-size-eq13.true)

pub returns-else-size-gt0 : goal.returns-else-size-gt0
returns-else-size-gt0 c =
    elim c.else-size-gt0.branch [
      | else-size-gt0-via-then-size-gt0+else-raw-size-eq13 w ↦ sym (return_kept _ _ (omega (arith, w.if-size-gt0.true)) w.if-raw-size-eq13.false)
      | else-size-gt0-via-else-size-gt0 w ↦ sym (return_of_nothing _ (omega (arith, w.if-size-gt0.false)))
    ]
