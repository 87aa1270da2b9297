use Rattle.std.proofs.Common.{◌+◌, ◌-◌, ◌*◌, sym, subst}
use Rattle.number_specs.proofs.NumeralLemmas.{digit_small}
use Rattle.frac128.proofs.DigitLemmas.{keeps_few}
use Rattle.frac128.specs.Readings.{KeepsValue}
use Rattle.frac128.proofs.read.next_value.Goals as goal

pub returns-then-count-lt-MOST_DIGITS : goal.returns-then-count-lt-MOST_DIGITS
returns-then-count-lt-MOST_DIGITS c v h =
    subst (λ d. KeepsValue (v * 10 + (c.args.byte - 48)) (c.args.count + 1) (c.args.value * 10 + d)) (sym c.from-digit.ensures)
    (keeps_few v c.args.count c.args.value (c.args.byte - 48) c.if-count-lt-MOST_DIGITS.true (digit_small c.args.byte c.requires.digit) h)
