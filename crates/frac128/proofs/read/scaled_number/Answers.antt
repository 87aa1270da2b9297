use Rattle.std.proofs.Common.{◌*◌, ◌^◌, Some, sym, ◌∙◌, ap, arith, Ok}
use Rattle.number_specs.specs.LogNumbers.{number_of}
use Rattle.frac128.proofs.RangeLemmas.{number_zero, number_up, number_down}
use Rattle.frac128.proofs.read.scaled_number.Goals as goal

pub returns-then-number-eq0 : goal.returns-then-number-eq0
returns-then-number-eq0 c =
    ap Ok c.make.ensures ∙ sym (number_zero c.args.is_negative c.args.up c.args.down)
    ∙ ap (λ n. number_of (Some (record { is_negative = c.args.is_negative; top = n * 10 ^ c.args.up; bottom = 10 ^ c.args.down }))) (sym c.if-number-eq0.true)

pub returns-then-up-down : goal.returns-then-up-down
returns-then-up-down c = c.whole_number.ensures ∙ number_up c.args.is_negative c.args.number c.args.up c.args.down c.if-up-down.true

pub returns-else-up-down : goal.returns-else-up-down
returns-else-up-down c = c.decimal_number.ensures ∙ number_down c.args.is_negative c.args.number c.args.up c.args.down (omega arith)
