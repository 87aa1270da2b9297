use Rattle.std.proofs.Common.{◌+◌, ◌^◌, ◌≤◌, pos, sym, ◌∙◌, ap, arith, Ok}
use Rattle.frac128.proofs.RangeLemmas.{power-positive, powers, decimal_ranged, decimal_large, decimal_fine}
use Rattle.poly_specs.specs.Arithmetic.{lowest}
use Rattle.number_specs.specs.LogNumbers.{signed}
use Rattle.frac128.proofs.read.decimal_number.Goals as goal

pub returns-then-decimals-gt-MOST_DECIMALS : goal.returns-then-decimals-gt-MOST_DECIMALS
returns-then-decimals-gt-MOST_DECIMALS c = sym (decimal_fine c.args.is_negative c.args.number c.args.decimals c.requires.stripped c.requires.positive (omega arith))

pub returns-then-number-power_of_ten : goal.returns-then-number-power_of_ten
returns-then-number-power_of_ten c = sym (decimal_large c.args.is_negative c.args.number c.args.decimals (omega arith))

pub signed_fraction-requires : goal.signed_fraction-requires
signed_fraction-requires c =
    let top : 10 ^ (15 + c.args.decimals) ≤ 10 ^ 37 = powers (15 + c.args.decimals) 37 (omega arith) in
    let bottom : 10 ^ c.args.decimals ≤ 10 ^ 37 = powers c.args.decimals 37 (omega arith) in
    let some = power-positive c.args.decimals in
    record { top = omega (arith, top); positive = omega (arith, some); bottom = omega (arith, bottom) }

pub returns : goal.returns
returns c =
    ap Ok (c.signed_fraction.ensures ∙ ap (λ b. lowest (record { num = signed c.args.is_negative c.args.number; den = pos b })) c.power_of_ten-2.ensures)
    ∙ sym (decimal_ranged c.args.is_negative c.args.number c.args.decimals (omega arith) (omega arith))
