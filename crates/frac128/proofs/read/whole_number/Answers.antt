use Rattle.std.proofs.Common.{◌*◌, ◌^◌, ◌<◌, pos, sym, ◌∙◌, ap, subst, arith, Ok}
use Rattle.poly_specs.specs.Arithmetic.{lowest}
use Rattle.number_specs.specs.LogNumbers.{signed}
use Rattle.frac128.proofs.RangeLemmas.{whole_small, whole_ranged, whole_large, whole_long}
use Rattle.frac128.proofs.read.whole_number.Goals as goal

pub returns-then-zeros-ge-MOST_WHOLE_DIGITS : goal.returns-then-zeros-ge-MOST_WHOLE_DIGITS
returns-then-zeros-ge-MOST_WHOLE_DIGITS c = sym (whole_long c.args.is_negative c.args.number c.args.zeros c.if-zeros-ge-MOST_WHOLE_DIGITS.true c.requires)

pub returns-then-number-power_of_ten : goal.returns-then-number-power_of_ten
returns-then-number-power_of_ten c = sym (whole_large c.args.is_negative c.args.number c.args.zeros c.if-zeros-ge-MOST_WHOLE_DIGITS.false (omega arith))

module _ (c : goal.After-power_of_ten-2) where
  pub small : c.args.number * c.power_of_ten-2.result < 10 ^ 15
  small =
      subst (λ p. c.args.number * p < 10 ^ 15) (sym c.power_of_ten-2.ensures)
      (whole_small c.args.number c.args.zeros c.if-zeros-ge-MOST_WHOLE_DIGITS.false (omega arith))

pub signed_fraction-requires-clause-top : goal.signed_fraction-requires-clause-top
signed_fraction-requires-clause-top c = let h = small c in omega (arith, h)

pub returns : goal.returns
returns c =
    ap Ok (c.signed_fraction.ensures ∙ ap (λ p. lowest (record { num = signed c.args.is_negative (c.args.number * p); den = pos 1 })) c.power_of_ten-2.ensures)
    ∙ sym (whole_ranged c.args.is_negative c.args.number c.args.zeros c.if-zeros-ge-MOST_WHOLE_DIGITS.false (omega arith))
