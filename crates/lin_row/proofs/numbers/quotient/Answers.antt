use Rattle.std.proofs.Common.{◌≡◌, ◌∙◌, sym, ap, pos, to_z}
use Rattle.std.specs.Int.{w128}
use Rattle.std.proofs.lemmas.Int.{to_z-of_z}
use Rattle.lin_row.proofs.DivisorLemmas.{quotient-by_one}
use Rattle.lin_row.proofs.numbers.quotient.Goals as goal

pub returns-then-factor-eq1 : goal.returns-then-factor-eq1
returns-then-factor-eq1 c =
    let one : c.args.factor ≡ pos 1 = sym (to_z-of_z w128 c.args.factor c.ranges.factor) ∙ ap (to_z w128) c.if-factor-eq1.true in
    to_z-of_z w128 c.args.number c.ranges.number ∙ sym (quotient-by_one c.args.factor c.args.number one)
