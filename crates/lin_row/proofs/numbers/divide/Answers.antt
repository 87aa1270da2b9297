use Rattle.std.proofs.Common.{◌≡◌, ◌∙◌, sym, ap, pos, to_z}
use Rattle.std.specs.Int.{w128}
use Rattle.std.proofs.lemmas.Int.{to_z-of_z}
use Rattle.lin_row.proofs.DivisorLemmas.{quotients-by_one}
use Rattle.lin_row.proofs.numbers.divide.Goals as goal

pub returns-else-factor-ne1-clause-items : goal.returns-else-factor-ne1-clause-items
returns-else-factor-ne1-clause-items c =
    let one : c.args.factor ≡ pos 1 = sym (to_z-of_z w128 c.args.factor c.ranges.factor) ∙ ap (to_z w128) c.if-factor-ne1.false in
    sym (quotients-by_one c.args.factor c.args.numbers.now.items one)
