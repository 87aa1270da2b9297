use Rattle.std.proofs.Common.{SFits, rules}
use Rattle.std.specs.Int.{w128}
use Rattle.std.proofs.lemmas.Int.{to_z-of_z}
use Rattle.run_check.proofs.NumberLemmas.{same_says}
use Rattle.run_check.proofs.numbers.is_same.Goals as goal

pub returns : goal.returns
returns c =
    let num : SFits w128 c.args.num = search rules in
    let den : SFits w128 c.args.den = search rules in
    let other_num : SFits w128 c.args.other_num = search rules in
    let other_den : SFits w128 c.args.other_den = search rules in
    same_says (record { num = c.args.num; den = c.args.den }) (record { num = c.args.other_num; den = c.args.other_den }) c.make.result c.make-2.result
    c.eq.result c.requires.positive c.requires.other_positive (simp (to_z-of_z, num, den) at c.make.ensures)
    (simp (to_z-of_z, other_num, other_den) at c.make-2.ensures) c.eq.ensures
