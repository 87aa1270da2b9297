use Rattle.std.proofs.Common.{◌∙◌, ◌-◌, get_or, length, pos, refl, ap, arith, SFits, rules}
use Rattle.std.specs.Int.{w128}
use Rattle.std.proofs.lemmas.Int.{to_z-of_z}
use Rattle.poly_specs.specs.Elimination.{divided}
use Rattle.model_rows.proofs.RowLemmas.{row_over_is, divided_same}
use Rattle.model_rows.proofs.rows.row_over.Goals as goal

pub returns : goal.returns
returns c =
    let last = length c.args.nums.now - 1 in
    let fits : SFits w128 (get_or c.args.nums.now last (pos 0)) = search rules in
    c.make_as.ensures ∙ divided_same _ _ _ _ _ _ refl (to_z-of_z w128 (get_or c.args.nums.now last (pos 0)) fits) refl
    ∙ ap divided (row_over_is c.args.strict c.args.nums.now last (pos 0) (omega arith))
