use Rattle.std.proofs.Common.{◌∙◌, SFits, sym, subst, rules, to_z, of_z}
use Rattle.std.specs.Int.{w128}
use Rattle.std.proofs.lemmas.Int.{to_z-of_z}
use Rattle.poly_specs.specs.Bits.{NonePasses}
use Rattle.poly_specs.specs.Evaluation.{eval_numbers}
use Rattle.fm_eliminate.proofs.HoldingLemmas.{some_passes}
use Rattle.fm_eliminate.proofs.holding.row_holds.Goals as goal

pub returns-in-None : goal.returns-in-None
returns-in-None c =
    let fits : SFits w128 c.den.result = search rules in
    some_passes (eval_numbers c.args.row.now c.args.at.now.num c.args.at.now.den) (λ none.
    c.in-None.ensures (subst (λ ns. NonePasses (eval_numbers c.args.row.now ns (to_z w128 (of_z w128 c.den.result)))) (sym c.num.ensures.value)
    (subst (λ d. NonePasses (eval_numbers c.args.row.now c.args.at.now.num d)) (sym (to_z-of_z w128 c.den.result fits ∙ c.den.ensures.value)) none)))
