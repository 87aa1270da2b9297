use Rattle.std.proofs.Common.{◌∙◌, ap}
use Rattle.poly_specs.specs.Arithmetic.{lowest}
use Rattle.poly_specs.specs.Fractions.{sum_of, opposite}
use Rattle.run_specs.specs.Stages as stages
use Rattle.sample_succ.proofs.SampleRows.{lower_row}
use Rattle.sample_succ.proofs.sample_rows.lower.Goals as goal

pub returns-clause-ok : goal.returns-clause-ok
returns-clause-ok c =
    c.at_least.ensures ∙ ap (stages.at_least c.args.count c.args.x) c.in_ok-least.ensures.ok
    ∙ ap (λ w. stages.at_least c.args.count c.args.x (lowest (sum_of c.args.v.now w))) c.neg.ensures
    ∙ lower_row c.args.count c.args.x c.args.v.now (opposite c.args.w.now) c.requires.within c.den.ensures.kept.positive c.den-2.ensures.kept.positive
