use Rattle.std.proofs.Common.{◌∙◌, ap}
use Rattle.run_specs.specs.Stages as stages
use Rattle.sample_succ.proofs.SampleRows.{upper_row}
use Rattle.sample_succ.proofs.sample_rows.upper.Goals as goal

pub returns-clause-ok : goal.returns-clause-ok
returns-clause-ok c =
    c.at_most.ensures ∙ ap (stages.at_most c.args.count c.args.x) c.in_ok-most.ensures.ok
    ∙ upper_row c.args.count c.args.x c.args.v.now c.args.w.now c.requires.within c.den.ensures.kept.positive c.den-2.ensures.kept.positive
