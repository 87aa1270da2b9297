use Rattle.fm_eliminate.proofs.HoldingLemmas.{some_passes}
use Rattle.poly_specs.specs.Arithmetic.{sum_numbers}
use Rattle.sample_succ.proofs.sample_rows.sum.Goals as goal

pub returns-in-None-clause-passes : goal.returns-in-None-clause-passes
returns-in-None-clause-passes c = some_passes (sum_numbers c.args.v.now c.args.w.now) c.in-None.ensures
