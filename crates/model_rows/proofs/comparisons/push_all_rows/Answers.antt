use Rattle.std.proofs.Common.{◌≡◌, Err, ap, arith, rules}
use Rattle.model_specs.specs.Constraints.{comparison_rows, comparison_numbers}
use Rattle.model_specs.specs.Faults.{some_passes}
use Rattle.model_rows.specs.declared.faults.RowFault.TheVariants.{Passes}
use Rattle.model_rows.proofs.ListLemmas.{gathered}
use Rattle.model_rows.proofs.PassLemmas.{none_more, some_one}
use Rattle.model_rows.proofs.comparisons.push_all_rows.Goals as goal

pub returns-in_err-push_rows-clause-passes : goal.returns-in_err-push_rows-clause-passes
returns-in_err-push_rows-clause-passes c e =
    let same : c.in_err-push_rows.field-0.0 ≡ Passes = search rules in
    some_one (λ x. some_passes (comparison_numbers c.args.width x)) c.args.said.now c.loop-one.one-index c.one-item.result (omega arith) c.one-item.is
    (c.in_err-push_rows.ensures.passes (ap (λ f. Err f) same))

pub loop-one-preserved : goal.loop-one-preserved
loop-one-preserved c = (
  gathered (comparison_rows c.args.width) c.args.said.now c.loop-one.one-index c.one-item.result c.args.rows.now.items c.loop-one.rows.items
      c.push_rows.new.rows.items (omega arith) c.one-item.is c.loop-one.invariant.0 c.in_ok-push_rows.ensures.ok,
  none_more (λ x. some_passes (comparison_numbers c.args.width x)) c.args.said.now c.loop-one.one-index c.one-item.result (omega arith) c.one-item.is
      c.loop-one.invariant.1 c.in_ok-push_rows.ensures.kept,
)
