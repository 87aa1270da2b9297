use Rattle.std.proofs.Common.{◌∙◌, SFits, rules}
use Rattle.std.specs.Int.{w128}
use Rattle.std.proofs.lemmas.Int.{to_z-of_z}
use Rattle.column_pick.proofs.RowLemmas.{one_row_more}
use Rattle.column_pick.proofs.ranges.with_row.Goals as goal

pub returns-clause-some : goal.returns-clause-some
returns-clause-some c rows is =
    let value_fits : SFits w128 c.in_ok-value.value = search rules in
    let lead_fits : SFits w128 c.coefficient-lead.result = search rules in
    one_row_more c.args.x c.args.point.now rows c.args.row.now c.args.range.now c.with_line.result _ _ _ c.see_kept_point.ensures.positive
    (to_z-of_z w128 c.coefficient-lead.result lead_fits ∙ c.coefficient-lead.ensures.value)
    (to_z-of_z w128 c.in_ok-value.value value_fits ∙ c.in_ok-value.ensures.some.0) c.strict.ensures.value c.with_line.ensures is
