use Rattle.std.proofs.Common.{◌∙◌, sym}
use Rattle.model_rows.proofs.TotalLemmas.{summed_here, summed_elsewhere}
use Rattle.model_rows.proofs.rows.with_part.Goals as goal

pub returns-then-is_at : goal.returns-then-is_at
returns-then-is_at c =
    summed_here c.args.place c.args.part.now c.args.sum c.value.result c.add.result (sym c.is_at.ensures ∙ c.if-is_at.true) c.value.ensures c.add.ensures

pub returns-else-is_at : goal.returns-else-is_at
returns-else-is_at c = summed_elsewhere c.args.place c.args.part.now c.args.sum (sym c.is_at.ensures ∙ c.if-is_at.false)
