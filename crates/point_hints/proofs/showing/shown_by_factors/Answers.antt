use Rattle.std.proofs.Common.{refl, subst, List}
use Rattle.poly_specs.specs.Rows.{Row}
use Rattle.point_hints.specs.Summing.{IsRefuted}
use Rattle.point_hints.proofs.SumLemmas.{refuted_is_empty}
use Rattle.point_hints.proofs.showing.shown_by_factors.Goals as goal

pub returns-then-is_refuted : goal.returns-then-is_refuted
returns-then-is_refuted c =
    refuted_is_empty c.args.system.now.width c.args.factors.now c.args.system.now.rows c.width.ensures.kept.wide
    (subst (λ w. IsRefuted w c.args.factors.now c.args.system.now.rows) c.width.ensures.value
    (subst (λ (rows : List Row). IsRefuted c.width.result c.args.factors.now rows) c.rows-rows.ensures.value (c.if-is_refuted.ensures refl)))
