use Rattle.std.proofs.Common.{◌↔◌, sym, ap, subst}
use Rattle.poly_specs.specs.Lists.{IsAmong}
use Rattle.poly_specs.specs.Rows.{AllHold}
use Rattle.run_specs.specs.Stages.{rows_after}
use Rattle.stage_rows.specs.Projecting.{projecting}
use Rattle.stage_rows.proofs.ProjectionLemmas.{free_zeros, left_plain, left_same}
use Rattle.stage_rows.proofs.projection.cut_left.Goals as goal

pub cut-requires-clause-zeros : goal.cut-requires-clause-zeros
cut-requires-clause-zeros c = free_zeros _ _ _ _ c.in_ok-left.ensures.ok.level

pub returns-clause-same : goal.returns-clause-same
returns-clause-same c p h l =
    subst (λ rows. AllHold rows p ↔ AllHold (rows_after (projecting c.args.first c.args.system.now)) p) (sym (ap (λ s. s.rows) c.in_ok-cut.ensures))
    (left_same c.args.system.now c.args.first c.in_ok-left.left.rows c.requires c.width.ensures.kept.wide c.in_ok-left.ensures.ok.level p.den p.num h l)

pub returns-clause-plain : goal.returns-clause-plain
returns-clause-plain c =
    subst (λ rows. IsAmong rows (rows_after (projecting c.args.first c.args.system.now))) (sym (ap (λ s. s.rows) c.in_ok-cut.ensures))
    (left_plain c.args.system.now c.args.first c.in_ok-left.left.rows c.requires c.width.ensures.kept.wide c.in_ok-left.ensures.ok.level)
