use Rattle.std.proofs.Common.{rules, pos, ◌<ℤ◌}
use Rattle.std.proofs.lemmas.Result.{IfErr-weaker}
use Rattle.poly_specs.specs.Rows.{coef_at}
use Rattle.fm_eliminate.proofs.CountLemmas.{pair_passes}
use Rattle.fm_eliminate.proofs.elimination.replace.Goals as goal

pub returns-then-coef-lt0-clause-passes : goal.returns-then-coef-lt0-clause-passes
returns-then-coef-lt0-clause-passes c =
    let below : coef_at c.args.x c.args.row.now <ℤ pos 0 = search rules in
    IfErr-weaker c.combine.result _ _ (λ e passes rows i l u. pair_passes c.args.x rows c.args.row.now c.args.upper.now i u below c.requires.upper passes) c.combine.ensures.passes

pub returns-clause-passes : goal.returns-clause-passes
returns-clause-passes c =
    let above : pos 0 <ℤ coef_at c.args.x c.args.row.now = search rules in
    IfErr-weaker c.combine-2.result _ _ (λ e passes rows i l u. pair_passes c.args.x rows c.args.lower.now c.args.row.now l i c.requires.lower above passes) c.combine-2.ensures.passes
