use Rattle.std.proofs.Common.{◌≡◌, Err, ap, rules}
use Rattle.fm_eliminate.proofs.LevelLemmas.{level_passes}
use Rattle.fm_eliminate.specs.declared.RowFault.TheVariants.{Passes}
use Rattle.poly_decide.proofs.ThinningLemmas.{next_level}
use Rattle.poly_decide.proofs.thinning.without_column.Goals as goal

pub returns-in_err-all-clause-passes : goal.returns-in_err-all-clause-passes
returns-in_err-all-clause-passes c e first h =
    let same : c.in_err-all.field-0.0 ≡ Passes = search rules in
    level_passes first c.args.x c.args.system.now.width c.args.system.now.rows c.args.left.now.rows h c.requires.within c.requires.level.level
    (c.in_err-all.ensures.passes (ap (λ f. Err f) same))

pub returns-clause-ok : goal.returns-clause-ok
returns-clause-ok c =
    next_level c.args.system.now c.args.left.now c.in_ok-all.all c.in_ok-few.few c.args.x c.requires.within c.width.ensures.kept.wide c.requires.level
    c.in_ok-all.ensures.ok.0 c.in_ok-all.ensures.ok.1 c.in_ok-few.ensures
