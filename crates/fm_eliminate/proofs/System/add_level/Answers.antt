use Rattle.std.proofs.Common.{◌≡◌, Err, ap, rules}
use Rattle.fm_eliminate.specs.declared.RowFault.TheVariants.{Passes}
use Rattle.fm_eliminate.proofs.LevelLemmas.{added_passes, level_added}
use Rattle.fm_eliminate.proofs.System.add_level.Goals as goal

pub returns-in_err-left-clause-passes : goal.returns-in_err-left-clause-passes
returns-in_err-left-clause-passes c e first h =
    let same : c.in_err-left.field-0.0 ≡ Passes = search rules in
    added_passes c.args.x c.args.self.now c.index.result.now c.args.systems.now.items c.requires.within c.requires.levels c.index.ensures first h
    (c.in_err-left.ensures.passes (ap (λ f. Err f) same))

pub returns-clause-ok : goal.returns-clause-ok
returns-clause-ok c =
    level_added c.args.x c.args.self.now c.index.result.now c.args.systems.now.items c.requires.within c.requires.levels c.index.ensures
    c.in_ok-left.left c.put_first.new.systems.items c.in_ok-left.ensures.ok.0 c.in_ok-left.ensures.ok.1 c.in_ok-put_first.ensures
