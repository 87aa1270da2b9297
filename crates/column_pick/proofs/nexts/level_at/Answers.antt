use Rattle.std.proofs.Common.{◌-◌, ◌+◌, ◌∙◌, ap, get_or, List, ℕ}
use Rattle.poly_specs.specs.Systems.{System}
use Rattle.column_pick.proofs.LevelLemmas.{level_is}
use Rattle.column_pick.proofs.nexts.level_at.Goals as goal

pub returns-clause-level : goal.returns-clause-level
returns-clause-level c =
    let t = c.index-systems-x.result in
    level_is c.args.levels.now c.args.x t c.requires.levels c.requires.from_first c.requires.within
    (c.index-systems-x.is ∙ ap (λ (ts : List System). get_or ts (c.args.x + 1 - c.first.result) t) c.systems.ensures.value
    ∙ ap (λ (f : ℕ). get_or c.args.levels.now.systems (c.args.x + 1 - f) t) c.first.ensures)
