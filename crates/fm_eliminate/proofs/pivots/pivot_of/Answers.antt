use Rattle.std.proofs.Common.{rules, IsFalse, pos, ◌<ℤ◌}
use Rattle.poly_specs.specs.Rows.{coef_at}
use Rattle.fm_eliminate.proofs.PivotLemmas.{upper_pivot}
use Rattle.fm_eliminate.proofs.pivots.pivot_of.Goals as goal

pub returns-else-coef-lt0 : goal.returns-else-coef-lt0
returns-else-coef-lt0 c =
    let above : pos 0 <ℤ coef_at c.args.x c.args.row.now = search rules in
    let closed : IsFalse c.args.row.now.strict = search rules in
    let found = c.in_ok-other.ensures in
    upper_pivot c.args.x c.args.rows.now c.args.row.now c.in_ok-other.other.now c.requires.within c.requires.among found.0 found.1 closed above
