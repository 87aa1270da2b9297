use Rattle.std.proofs.Common.{◌<◌, ◌++◌, length, map, filter, sym, subst, arith, ap}
use Rattle.poly_specs.proofs.EliminationLemmas.{width_in}
use Rattle.poly_specs.specs.Rows.{AllWide}
use Rattle.poly_specs.specs.Systems.{IsProjection}
use Rattle.fm_eliminate.specs.Leaving.{IsLeft, is_needed, replaced}
use Rattle.fm_eliminate.proofs.EquationLemmas.{equation_count}
use Rattle.fm_eliminate.proofs.SubstitutionLemmas.{pivot_projection}
use Rattle.fm_eliminate.proofs.System.left_of_equation.Goals as goal

pub add_replaced-requires-clause-wide : goal.add_replaced-requires-clause-wide
add_replaced-requires-clause-wide c =
    let wide = c.rows-2.ensures.kept.wide in
    let sized = width_in c.args.self.now.width c.args.self.now.rows wide c.args.lower.now c.requires.pivot.lower_in in
    subst (λ rows. AllWide (length c.args.lower.now.coef) rows) (sym c.rows-2.ensures.value) (subst (λ w. AllWide w c.args.self.now.rows) (sym sized) wide)

pub returns-clause-ok : goal.returns-clause-ok
returns-clause-ok c =
    let fresh = subst (λ items. IsLeft (items ++ map (replaced c.args.x c.args.lower.now c.args.upper.now) c.rows-2.result.now) c.add_replaced.new.kept)
    c.in_ok-kept.ensures c.in_ok-add_replaced.ensures.ok in
    let left = subst (λ rows. IsLeft (map (replaced c.args.x c.args.lower.now c.args.upper.now) rows) c.add_replaced.new.kept) c.rows-2.ensures.value fresh in
    subst (IsProjection c.args.self.now.width c.args.x c.args.self.now.rows) (sym c.into_rows.ensures)
    (pivot_projection c.args.self.now.width c.args.x c.args.self.now.rows c.add_replaced.new.kept c.args.lower.now c.args.upper.now
    c.requires.within c.rows-2.ensures.kept.wide c.requires.pivot left)

pub returns-clause-few : goal.returns-clause-few
returns-clause-few c =
    let sized = width_in c.args.self.now.width c.args.self.now.rows c.rows-2.ensures.kept.wide c.args.lower.now c.requires.pivot.lower_in in
    let within : c.args.x < length c.args.lower.now.coef = omega arith in
    let count = equation_count c.args.x c.args.self.now.rows c.args.lower.now c.args.upper.now within c.requires.pivot in
    let few = c.in_ok-add_replaced.ensures.few in
    let same = ap (λ rows. length (filter is_needed (map (replaced c.args.x c.args.lower.now c.args.upper.now) rows))) c.rows-2.ensures.value in
    let none = ap length c.in_ok-kept.ensures in
    let all = ap length c.into_rows.ensures in
    omega (arith, few, same, none, all, count)
