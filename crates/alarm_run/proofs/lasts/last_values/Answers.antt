use Rattle.std.proofs.Common.{◌≡◌, ◌∙◌, List, [], ap, sym, subst}
use Rattle.column_pick.specs.Picked.{numbers_of, IsPickedPoint}
use Rattle.gap_runs.proofs.PartLemmas.{picked_numbers}
use Rattle.poly_specs.specs.Fractions.{Fraction}
use Rattle.poly_specs.specs.Rows.{Point}
use Rattle.alarm_run.specs.Lasts.{ArePickedLast}
use Rattle.alarm_run.proofs.lasts.last_values.Goals as goal

pub returns-clause-ok : goal.returns-clause-ok
returns-clause-ok c =
    let none : numbers_of c.no_numbers-none.result ≡ [] = ap (λ (p : Point). numbers_of p) c.no_numbers-none.ensures in
    let p : Point = c.in_ok-point.point in
    let is : IsPickedPoint c.args.system.now [] p = subst (λ (xs : List Fraction). IsPickedPoint c.args.system.now xs p) none c.in_ok-point.ensures.ok in
    subst (ArePickedLast c.args.system.now) (sym (c.in_ok-numbers.ensures ∙ picked_numbers c.args.system.now [] p is)) (record { point = p; lowest_terms = is.lowest_terms; picked = is.picked })
