use Rattle.std.proofs.Common.{◌≤ℤ◌, pos, subst}
use Rattle.std.proofs.lemmas.Int.{by_lt_z}
use Rattle.poly_specs.specs.Rows.{coef_at}
use Rattle.poly_decide.specs.Caps.{IsLeastCap}
use Rattle.poly_decide.proofs.CapLemmas.{no_cap_more, first_cap, lesser_cap}
use Rattle.poly_decide.proofs.caps.with_row.Goals as goal

pub returns-then-not-is_capping : goal.returns-then-not-is_capping
returns-then-not-is_capping c rows h =
    let none = c.if-not-is_capping.true in
    let le : coef_at 0 c.args.row.now ≤ℤ pos 0 =
    by_lt_z (pos 0) (coef_at 0 c.args.row.now) (λ lt. (let some = c.is_capping.ensures.1 lt in let b : ⊥ = cc in absurd b)) (λ le. le) in
    no_cap_more rows c.args.row.now c.args.least le h

pub returns-in-None : goal.returns-in-None
returns-in-None c rows h =
    first_cap rows c.args.row.now c.cap_of-cap.result (c.is_capping.ensures.0 c.if-not-is_capping.false) c.cap_of-cap.ensures (subst (IsLeastCap rows) c.in-None.is h)

pub returns-in-Some : goal.returns-in-Some
returns-in-Some c rows h =
    lesser_cap rows c.args.row.now c.in-Some.other c.cap_of-cap.result c.lesser.result (c.is_capping.ensures.0 c.if-not-is_capping.false) c.cap_of-cap.ensures
    (subst (IsLeastCap rows) c.in-Some.is h) c.lesser.ensures
