use Rattle.std.proofs.Common.{subst}
use Rattle.std.specs.Prelude.{All}
use Rattle.poly_specs.specs.Rows.{Row}
use Rattle.poly_decide.specs.Caps.{IsCap, IsWithin}
use Rattle.poly_decide.proofs.BoundLemmas.{empty_bound, unbounded, greatest, limit}
use Rattle.poly_decide.proofs.limits.bound_of.Goals as goal

pub returns-then-some_never_holds : goal.returns-then-some_never_holds
returns-then-some_never_holds c n rows r level sums =
    empty_bound n rows r c.args.none.now c.args.first.now level sums (c.some_never_holds.ensures.0 c.if-some_never_holds.true)

pub returns-in-None : goal.returns-in-None
returns-in-None c n rows r level sums =
    unbounded n rows r c.args.none.now c.args.first.now level sums c.some_never_holds.result c.some_never_holds.ensures c.if-some_never_holds.false c.in-None.ensures

pub returns-then-cap : goal.returns-then-cap
returns-then-cap c n rows r level sums =
    limit n rows r c.args.none.now c.args.first.now level sums c.some_never_holds.result c.some_never_holds.ensures c.if-some_never_holds.false c.in-Some.cap.end
    (subst (λ o. IsCap (record { end = c.in-Some.cap.end; is_open = o }) (λ v. All (λ (s : Row). IsWithin s v) c.args.first.now)) c.if-cap.true c.in-Some.ensures)

pub returns-else-cap : goal.returns-else-cap
returns-else-cap c n rows r level sums =
    greatest n rows r c.args.none.now c.args.first.now level sums c.some_never_holds.result c.some_never_holds.ensures c.if-some_never_holds.false c.in-Some.cap.end
    (subst (λ o. IsCap (record { end = c.in-Some.cap.end; is_open = o }) (λ v. All (λ (s : Row). IsWithin s v) c.args.first.now)) c.if-cap.false c.in-Some.ensures)
