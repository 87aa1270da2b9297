use Rattle.std.proofs.Common.{◌↔◌, sym, subst, SFits, rules, false}
use Rattle.std.specs.Int.{w128}
use Rattle.std.specs.Prelude.{IsTrue}
use Rattle.std.proofs.lemmas.Int.{to_z-of_z}
use Rattle.poly_specs.specs.Rows.{Allows}
use Rattle.poly_decide.specs.Bounded.{IsBound}
use Rattle.poly_decide.proofs.EntailLemmas.{unbounded_escapes, greatest_tells, limit_tells}
use Rattle.poly_decide.proofs.limits.is_allowed.Goals as goal

pub returns-in-Unbounded : goal.returns-in-Unbounded
returns-in-Unbounded c n rows r e b = unbounded_escapes n rows r (subst (IsBound n rows r) c.in-Unbounded.is b)

pub returns-in-Max : goal.returns-in-Max
returns-in-Max c n rows r e b =
    let fits : SFits w128 c.num.result = search rules in
    let tells : IsTrue c.exceeds.result ↔ (Allows c.args.strict c.num.result → ⊥) = simp (to_z-of_z, fits) at c.exceeds.ensures in
    let here = subst (λ z. IsTrue c.exceeds.result ↔ (Allows c.args.strict z → ⊥)) c.num.ensures.value tells in
    greatest_tells n rows r c.in-Max.most c.exceeds.result c.num.ensures.kept.positive (subst (IsBound n rows r) c.in-Max.is b)
    (subst (λ s. IsTrue c.exceeds.result ↔ (Allows s c.in-Max.most.num → ⊥)) (sym e) here)

pub returns-in-Below : goal.returns-in-Below
returns-in-Below c n rows r e b =
    let fits : SFits w128 c.num-in-Below.result = search rules in
    let tells : IsTrue c.exceeds-in-Below.result ↔ (Allows false c.num-in-Below.result → ⊥) = simp (to_z-of_z, fits) at c.exceeds-in-Below.ensures in
    limit_tells n rows r c.in-Below.limit c.exceeds-in-Below.result c.num-in-Below.ensures.kept.positive (subst (IsBound n rows r) c.in-Below.is b)
    (subst (λ z. IsTrue c.exceeds-in-Below.result ↔ (Allows false z → ⊥)) c.num-in-Below.ensures.value tells)
