use Rattle.std.proofs.Common.{◌≡◌, ◌∙◌, List, length, take, ap, subst, arith}
use Rattle.std.specs.Prelude.{All}
use Rattle.std.proofs.Math.Seq.{take-length}
use Rattle.std.proofs.lemmas.List.Elements.{All-more}
use Rattle.poly_specs.specs.Arithmetic.{IsKept}
use Rattle.poly_specs.specs.Fractions.{Fraction}
use Rattle.gap_runs.proofs.commons.see_all_kept.Goals as goal

pub loop-x-preserved : goal.loop-x-preserved
loop-x-preserved c =
    All-more IsKept c.args.numbers.now c.loop-x.x-index c.x-item.result (omega arith) c.loop-x.invariant (subst IsKept c.x-item.is c.den.ensures.kept)

pub returns : goal.returns
returns c =
    let end : c.loop-x.x-index ≡ length c.args.numbers.now = omega arith in
    let whole : take c.loop-x.x-index c.args.numbers.now ≡ c.args.numbers.now = ap (λ n. take n c.args.numbers.now) end ∙ take-length c.args.numbers.now in
    subst (λ (xs : List Fraction). All IsKept xs) whole c.loop-x.invariant
