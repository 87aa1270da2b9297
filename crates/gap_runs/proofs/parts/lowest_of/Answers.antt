use Rattle.std.proofs.Common.{◌∙◌, ◌++◌, ◌∷◌, [], ◌<◌, ℤ, List, length, take, sym, subst, ap}
use Rattle.poly_specs.specs.Fractions.{Fraction}
use Rattle.column_pick.specs.Picked.{numbers_of}
use Rattle.gap_runs.proofs.PartLemmas.{numbers_more}
use Rattle.gap_runs.proofs.parts.lowest_of.Goals as goal

pub loop-i-preserved : goal.loop-i-preserved
loop-i-preserved c =
    let i = c.loop-i.i in
    let lt : i < length c.args.point.now.num = subst (λ (ns : List ℤ). i < length ns) c.num-i-end.ensures.value c.loop-i-test.true in
    c.in_ok-push.ensures ∙ ap (λ (xs : List Fraction). xs ++ c.number_at.result ∷ []) c.loop-i.invariant
    ∙ ap (λ (x : Fraction). take i (numbers_of c.args.point.now) ++ x ∷ []) c.number_at.ensures ∙ sym (numbers_more c.args.point.now i lt)
