use Rattle.std.proofs.Common.{◌+◌, ◌≤◌, ◌∙◌, Option, Some, None, SomeIff, subst, sym, ap, arith, length, refl}
use Rattle.std.specs.Prelude.{IsSome}
use Rattle.poly_specs.specs.Rows.{AllWide}
use Rattle.poly_decide.proofs.SumLemmas.{wide_with_sum}
use Rattle.poly_decide.proofs.sums.system_with_sum.Goals as goal

made : {T : Type 0} (o : Option T) (P : Type 0) (v : T) → SomeIff o P v → P → IsSome o
made None P v h p = absurd (h p)
made (Some x) P v h p = refl

pub unwrap-requires : goal.unwrap-requires
unwrap-requires c =
    let wide = subst (λ n. AllWide n c.args.s.now.rows) (sym c.requires.width) c.rows.ensures.kept.wide in
    let wider = wide_with_sum c.args.row.now c.rows.result.now (subst (AllWide (length c.args.row.now.coef)) (sym c.rows.ensures.value) wide) in
    let width = ap (λ n. n + 1) (c.requires.width ∙ sym c.width.ensures.value) in
    let all = subst (λ n. AllWide n c.in_ok-rows.rows.items) width (subst (AllWide (length c.args.row.now.coef + 1)) (sym c.in_ok-rows.ensures) wider) in
    let few : c.width.result + 1 ≤ 14 = omega (arith, c.width.ensures.value, c.requires.few) in
    made c.make.result _ _ c.make.ensures (few, all)
