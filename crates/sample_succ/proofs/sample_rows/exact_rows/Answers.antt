use Rattle.std.proofs.Common.{◌≡◌, ◌+◌, ◌++◌, suc, Err, length, ap, arith, rules, sym, subst, ◌∙◌}
use Rattle.std.specs.Prelude.{filter}
use Rattle.std.specs.List.{flat_map}
use Rattle.fm_eliminate.specs.declared.RowFault.TheVariants.{Passes}
use Rattle.run_specs.specs.Automaton.{width}
use Rattle.run_specs.specs.Stages.{seen_rows, seen_sums, seen_exactly, below}
use Rattle.sample_succ.proofs.SampleRows.{some_step, none_step, some_variable}
use Rattle.sample_succ.proofs.sample_rows.exact_rows.Goals as goal
use Rattle.sample_succ.proofs.sample_rows.exact_rows.Goals.{then-is_exact+in_ok-add_seen, else-is_exact}

pub returns-in_err-add_seen-clause-passes : goal.returns-in_err-add_seen-clause-passes
returns-in_err-add_seen-clause-passes c e =
    let same : c.in_err-add_seen.field-0.0 ≡ Passes = search rules in
    let n = ap length c.vars-j-end.ensures.value in
    let within = c.loop-j-test.true in
    some_variable (seen_sums c.args.a.now c.args.seen.now) (width c.args.a.now) c.loop-j.j (omega (arith, n, within)) (c.in_err-add_seen.ensures.passes (ap (λ f. Err f) same))

pub loop-j-preserved : goal.loop-j-preserved
loop-j-preserved c =
    let f = seen_rows c.args.a.now c.args.seen.now in
    let p = seen_exactly c.args.a.now c.args.seen.now in
    let j = c.loop-j.j in
    let next : suc j ≡ j + 1 = omega arith in
    subst (λ k. c.if-is_exact.rows.items ≡ flat_map f (filter p (below k))) next (elim c.if-is_exact.branch [
      | then-is_exact+in_ok-add_seen w ↦ ap (λ v. v.items) w.rows-is ∙ w.in_ok-add_seen.ensures.ok ∙ ap (λ xs. xs ++ f j) c.loop-j.invariant
          ∙ sym (some_step f p j (sym c.is_exact.ensures ∙ w.if-is_exact.true))
      | else-is_exact w ↦ ap (λ v. v.items) w.rows-is ∙ c.loop-j.invariant ∙ sym (none_step f p j (sym c.is_exact.ensures ∙ w.if-is_exact.false))
    ])
