use Rattle.std.proofs.Common.{◌≡◌, ◌+◌, ◌<◌, inl, inr, Err, length, ap, rules, arith}
use Rattle.fm_eliminate.specs.declared.RowFault.TheVariants.{Passes}
use Rattle.run_specs.specs.Automaton.{width}
use Rattle.gap_runs.proofs.TraceLemmas.{minus_passes}
use Rattle.gap_runs.proofs.traces.over_leg.Goals as goal

pub returns-in_err-numbers-clause-passes : goal.returns-in_err-numbers-clause-passes
returns-in_err-numbers-clause-passes c e =
    let same : c.in_err-numbers.field-0.0 ≡ Passes = search rules in
    inl (c.in_err-numbers.ensures.passes (ap (λ f. Err f) same))

pub returns-in_default-clause-passes : goal.returns-in_default-clause-passes
returns-in_default-clause-passes c e =
    let sized = c.in_ok-numbers.ensures.ok.picked.sized in
    let within : width c.args.a.now + 1 < length c.in_ok-numbers.numbers.items = omega (arith, sized) in
    inr (
      c.in_ok-numbers.numbers.items,
      c.in_ok-numbers.ensures.ok,
      minus_passes c.back.inside.elapsed c.args.back.elapsed c.in_ok-numbers.numbers.items (width c.args.a.now) (length c.vars.result.now) c.index.result.now
          (ap (λ b. b.elapsed) c.back.view_is) c.index.ensures (ap length c.vars.ensures.value) within c.in_default.ensures,
    )
