use Rattle.std.proofs.Common.{◌≡◌, [], ◌∷◌, ◌++◌, sym, ◌∙◌, ap, subst}
use Rattle.std.specs.Prelude.{All, Some}
use Rattle.poly_specs.specs.Bits.{FitsBits}
use Rattle.replay_specs.specs.RunTextFaults.{integers_of, fields_of}
use Rattle.run_text.proofs.LineLemmas.{ValuesSoFar, values_step, values_end, values_pass, fits_stays}
use Rattle.run_text.proofs.lines.collect.Goals as goal

pub returns-in_default-kept-clause-fault : goal.returns-in_default-kept-clause-fault
returns-in_default-kept-clause-fault c next few =
    values_pass next c.args.bytes.now c.loop-halves.rest.now c.in-Some.halves.before.now _ c.loop-halves.values.items c.requires c.loop-halves.invariant c.in-Some.ensures.pieces c.in_default-kept.ensures few

pub loop-halves-preserved : goal.loop-halves-preserved
loop-halves-preserved c =
    let value = c.in-Some-kept.ensures in
    let fits : FitsBits c.in-Some-kept.value = subst FitsBits (sym value.1) value.0 in
    let more = c.in_ok-keep.ensures.ok ∙ ap (λ z. c.loop-halves.values.items ++ z ∷ []) (fits_stays c.in-Some-kept.value fits) in
    subst (ValuesSoFar c.args.bytes.now c.in-Some.halves.after.now) (sym more)
    (values_step c.args.bytes.now c.loop-halves.rest.now c.in-Some.halves.before.now c.in-Some.halves.after.now c.loop-halves.values.items c.in-Some-kept.value
    c.loop-halves.invariant c.in-Some.ensures.pieces value.1 fits)

pub returns-in_default-kept-2-clause-fault : goal.returns-in_default-kept-2-clause-fault
returns-in_default-kept-2-clause-fault c next few =
    values_pass next c.args.bytes.now c.loop-halves.rest.now c.loop-halves.rest.now [] c.loop-halves.values.items c.requires c.loop-halves.invariant c.in_default.ensures.pieces c.in_default-kept-2.ensures few

pub returns-clause-ok : goal.returns-clause-ok
returns-clause-ok c =
    let value = c.in-Some-kept-2.ensures in
    let fits : FitsBits c.in-Some-kept-2.value = subst FitsBits (sym value.1) value.0 in
    let more = c.in_ok-keep-2.ensures.ok ∙ ap (λ z. c.loop-halves.values.items ++ z ∷ []) (fits_stays c.in-Some-kept-2.value fits) in
    subst (λ zs. (integers_of (fields_of c.args.bytes.now) ≡ Some zs) × All FitsBits zs) (sym more)
    (values_end c.args.bytes.now c.loop-halves.rest.now c.loop-halves.values.items c.in-Some-kept-2.value c.requires c.loop-halves.invariant c.in_default.ensures.pieces value.1 fits)
