use Rattle.std.proofs.Common.{◌≡◌, None, Err, ap, subst, arith, rules}
use Rattle.std.specs.Prelude.{flat_map}
use Rattle.std.proofs.lemmas.List.Elements.{All-append}
use Rattle.poly_specs.specs.Bits.{FitsBits, NonePasses}
use Rattle.run_specs.specs.Stages.{below}
use Rattle.model_rows.specs.declared.faults.RowFault.TheVariants.{Passes}
use Rattle.model_rows.proofs.ListLemmas.{mapped_below}
use Rattle.model_rows.proofs.TotalLemmas.{numbers_at, column_numbers, column_total, fits_below, fits_left, fits_right, passes_below}
use Rattle.model_rows.proofs.rows.sums.Goals as goal

pub returns-in_err-push_total-clause-passes : goal.returns-in_err-push_total-clause-passes
returns-in_err-push_total-clause-passes c e all =
    let same : c.in_err-push_total.field-0.0 ≡ Passes = search rules in
    passes_below (column_numbers c.args.parts.now) c.args.width c.loop-j.j (omega arith) (c.in_err-push_total.ensures.passes (ap (λ f. Err f) same))
    (fits_left (flat_map (column_numbers c.args.parts.now) (below c.args.width)) (numbers_at None c.args.parts.now) all)

pub loop-j-preserved : goal.loop-j-preserved
loop-j-preserved c = (
  mapped_below (column_total c.args.parts.now) c.loop-j.j c.loop-j.totals.items c.push_total.new.totals.items c.loop-j.invariant.0 c.in_ok-push_total.ensures.ok,
  fits_below c.args.parts.now c.loop-j.j c.loop-j.invariant.1 c.in_ok-push_total.ensures.kept,
)

pub returns-in_err-push_total-2-clause-passes : goal.returns-in_err-push_total-2-clause-passes
returns-in_err-push_total-2-clause-passes c e all =
    let same : c.in_err-push_total-2.field-0.0 ≡ Passes = search rules in
    c.in_err-push_total-2.ensures.passes (ap (λ f. Err f) same)
    (fits_right (flat_map (column_numbers c.args.parts.now) (below c.args.width)) (numbers_at None c.args.parts.now) all)

pub returns-clause-kept : goal.returns-clause-kept
returns-clause-kept c =
    let end : c.loop-j.j ≡ c.args.width = omega arith in
    All-append FitsBits (flat_map (column_numbers c.args.parts.now) (below c.args.width)) (numbers_at None c.args.parts.now)
    (subst (λ n. NonePasses (flat_map (column_numbers c.args.parts.now) (below n))) end c.loop-j.invariant.1) c.in_ok-push_total-2.ensures.kept
