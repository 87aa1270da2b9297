use Rattle.std.proofs.Common.{◌≡◌, ◌≤ℤ◌, pos, rules, SFits, arith}
use Rattle.std.specs.Int.{w128}
use Rattle.std.specs.Prelude.{int_lt}
use Rattle.std.proofs.lemmas.Int.{ints, to_z-of_z}
use Rattle.replay_specs.specs.RunChecks.{row_steps, slope_steps, leg_steps}
use Rattle.run_check.proofs.StepLemmas.{leads_then, leads_stop}
use Rattle.run_check.proofs.LegLemmas.{leg_rest, leg_leads, leg_refused}
use Rattle.run_check.proofs.legs.leg_holds.Goals as goal

pub returns-then-stay-lt0 : goal.returns-then-stay-lt0
returns-then-stay-lt0 c =
    leg_refused c.args.loc.now c.args.den c.args.from.now c.args.leg.now (let t = rw c.stay.ensures at c.if-stay-lt0.true in omega (arith, ints, t))

pub returns-in_err-rows_hold : goal.returns-in_err-rows_hold
returns-in_err-rows_hold c =
    let fits : SFits w128 c.args.den = search rules in
    let same : c.from_residual.result ≡ c.rows_hold.result = search rules in
    let least = rw c.stay.ensures at c.if-stay-lt0.false in
    let lasts : pos 0 ≤ℤ c.args.leg.now.length_of = omega (arith, ints, least) in
    leads_stop (row_steps c.args.loc.now.invariant c.args.den c.args.from.now) (leg_rest c.args.loc.now c.args.den c.args.from.now c.args.leg.now)
    (leg_steps c.args.loc.now c.args.den c.args.from.now c.args.leg.now) c.from_residual.result c.rows_hold.result c.in_err-rows_hold.field-0.0
    c.in_err-rows_hold.was same (simp (to_z-of_z, fits, c.inv.ensures) at c.rows_hold.ensures)
    (leg_leads c.args.loc.now c.args.den c.args.from.now c.args.leg.now lasts)

pub returns-in_err-rows_hold-2 : goal.returns-in_err-rows_hold-2
returns-in_err-rows_hold-2 c =
    let fits : SFits w128 c.args.den = search rules in
    let same : c.from_residual-in_err-rows_hold-2.result ≡ c.rows_hold-2.result = search rules in
    let least = rw c.stay.ensures at c.if-stay-lt0.false in
    let lasts : pos 0 ≤ℤ c.args.leg.now.length_of = omega (arith, ints, least) in
    let slopes = slope_steps (int_lt (pos 0) c.args.leg.now.length_of) c.args.loc.now.slopes c.args.den c.args.from.now c.args.leg.now in
    let after =
    leads_then (row_steps c.args.loc.now.invariant c.args.den c.args.from.now) (leg_rest c.args.loc.now c.args.den c.args.from.now c.args.leg.now)
    (leg_steps c.args.loc.now c.args.den c.args.from.now c.args.leg.now) c.rows_hold.result c.in_ok-rows_hold.was
    (simp (to_z-of_z, fits, c.inv.ensures) at c.rows_hold.ensures) (leg_leads c.args.loc.now c.args.den c.args.from.now c.args.leg.now lasts) in
    leads_stop (row_steps c.args.loc.now.invariant c.args.den c.args.leg.now.at_end) slopes
    (leg_steps c.args.loc.now c.args.den c.args.from.now c.args.leg.now) c.from_residual-in_err-rows_hold-2.result c.rows_hold-2.result
    c.in_err-rows_hold-2.field-0.0 c.in_err-rows_hold-2.was same (simp (to_z-of_z, fits, c.inv-2.ensures, c.at_end.ensures) at c.rows_hold-2.ensures) after

pub returns : goal.returns
returns c =
    let fits : SFits w128 c.args.den = search rules in
    let least = rw c.stay.ensures at c.if-stay-lt0.false in
    let lasts : pos 0 ≤ℤ c.args.leg.now.length_of = omega (arith, ints, least) in
    let slopes = slope_steps (int_lt (pos 0) c.args.leg.now.length_of) c.args.loc.now.slopes c.args.den c.args.from.now c.args.leg.now in
    let after =
    leads_then (row_steps c.args.loc.now.invariant c.args.den c.args.from.now) (leg_rest c.args.loc.now c.args.den c.args.from.now c.args.leg.now)
    (leg_steps c.args.loc.now c.args.den c.args.from.now c.args.leg.now) c.rows_hold.result c.in_ok-rows_hold.was
    (simp (to_z-of_z, fits, c.inv.ensures) at c.rows_hold.ensures) (leg_leads c.args.loc.now c.args.den c.args.from.now c.args.leg.now lasts) in
    (leads_then (row_steps c.args.loc.now.invariant c.args.den c.args.leg.now.at_end) slopes
    (leg_steps c.args.loc.now c.args.den c.args.from.now c.args.leg.now) c.rows_hold-2.result c.in_ok-rows_hold-2.was
    (simp (to_z-of_z, fits, c.inv-2.ensures, c.at_end.ensures) at c.rows_hold-2.ensures) after).leads c.slopes_hold.result
    (simp (to_z-of_z, fits, c.flow.ensures) at c.slopes_hold.ensures)
