use Rattle.std.proofs.Common.{◌≡◌, rules, SFits}
use Rattle.std.specs.Int.{w128}
use Rattle.std.proofs.lemmas.Int.{to_z-of_z}
use Rattle.run_specs.specs.Automaton.{location_at}
use Rattle.replay_specs.specs.RunChecks.{leg_steps, jump_steps}
use Rattle.run_check.proofs.StepLemmas.{leads_all, leads_then, leads_stop}
use Rattle.run_check.proofs.PathLemmas.{move_steps}
use Rattle.run_check.proofs.paths.move_holds.Goals as goal

pub returns-in_err-leg_holds : goal.returns-in_err-leg_holds
returns-in_err-leg_holds c =
    let fits : SFits w128 c.args.den = search rules in
    let same : c.from_residual.result ≡ c.leg_holds.result = search rules in
    let all = move_steps c.args.a.now c.args.l c.args.den c.args.from.now c.args.m.now in
    leads_stop (leg_steps (location_at c.args.a.now c.args.l) c.args.den c.args.from.now c.args.m.now.leg)
    (jump_steps c.args.a.now c.args.l c.args.den c.args.m.now) all c.from_residual.result c.leg_holds.result c.in_err-leg_holds.field-0.0
    c.in_err-leg_holds.was same (simp (to_z-of_z, fits, c.location.ensures.value, c.leg.ensures) at c.leg_holds.ensures) (leads_all all)

pub returns : goal.returns
returns c =
    let fits : SFits w128 c.args.den = search rules in
    let all = move_steps c.args.a.now c.args.l c.args.den c.args.from.now c.args.m.now in
    (leads_then (leg_steps (location_at c.args.a.now c.args.l) c.args.den c.args.from.now c.args.m.now.leg)
    (jump_steps c.args.a.now c.args.l c.args.den c.args.m.now) all c.leg_holds.result c.in_ok-leg_holds.was
    (simp (to_z-of_z, fits, c.location.ensures.value, c.leg.ensures) at c.leg_holds.ensures) (leads_all all)).leads c.jump_holds.result
    (simp (to_z-of_z, fits) at c.jump_holds.ensures)
