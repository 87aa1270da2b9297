use Rattle.std.proofs.Common.{◌≡◌, ◌∙◌, sym, rules, SFits, arith}
use Rattle.std.specs.Int.{w128}
use Rattle.std.proofs.lemmas.Int.{to_z-of_z}
use Rattle.replay_specs.specs.RunChecks.{path_steps}
use Rattle.run_check.proofs.StepLemmas.{leads_all}
use Rattle.run_check.proofs.PathLemmas.{path_stop, path_more, path_end}
use Rattle.run_check.proofs.paths.path_holds.Goals as goal

pub loop-m-init : goal.loop-m-init
loop-m-init c =
    let g = c.args.gap.now in
    rw (c.start_loc-loc.ensures, c.start-from.ensures, c.moves-m-items.ensures)
    (record {
      inside = c.requires.start_loc;
      sized = c.requires.start;
      leads = leads_all (path_steps c.args.a.now g.den g.start_loc g.start g.moves g.last);
    })

pub move_holds-requires-clause-inside : goal.move_holds-requires-clause-inside
move_holds-requires-clause-inside c = c.loop-m.invariant.inside

pub move_holds-requires-clause-sized : goal.move_holds-requires-clause-sized
move_holds-requires-clause-sized c = c.loop-m.invariant.sized

pub returns-in_err-move_holds : goal.returns-in_err-move_holds
returns-in_err-move_holds c =
    let g = c.args.gap.now in
    let fits : SFits w128 c.den.result = search rules in
    let same : c.from_residual.result ≡ c.move_holds.result = search rules in
    path_stop c.args.a.now g.den g.last (path_steps c.args.a.now g.den g.start_loc g.start g.moves g.last) c.loop-m.loc c.loop-m.from.now
    c.moves-m-items.result.now c.loop-m.m-index c.m-item.result c.loop-m-test.true c.m-item.is c.loop-m.invariant
    c.from_residual.result c.move_holds.result c.in_err-move_holds.field-0.0 c.in_err-move_holds.was same
    (simp c.den.ensures at (simp (to_z-of_z, fits) at c.move_holds.ensures))

pub loop-m-preserved : goal.loop-m-preserved
loop-m-preserved c =
    let g = c.args.gap.now in
    let fits : SFits w128 c.den.result = search rules in
    let range = c.requires.moves c.loop-m.m-index c.m-item.result (rw (← c.moves-m-items.ensures) c.loop-m-test.true) in
    let here = rw (← c.moves-m-items.ensures, ← c.m-item.is) at range in
    let target = rw (c.transition.ensures.value, c.trans.ensures) at c.transition.ensures.kept.target in
    rw (c.to-loc.ensures, c.transition.ensures.value, c.trans.ensures, c.after-from.ensures)
    (path_more c.args.a.now g.den g.last (path_steps c.args.a.now g.den g.start_loc g.start g.moves g.last) c.loop-m.loc c.loop-m.from.now
    c.moves-m-items.result.now c.loop-m.m-index c.m-item.result c.loop-m-test.true c.m-item.is c.loop-m.invariant
    c.move_holds.result c.in_ok-move_holds.was (simp c.den.ensures at (simp (to_z-of_z, fits) at c.move_holds.ensures)) target here.after)

pub location-requires : goal.location-requires
location-requires c = c.loop-m.invariant.inside

pub leg_holds-requires-clause-few : goal.leg_holds-requires-clause-few
leg_holds-requires-clause-few c = omega (arith, c.loop-m.invariant.sized, c.location.ensures.few)

pub leg_holds-requires-clause-sized : goal.leg_holds-requires-clause-sized
leg_holds-requires-clause-sized c = rw c.last.ensures (c.requires.last ∙ sym c.loop-m.invariant.sized)

pub leg_holds-requires-clause-kept : goal.leg_holds-requires-clause-kept
leg_holds-requires-clause-kept c = rw c.loop-m.invariant.sized c.location.ensures.kept

pub returns : goal.returns
returns c =
    let g = c.args.gap.now in
    let fits : SFits w128 c.den-2.result = search rules in
    path_end c.args.a.now g.den g.last (path_steps c.args.a.now g.den g.start_loc g.start g.moves g.last) c.loop-m.loc c.loop-m.from.now
    c.moves-m-items.result.now c.loop-m.m-index c.leg_holds.result c.loop-m-test.false c.loop-m.invariant
    (simp (c.den-2.ensures, c.last.ensures, c.location.ensures.value) at (simp (to_z-of_z, fits) at c.leg_holds.ensures))
