use Rattle.std.proofs.Common.{◌≡◌, rules, SFits, arith}
use Rattle.std.specs.Int.{w128}
use Rattle.std.proofs.lemmas.Int.{to_z-of_z}
use Rattle.run_specs.specs.Automaton.{transition_at}
use Rattle.replay_specs.specs.RunChecks.{jump_steps}
use Rattle.run_check.proofs.StepLemmas.{leads_then, leads_stop}
use Rattle.run_check.proofs.LegLemmas.{jump_rows, jump_rest, jump_leads, jump_refused}
use Rattle.run_check.proofs.legs.jump_holds.Goals as goal

pub returns-then-from-l : goal.returns-then-from-l
returns-then-from-l c =
    jump_refused c.args.a.now c.args.l c.args.den c.args.m.now
    (λ e. c.if-from-l.true (let f : c.from.result ≡ c.args.l = rw (c.from.ensures, c.transition-trans.ensures.value, c.trans.ensures) e in f))

pub joined-both-requires : goal.joined-both-requires
joined-both-requires c =
    let r = c.requires.in_range in
    rw (c.at_end.ensures, c.leg-2.ensures, c.after.ensures) (omega (arith, r.at_end, r.after, c.transition-trans.ensures.few))

pub returns-in_err-rows_hold : goal.returns-in_err-rows_hold
returns-in_err-rows_hold c =
    let fits : SFits w128 c.args.den = search rules in
    let same : c.from_residual.result ≡ c.rows_hold.result = search rules in
    let leaves : (transition_at c.args.a.now c.args.m.now.transition).source ≡ c.args.l =
    rw (← c.trans.ensures) (rw (c.from.ensures, c.transition-trans.ensures.value) at c.if-from-l.false) in
    leads_stop (jump_rows c.args.a.now c.args.l c.args.den c.args.m.now) (jump_rest c.args.a.now c.args.l c.args.den c.args.m.now)
    (jump_steps c.args.a.now c.args.l c.args.den c.args.m.now) c.from_residual.result c.rows_hold.result c.in_err-rows_hold.field-0.0
    c.in_err-rows_hold.was same
    (simp (to_z-of_z, fits, c.rel.ensures, c.as_slice.ensures, c.joined-both.ensures, c.at_end.ensures, c.after.ensures, c.leg-2.ensures, c.transition-trans.ensures.value, c.trans.ensures) at c.rows_hold.ensures)
    (jump_leads c.args.a.now c.args.l c.args.den c.args.m.now leaves)

pub returns : goal.returns
returns c =
    let fits : SFits w128 c.args.den = search rules in
    let leaves : (transition_at c.args.a.now c.args.m.now.transition).source ≡ c.args.l =
    rw (← c.trans.ensures) (rw (c.from.ensures, c.transition-trans.ensures.value) at c.if-from-l.false) in
    (leads_then (jump_rows c.args.a.now c.args.l c.args.den c.args.m.now) (jump_rest c.args.a.now c.args.l c.args.den c.args.m.now)
    (jump_steps c.args.a.now c.args.l c.args.den c.args.m.now) c.rows_hold.result c.in_ok-rows_hold.was
    (simp (to_z-of_z, fits, c.rel.ensures, c.as_slice.ensures, c.joined-both.ensures, c.at_end.ensures, c.after.ensures, c.leg-2.ensures, c.transition-trans.ensures.value, c.trans.ensures) at c.rows_hold.ensures)
    (jump_leads c.args.a.now c.args.l c.args.den c.args.m.now leaves)).leads c.rows_hold-2.result
    (simp (to_z-of_z, fits, c.inv.ensures, c.location.ensures.value, c.to.ensures, c.after-2.ensures, c.transition-trans.ensures.value, c.trans.ensures) at c.rows_hold-2.ensures)
