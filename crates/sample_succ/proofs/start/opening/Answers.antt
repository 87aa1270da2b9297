use Rattle.std.proofs.Common.{length, ap, arith, sym, subst}
use Rattle.run_specs.specs.Automaton.{width}
use Rattle.run_specs.specs.Openings.{AreOpening}
use Rattle.gap_keys.specs.Views.{AreWide, states_of}
use Rattle.sample_succ.proofs.StartLemmas.{starts_all}
use Rattle.sample_succ.proofs.start.opening.Goals as goal

pub returns-clause-ok : goal.returns-clause-ok
returns-clause-ok c =
    let many = ap length c.locs.ensures.value in
    let past = c.loop-l-test.false in
    subst (λ vs. AreOpening c.args.a.now (states_of vs)) (sym c.new.ensures)
    (starts_all c.args.a.now c.loop-l.l (states_of c.loop-l.states.items) (omega (arith, many, past)) c.loop-l.invariant.starts)

pub returns-clause-wide : goal.returns-clause-wide
returns-clause-wide c = subst (AreWide (width c.args.a.now)) (sym c.new.ensures) c.loop-l.invariant.wide
