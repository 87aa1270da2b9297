use Rattle.std.proofs.Common.{◌≡◌, true, false, sym, ◌∙◌}
use Rattle.interleave_core.proofs.SeatLemmas.{missed_if, fill_is}
use Rattle.interleave_core.proofs.seats.Seat.fill.Goals.{in-Missed, in_default}
use Rattle.interleave_core.proofs.seats.Seat.fill.Goals as goal

pub invariant_of-self : goal.invariant_of-self
invariant_of-self c =
    let m = missed_if c.self.inside.session c.self.inside.stage c.self.invariant (elim c.match-matches.branch [ in-Missed w ↦ w.in-Missed.is | in_default w ↦ absurd (let x : true ≡ false = sym c.if-not-matches.false ∙ w.matches-is in let b : ⊥ = cc in b) ]) in
    (m.0, m.1, c.in_ok-made.ensures.key)

pub returns-clause-ok : goal.returns-clause-ok
returns-clause-ok c =
    fill_is c.self.inside.session c.args.self.now c.self.inside.stage _ c.self.view_is c.self.invariant (elim c.match-matches.branch [ in-Missed w ↦ w.in-Missed.is | in_default w ↦ absurd (let x : true ≡ false = sym c.if-not-matches.false ∙ w.matches-is in let b : ⊥ = cc in b) ])
    c.in_ok-made.ensures.key c.in_ok-made.ensures.entry
