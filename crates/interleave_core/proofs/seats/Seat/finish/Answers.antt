use Rattle.std.proofs.Common.{◌≡◌, true, false, sym, ◌∙◌}
use Rattle.interleave_core.proofs.SeatLemmas.{finish_is, finished_idle}
use Rattle.interleave_core.proofs.seats.Seat.finish.Goals.{in-Begun, in_default}
use Rattle.interleave_core.proofs.seats.Seat.finish.Goals as goal

pub invariant_of-self : goal.invariant_of-self
invariant_of-self c =
    finished_idle c.self.inside.session c.finish-verdict.new.self c.self.inside.stage c.finish-verdict.result c.self.invariant (elim c.match-matches.branch [ in-Begun w ↦ w.in-Begun.is | in_default w ↦ absurd (let x : true ≡ false = sym c.if-not-matches.false ∙ w.matches-is in let b : ⊥ = cc in b) ])
    c.finish-verdict.ensures.finishes

pub returns-clause-some : goal.returns-clause-some
returns-clause-some c =
    finish_is c.self.inside.session c.args.self.now c.finish-verdict.new.self c.self.inside.stage c.finish-verdict.result c.self.view_is c.self.invariant
    (elim c.match-matches.branch [ in-Begun w ↦ w.in-Begun.is | in_default w ↦ absurd (let x : true ≡ false = sym c.if-not-matches.false ∙ w.matches-is in let b : ⊥ = cc in b) ]) c.finish-verdict.ensures.finishes
