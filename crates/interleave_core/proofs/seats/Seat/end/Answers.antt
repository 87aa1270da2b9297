use Rattle.std.proofs.Common.{◌≡◌, true, false, sym, ◌∙◌}
use Rattle.interleave_core.proofs.SeatLemmas.{begun_else}
use Rattle.interleave_core.proofs.seats.Seat.end.Goals.{in-Idle, in_default}
use Rattle.interleave_core.proofs.seats.Seat.end.Goals as goal

pub cancel-requires : goal.cancel-requires
cancel-requires c = begun_else c.self.inside.session c.self.inside.stage c.self.invariant (elim c.match-matches.branch [ in-Idle w ↦ λ e. (let x : true ≡ false = sym w.matches-is ∙ c.if-not-matches.true in let b : ⊥ = cc in b) | in_default w ↦ w.in_default.not-Idle ])
