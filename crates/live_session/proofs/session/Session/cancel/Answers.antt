use Rattle.std.specs.Arc.{arc_value}
use Rattle.live_session.specs.Entries.{entries_of, given_of, history_of}
use Rattle.live_session.proofs.StoredLemmas.{idle_stored}
use Rattle.live_session.proofs.session.Session.cancel.Goals as goal

pub invariant_of-self : goal.invariant_of-self
invariant_of-self c =
    let i = c.self.inside in
    idle_stored (history_of (arc_value i.automaton) i.jumps i.opened i.opening (entries_of i.gaps.items)) i.columns.items i.log.items (given_of i.given) i.begun i.opening _ _ _ _ c.self.invariant
