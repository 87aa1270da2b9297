use Rattle.std.proofs.Common.{length, refl, ap}
use Rattle.std.specs.Arc.{arc_value}
use Rattle.live_session.specs.Entries.{entries_of, given_of, history_of}
use Rattle.live_session.proofs.PlacingLemmas.{sample_is}
use Rattle.live_session.proofs.StoredLemmas.{still_by, begin_by}
use Rattle.live_session.proofs.session.Session.begin.Goals as goal

pub invariant_of-self : goal.invariant_of-self
invariant_of-self c =
    let i = c.self.inside in
    still_by (history_of (arc_value i.automaton) i.jumps i.opened i.opening (entries_of i.gaps.items))
    (history_of (arc_value i.automaton) i.jumps i.opened i.opening (entries_of c.reserve_one.new.gaps.items)) i.columns.items i.log.items c.reserve_one.new.log.items (given_of i.given) i.begun
    i.opening c.args.self.now _ _ _ _ c.self.invariant c.self.view_is c.requires.idle
    (ap (λ gs. history_of (arc_value i.automaton) i.jumps i.opened i.opening (entries_of gs)) c.reserve_one.ensures.gaps) c.reserve_one.ensures.log

pub invariant_of-self-2 : goal.invariant_of-self-2
invariant_of-self-2 c =
    let i = c.self.inside in
    let s = c.args.sample.now in
    (begin_by (history_of (arc_value i.automaton) i.jumps i.opened i.opening (entries_of i.gaps.items))
    (history_of (arc_value i.automaton) i.jumps i.opened i.opening (entries_of c.reserve_one.new.gaps.items)) i.columns.items i.log.items c.reserve_one.new.log.items (given_of i.given) i.begun
    c.in_ok-prepared.prepared s i.opening c.args.self.now _ _ _ _ c.self.invariant c.self.view_is c.requires.idle c.in_ok-allows.ensures.ok
    (sample_is (length s.cells) s refl c.requires.time c.requires.cells) c.in_ok-prepared.ensures.prepared c.in_ok-prepared.ensures.sample
    (ap (λ gs. history_of (arc_value i.automaton) i.jumps i.opened i.opening (entries_of gs)) c.reserve_one.ensures.gaps) c.reserve_one.ensures.log
    c.in_ok-reserve_one.ensures.room.0 c.in_ok-reserve_one.ensures.room.1).stored

pub returns-clause-ok : goal.returns-clause-ok
returns-clause-ok c =
    let i = c.self.inside in
    let s = c.args.sample.now in
    (begin_by (history_of (arc_value i.automaton) i.jumps i.opened i.opening (entries_of i.gaps.items))
    (history_of (arc_value i.automaton) i.jumps i.opened i.opening (entries_of c.reserve_one.new.gaps.items)) i.columns.items i.log.items c.reserve_one.new.log.items (given_of i.given) i.begun
    c.in_ok-prepared.prepared s i.opening c.args.self.now _ _ _ _ c.self.invariant c.self.view_is c.requires.idle c.in_ok-allows.ensures.ok
    (sample_is (length s.cells) s refl c.requires.time c.requires.cells) c.in_ok-prepared.ensures.prepared c.in_ok-prepared.ensures.sample
    (ap (λ gs. history_of (arc_value i.automaton) i.jumps i.opened i.opening (entries_of gs)) c.reserve_one.ensures.gaps) c.reserve_one.ensures.log
    c.in_ok-reserve_one.ensures.room.0 c.in_ok-reserve_one.ensures.room.1).step
