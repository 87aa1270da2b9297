use Rattle.std.proofs.Common.{ap, subst}
use Rattle.std.specs.Arc.{arc_value}
use Rattle.run_specs.specs.Automaton.{Automaton, width}
use Rattle.gap_keys.specs.Views.{AreWide}
use Rattle.live_session.specs.Entries.{entries_of}
use Rattle.live_session.proofs.StoredLemmas.{new_by}
use Rattle.live_session.proofs.session.Session.new.Goals as goal

pub invariant_of-result : goal.invariant_of-result
invariant_of-result c =
    let opening = rw c.deref-2.ensures at c.in_ok-opened.ensures.opening in
    let kept = rw c.deref.ensures at c.vars.ensures.kept in
    new_by (arc_value c.args.automaton) c.args.jumps c.args.columns.items c.in_ok-opened.opened c.in_ok-opened.opening (entries_of c.new-2.result.items) c.new.result.items _ _
    (ap (λ gs. entries_of gs) c.new-2.ensures.items) c.new.ensures.items kept c.requires.jumps c.requires.columns opening c.in_ok-opened.ensures.states
    (subst (λ (a : Automaton). AreWide (width a) c.in_ok-opened.opening) c.deref-2.ensures c.in_ok-opened.ensures.wide)
