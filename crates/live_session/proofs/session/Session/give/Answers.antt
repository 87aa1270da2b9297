use Rattle.std.proofs.Common.{◌≡◌, Some, sym, ◌∙◌, ap, subst}
use Rattle.std.specs.Arc.{arc_value}
use Rattle.run_specs.specs.Keys.{IsKey}
use Rattle.run_specs.specs.SessionHistories.{IsEntry}
use Rattle.run_specs.specs.Sessions.{wanted}
use Rattle.gap_keys.specs.Answering.{IsAnswer}
use Rattle.live_session.specs.Entries.{entry_of, entries_of, given_of, history_of}
use Rattle.live_session.proofs.StoredLemmas.{given_stored}
use Rattle.live_session.proofs.session.Session.give.Goals as goal

pub invariant_of-self : goal.invariant_of-self
invariant_of-self c =
    let i = c.self.inside in
    let entry : IsEntry (entry_of (arc_value c.args.entry)) = record {
      key = subst IsKey (c.key.ensures.value ∙ ap (λ p. p.0) c.deref.ensures) c.jumps.ensures.kept;
      exact = (subst (λ p. IsAnswer p.0 p.1) c.deref.ensures c.key.ensures.holds).exact;
    } in
    given_stored (history_of (arc_value i.automaton) i.jumps i.opened i.opening (entries_of i.gaps.items)) i.columns.items i.log.items (given_of i.given) (entry_of (arc_value c.args.entry)) i.begun
    i.opening _ _ c.self.invariant entry (subst (λ z. wanted z ≡ Some (arc_value c.args.entry).0) (sym c.self.view_is) c.requires)
