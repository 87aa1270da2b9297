use Rattle.std.proofs.Common.{sym, subst}
use Rattle.std.specs.Arc.{arc_value}
use Rattle.run_specs.specs.Keys.{IsKey}
use Rattle.run_specs.specs.SessionHistories.{IsEntry}
use Rattle.gap_keys.specs.Answering.{IsAnswer}
use Rattle.live_session.specs.Entries.{entry_of}
use Rattle.session_drive.proofs.DrivenOver.{one_given_over}
use Rattle.session_drive.proofs.local.give_served.Goals as goal

pub returns-clause-ok : goal.returns-clause-ok
returns-clause-ok g c =
    let pair = arc_value c.in_ok-entry.entry in
    let entry : IsEntry (entry_of pair) = record {
      key = subst IsKey (sym c.in_ok-entry.ensures.key) c.jumps.ensures.kept;
      exact = (subst (λ p. IsAnswer p.0 p.1) c.deref.ensures c.key.ensures.holds).exact;
    } in
    one_given_over _ c.args.session.now c.give.new.self c.requires.begun.0 c.in-Some.key.now pair c.args.memo.now c.entry_for.new.memo c.in_ok-entry.counts
    c.requires.begun.1 (sym c.in-Some.ensures.value) c.in_ok-entry.ensures.key entry c.give.ensures c.in_ok-entry.ensures.served
