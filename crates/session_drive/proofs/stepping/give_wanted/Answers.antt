use Rattle.std.proofs.Common.{◌≡◌, Some, sym, ap, ◌∙◌, subst}
use Rattle.std.specs.Arc.{arc_value}
use Rattle.run_specs.specs.Keys.{IsKey}
use Rattle.run_specs.specs.Sessions.{wanted}
use Rattle.live_session.specs.Entries.{entry_of}
use Rattle.live_session.proofs.DrivenLemmas.{one_given, nothing_given}
use Rattle.session_drive.proofs.stepping.give_wanted.Goals as goal

pub returns-in_default-clause-ok : goal.returns-in_default-clause-ok
returns-in_default-clause-ok c = nothing_given c.args.session.now c.requires.nothing_given (sym c.in_default.ensures.value)

pub returns-in_ok-entry-clause-ok : goal.returns-in_ok-entry-clause-ok
returns-in_ok-entry-clause-ok c =
    let held = arc_value c.in_ok-entry.entry in
    let key : held.0 ≡ c.in-Some.key.now = c.in_ok-entry.ensures.key ∙ c.in_ok-key.ensures in
    let wants : wanted c.args.session.now ≡ Some held.0 = sym c.in-Some.ensures.value ∙ ap (λ k. Some k) (sym key) in
    one_given c.args.session.now c.give.new.self c.requires.begun.0 (entry_of held) c.requires.begun.1 wants
    (record { key = subst IsKey (sym key) c.jumps.ensures.kept; exact = c.in_ok-entry.ensures.holds.exact }) c.give.ensures
