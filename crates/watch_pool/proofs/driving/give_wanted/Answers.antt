use Rattle.std.proofs.Common.{◌≡◌, Some, sym, ap, ◌∙◌, subst}
use Rattle.std.specs.Arc.{arc_value}
use Rattle.run_specs.specs.Keys.{Key, IsKey}
use Rattle.run_specs.specs.Outcomes.{IsExact}
use Rattle.run_specs.specs.Sessions.{wanted}
use Rattle.gap_keys.specs.Answering.{outcome_of}
use Rattle.gap_keys.specs.declared.outcomes.Outcome.{Outcome}
use Rattle.live_session.specs.Entries.{entry_of}
use Rattle.live_session.proofs.DrivenLemmas.{one_given, nothing_given}
use Rattle.watch_pool.proofs.driving.give_wanted.Goals as goal

pub returns-in_default-clause-ok : goal.returns-in_default-clause-ok
returns-in_default-clause-ok g c = nothing_given c.args.session.now c.requires.nothing_given (sym c.in_default.ensures.value)

pub returns-clause-ok : goal.returns-clause-ok
returns-clause-ok g c =
    let held = arc_value c.in_ok-entry.entry in
    let key : held.0 ≡ c.in-Some.key.now = c.in_ok-entry.ensures.key in
    let wants : wanted c.args.session.now ≡ Some held.0 = sym c.in-Some.ensures.value ∙ ap (λ k. Some k) (sym key) in
    one_given c.args.session.now c.give.new.self c.requires.begun.0 (entry_of held) c.requires.begun.1 wants
    (record { key = subst IsKey (sym key) c.jumps.ensures.kept; exact = subst (λ (h : Key × Outcome). IsExact h.0 (outcome_of h.1)) c.deref.ensures c.val.ensures.holds.exact }) c.give.ensures
