-- A session from the beginning of a sample to its reply, over a memo.
use Rattle.std.proofs.Common.{◌≡◌, ℕ, [], ◌∷◌, ◌++◌, Bool, Option, Some, None, refl, sym, ap, ◌∙◌, subst}
use Rattle.run_specs.specs.Logs.{Sample}
use Rattle.run_specs.specs.declared.Verdict.{Verdict}
use Rattle.run_specs.specs.declared.Verdict.TheVariants as verdict
use Rattle.run_specs.specs.Keys.{Key}
use Rattle.run_specs.specs.SessionHistories.{Entry, IsEntry, verdict_at}
use Rattle.run_specs.specs.Sessions.{MonitorSession, Idle, Begun, accepted, wanted}
use Rattle.run_specs.specs.Verdicts.{IsLawful}
use Rattle.run_specs.specs.Worlds.{IsBegin, IsFinish, joined}
use Rattle.gap_keys.specs.declared.outcomes.Outcome.{Outcome}
use Rattle.live_session.specs.Driven.{IsFor, IsGiven, IsDriven}
use Rattle.live_session.specs.Entries.{entry_of}
use Rattle.live_session.proofs.DrivenLemmas.{nothing_more, driven}
use Rattle.session_drive.specs.declared.counts.Counts.{Counts}
use Rattle.session_drive.specs.Remembered.{GapMemo, IsServed, Remembers, IsGivenOver, IsDrivenOver}

-- the session after the sample, where this was given
abbrev after_it : MonitorSession → Sample → Option Entry → MonitorSession
after_it s sample given = record s { log = s.log ++ accepted s sample ∷ []; history = joined s.history given; given = None; phase = Idle }

-- begun, given what it wanted, and finished
finished : (s b m t : MonitorSession) (sample : Sample) (v : Verdict) → IsBegin sample s b → (given : IsGiven b m) →
    ((x : Sample) → m.phase ≡ Begun x → IsFinish x v m t) → t ≡ after_it s sample given.given
finished s b m t sample v begins given finishes =
    let same : m ≡ record s { phase = Begun sample; given = given.given } =
    given.after ∙ ap (λ (x : MonitorSession). record x { given = given.given }) begins.after in
    let phase : m.phase ≡ Begun sample = ap (λ (x : MonitorSession). x.phase) same in
    (subst (λ (x : MonitorSession). IsFinish sample v x t) same (finishes sample phase)).after

module _ (equal : Key → Key → Bool) where
  -- the entry that was served is given
  pub one_given_over : (s t : MonitorSession) (sample : Sample) (key : Key) (pair : Key × Outcome) (old new : GapMemo) (counts : Counts) →
      s.phase ≡ Begun sample → wanted s ≡ Some key → pair.0 ≡ key → IsEntry (entry_of pair) → t ≡ record s { given = Some (entry_of pair) } →
      IsServed equal key pair old new counts → IsGivenOver equal s t old new counts
  one_given_over s t sample key pair old new counts begun wants same entry after served = record {
    given = record {
      given = Some (entry_of pair);
      wanted_one = record { key = wants ∙ ap (λ k. Some k) (sym same); entry = entry };
      after = after;
      nothing_wanted = ap (λ (x : MonitorSession). wanted x) after ∙ nothing_more s sample (entry_of pair) begun;
    };
    remembered = subst (λ asked. Remembers equal asked (Some (entry_of pair)) old new counts) (sym wants) (pair, refl, served);
  }

  -- from its beginning to its reply
  pub driven_over : (s b m t : MonitorSession) (sample : Sample) (old new : GapMemo) (v : Verdict) (counts : Counts) →
      IsBegin sample s b → IsGivenOver equal b m old new counts → ((x : Sample) → m.phase ≡ Begun x → IsFinish x v m t) →
      IsLawful t.history.automaton t.history.jumps t.log v → ((i : ℕ) → verdict_at m.history i ≡ Some verdict.Overflow → v ≡ verdict.Overflow) →
      IsDrivenOver equal s t sample old new v counts
  driven_over s b m t sample old new v counts begins over finishes lawful stays =
      let by : IsDriven s t sample v = driven s b m t sample v begins over.given finishes lawful stays in
      record {
        driven = record {
          may_begin = by.may_begin;
          given = over.given.given;
          wanted_one = subst (λ (x : MonitorSession). IsFor (wanted x) over.given.given) begins.after over.given.wanted_one;
          after = finished s b m t sample v begins over.given finishes;
          tells = by.tells;
          lawful = by.lawful;
          stays = by.stays;
        };
        remembered = subst (λ (x : MonitorSession). Remembers equal (wanted x) over.given.given old new counts) begins.after over.remembered;
      }
