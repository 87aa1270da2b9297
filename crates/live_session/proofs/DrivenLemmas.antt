-- A session from the beginning of a sample to its reply.
use Rattle.std.proofs.Common.{◌≡◌, ℕ, [], ◌∷◌, ◌++◌, length, Option, Some, None, refl, ap, ◌∙◌, subst}
use Rattle.run_specs.specs.Logs.{Sample}
use Rattle.run_specs.specs.declared.Verdict.{Verdict}
use Rattle.run_specs.specs.declared.Verdict.TheVariants as verdict
use Rattle.run_specs.specs.SessionHistories.{Entry, IsEntry, SessionHistory, verdict_at}
use Rattle.run_specs.specs.Sessions.{MonitorSession, Idle, Begun, IsMonitorSession, PhaseHolds, MayBegin, accepted, wanted, wanted_in, wanted_for}
use Rattle.run_specs.specs.Verdicts.{IsLawful}
use Rattle.run_specs.specs.Worlds.{IsBegin, IsFinish, joined}
use Rattle.live_session.specs.Driven.{IsFor, IsGiven, IsDriven}

-- ---- what is given

-- a session that is idle has no entry
pub none_given : (s : MonitorSession) → IsMonitorSession s → s.phase ≡ Idle → s.given ≡ None
none_given s is idle = go s.given (subst (λ p. PhaseHolds s p s.given) idle is.phase)
  where
    go : (g : Option Entry) → PhaseHolds s Idle g → g ≡ None
    go None h = refl
    go (Some e) h = absurd h

-- with an entry, a begun sample wants nothing
pub nothing_more : (s : MonitorSession) (sample : Sample) (e : Entry) → s.phase ≡ Begun sample → wanted (record s { given = Some e }) ≡ None
nothing_more s sample e begun = ap (wanted_in (record s { given = Some e })) begun

-- the entry for the key that is wanted
pub one_given : (s t : MonitorSession) (sample : Sample) (e : Entry) → s.phase ≡ Begun sample → wanted s ≡ Some e.key → IsEntry e → t ≡ record s { given = Some e } → IsGiven s t
one_given s t sample e begun wants entry after = record {
  given = Some e;
  wanted_one = record { key = wants; entry = entry };
  after = after;
  nothing_wanted = ap (λ (x : MonitorSession). wanted x) after ∙ nothing_more s sample e begun;
}

-- nothing, where nothing is wanted
pub nothing_given : (s : MonitorSession) → s.given ≡ None → wanted s ≡ None → IsGiven s s
nothing_given s none wants = record {
  given = None;
  wanted_one = record { key = wants; entry = tt };
  after = ap (λ g. record s { given = g }) none;
  nothing_wanted = wants;
}

-- ---- the reply

joined_automaton : (h : SessionHistory) (g : Option Entry) → (joined h g).automaton ≡ h.automaton
joined_automaton h None = refl
joined_automaton h (Some e) = refl

joined_jumps : (h : SessionHistory) (g : Option Entry) → (joined h g).jumps ≡ h.jumps
joined_jumps h None = refl
joined_jumps h (Some e) = refl

module _ (s : MonitorSession) (sample : Sample) (given : Option Entry) where
  abbrev begun : MonitorSession
  begun = record s { phase = Begun sample; given = given }

  abbrev after : MonitorSession
  after = record s { log = s.log ++ accepted s sample ∷ []; history = joined s.history given; given = None; phase = Idle }

  driven_after : (t : MonitorSession) (v : Verdict) → MayBegin s sample → IsFor (wanted_for s sample None) given → IsFinish sample v begun t →
      IsLawful t.history.automaton t.history.jumps t.log v → ((i : ℕ) → verdict_at s.history i ≡ Some verdict.Overflow → v ≡ verdict.Overflow) → IsDriven s t sample v
  driven_after t v may wants finishes lawful stays =
      let same : t ≡ after = finishes.after in
      let automaton = ap (λ (x : MonitorSession). x.history.automaton) same ∙ joined_automaton s.history given in
      let jumps = ap (λ (x : MonitorSession). x.history.jumps) same ∙ joined_jumps s.history given in
      let log = ap (λ (x : MonitorSession). x.log) same in
      record {
        may_begin = may;
        given = given;
        wanted_one = wants;
        after = same;
        tells = ap (λ (x : MonitorSession). verdict_at x.history (length s.log)) same ∙ finishes.tells;
        lawful = subst (λ a. IsLawful a s.history.jumps (s.log ++ accepted s sample ∷ []) v) automaton
            (subst (λ k. IsLawful t.history.automaton k (s.log ++ accepted s sample ∷ []) v) jumps
            (subst (λ ss. IsLawful t.history.automaton t.history.jumps ss v) log lawful));
        stays = stays;
      }

-- begun, given what it wanted, and finished
pub driven : (s b m t : MonitorSession) (sample : Sample) (v : Verdict) → IsBegin sample s b → IsGiven b m → ((x : Sample) → m.phase ≡ Begun x → IsFinish x v m t) →
    IsLawful t.history.automaton t.history.jumps t.log v → ((i : ℕ) → verdict_at m.history i ≡ Some verdict.Overflow → v ≡ verdict.Overflow) → IsDriven s t sample v
driven s b m t sample v begins given finishes lawful stays =
    let same : m ≡ begun s sample given.given = given.after ∙ ap (λ (x : MonitorSession). record x { given = given.given }) begins.after in
    let phase : m.phase ≡ Begun sample = ap (λ (x : MonitorSession). x.phase) same in
    driven_after s sample given.given t v begins.may_begin (subst (λ (x : MonitorSession). IsFor (wanted x) given.given) begins.after given.wanted_one)
    (subst (λ (x : MonitorSession). IsFinish sample v x t) same (finishes sample phase)) lawful (λ i e. stays i (ap (λ (x : MonitorSession). verdict_at x.history i) same ∙ e))

-- it stands at the sample, without an entry
pub begun_at : (s b : MonitorSession) (sample : Sample) → IsBegin sample s b → b.phase ≡ Begun sample
begun_at s b sample begins = ap (λ (x : MonitorSession). x.phase) begins.after

pub begun_without : (s b : MonitorSession) (sample : Sample) → IsBegin sample s b → b.given ≡ None
begun_without s b sample begins = ap (λ (x : MonitorSession). x.given) begins.after

-- ---- afterwards

module _ (s t : MonitorSession) (sample : Sample) (v : Verdict) (is : IsDriven s t sample v) where
  pub driven_log : t.log ≡ s.log ++ accepted s sample ∷ []
  driven_log = ap (λ (x : MonitorSession). x.log) is.after

  pub driven_columns : t.columns ≡ s.columns
  driven_columns = ap (λ (x : MonitorSession). x.columns) is.after

  pub driven_automaton : t.history.automaton ≡ s.history.automaton
  driven_automaton = ap (λ (x : MonitorSession). x.history.automaton) is.after ∙ joined_automaton s.history is.given

  pub driven_jumps : t.history.jumps ≡ s.history.jumps
  driven_jumps = ap (λ (x : MonitorSession). x.history.jumps) is.after ∙ joined_jumps s.history is.given

  pub driven_idle : t.phase ≡ Idle
  driven_idle = ap (λ (x : MonitorSession). x.phase) is.after
