-- A session before and after a sample is driven: from its beginning, over the entry that it wants, to its reply.
use Rattle.std.specs.Prelude.{◌≡◌, ◌++◌, ◌∷◌, [], ℕ, length, Option, Some, None, IfSome}
use Rattle.std.specs.Option.{option_map}
use Rattle.run_specs.specs.Logs.{Sample}
use Rattle.run_specs.specs.declared.Verdict.{Verdict}
use Rattle.run_specs.specs.declared.Verdict.TheVariants as verdict
use Rattle.run_specs.specs.Keys.{Key}
use Rattle.run_specs.specs.SessionHistories.{Entry, IsEntry, verdict_at}
use Rattle.run_specs.specs.Sessions.{MonitorSession, Idle, MayBegin, accepted, wanted, wanted_for}
use Rattle.run_specs.specs.Worlds.{joined}
use Rattle.run_specs.specs.Verdicts.{IsLawful}

-- the entry for the key that is wanted, exact for it; none where no key is wanted
pub record IsFor (asked : Option Key) (given : Option Entry) : Type 0 where
  pub key : asked ≡ option_map (λ e. e.key) given
  pub entry : IfSome given IsEntry

-- the entry that was wanted was given, if one was; nothing more is wanted, and all else stays
pub record IsGiven (s t : MonitorSession) : Type 0 where
  pub given : Option Entry
  pub wanted_one : IsFor (wanted s) given
  pub after : t ≡ record s { given = given }
  pub nothing_wanted : wanted t ≡ None

-- the sample joined the log, the entry that it wanted, if it wanted one, the history, and this is the reply that the history then tells;
-- it is lawful for the session's own samples, and after an overflow it is one
pub record IsDriven (s t : MonitorSession) (sample : Sample) (v : Verdict) : Type 0 where
  pub may_begin : MayBegin s sample
  pub given : Option Entry
  pub wanted_one : IsFor (wanted_for s sample None) given
  pub after : t ≡ record s { log = s.log ++ accepted s sample ∷ []; history = joined s.history given; given = None; phase = Idle }
  pub tells : verdict_at t.history (length s.log) ≡ Some v
  pub lawful : IsLawful s.history.automaton s.history.jumps (s.log ++ accepted s sample ∷ []) v
  pub stays : (i : ℕ) → verdict_at s.history i ≡ Some verdict.Overflow → v ≡ verdict.Overflow
