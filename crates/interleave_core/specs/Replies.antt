-- The replies that a session of a world is told.
use Rattle.std.specs.Prelude.{◌≡◌, ℕ, List, ◌++◌, All, Some, slice_get}
use Rattle.run_specs.specs.declared.Verdict.{Verdict}
use Rattle.run_specs.specs.declared.Verdict.TheVariants.{Overflow}
use Rattle.run_specs.specs.Logs.{Sample}
use Rattle.run_specs.specs.SessionHistories.{verdict_at}
use Rattle.run_specs.specs.Sessions.{MonitorSession}
use Rattle.run_specs.specs.Verdicts.{AreLawfulAfter}
use Rattle.run_specs.specs.Worlds.{World, IsWorld, Event, IsEvent, Told, LeadTo, verdicts_of}

-- samples joined the log, and these are lawful replies to them; where an overflow was told before, there is nothing but overflows
pub record AreRepliesTo (s t : MonitorSession) (replies : List Verdict) : Type 0 where
  pub samples : List Sample
  pub log : t.log ≡ s.log ++ samples
  pub automaton : t.history.automaton ≡ s.history.automaton
  pub jumps : t.history.jumps ≡ s.history.jumps
  pub columns : t.columns ≡ s.columns
  pub lawful : AreLawfulAfter s.history.automaton s.history.jumps s.log samples replies
  pub stays : (i : ℕ) → verdict_at s.history i ≡ Some Overflow → All (λ v. v ≡ Overflow) replies

-- the verdicts told to each session are lawful replies to the samples that joined its own log
abbrev pub TellsLawfully : World → List Told → World → Type 0
TellsLawfully w told v =
    (i : ℕ) (s : MonitorSession) → slice_get w.sessions i ≡ Some s →
    (t : MonitorSession) × (slice_get v.sessions i ≡ Some t) × AreRepliesTo s t (verdicts_of i told)

-- in some world, events led the session of this number from s to t, and told it these replies
pub record IsTold (i : ℕ) (s t : MonitorSession) (replies : List Verdict) : Type 0 where
  pub before : World
  pub after : World
  pub events : List Event
  pub told : List Told
  pub is_world : IsWorld before
  pub are_events : All IsEvent events
  pub steps : LeadTo before events told after
  pub was : slice_get before.sessions i ≡ Some s
  pub becomes : slice_get after.sessions i ≡ Some t
  pub told_it : replies ≡ verdicts_of i told

-- the same automaton, jumps, columns and accepted samples
pub record Agree (s t : MonitorSession) : Type 0 where
  pub automaton : s.history.automaton ≡ t.history.automaton
  pub jumps : s.history.jumps ≡ t.history.jumps
  pub columns : s.columns ≡ t.columns
  pub log : s.log ≡ t.log
