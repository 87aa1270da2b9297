-- A session in a world: the phase that it is at there.
use Rattle.std.specs.Prelude.{◌≡◌, ◌⊎◌, Some, None}
use Rattle.std.specs.Arc.{arc_value}
use Rattle.run_specs.specs.Logs.{Sample}
use Rattle.run_specs.specs.Keys.{Key}
use Rattle.run_specs.specs.Sessions as sessions
use Rattle.run_specs.specs.Sessions.{MonitorSession, Phase, key_for, wanted}
use Rattle.live_session.specs.Entries.{entry_of}
use Rattle.interleave_core.specs.declared.seats.Stage.{Stage}
use Rattle.interleave_core.specs.declared.seats.Stage.TheVariants.{Idle, Begun, Missed, Filled}

-- it is idle, or wants an entry for the sample that it has begun
abbrev pub ShowsItsPhase : MonitorSession → Type 0
ShowsItsPhase s = (s.phase ≡ sessions.Idle) ⊎ ((key : Key) × (wanted s ≡ Some key))

-- further on with a begun sample
abbrev pub moved : (Sample → Phase) → Phase → Phase
moved next sessions.Idle = sessions.Idle
moved next (sessions.Begun sample) = next sample
moved next (sessions.Missed sample) = sessions.Missed sample
moved next (sessions.Filled sample made) = sessions.Filled sample made

-- the session at its stage
abbrev pub seated : MonitorSession → Stage → MonitorSession
seated s Idle = s
seated s Begun = s
seated s Missed = record s { phase = moved sessions.Missed s.phase }
seated s (Filled made) = record s { phase = moved (λ sample. sessions.Filled sample (entry_of (arc_value made))) s.phase }

-- what its stage says of it
abbrev pub Fits : MonitorSession → Stage → Type 0
Fits s Idle = s.phase ≡ sessions.Idle
Fits s Begun = (sample : Sample) × (s.phase ≡ sessions.Begun sample)
Fits s Missed = (sample : Sample) × (s.phase ≡ sessions.Begun sample) × (wanted s ≡ Some (key_for s sample))
Fits s (Filled made) = (sample : Sample) × (s.phase ≡ sessions.Begun sample) × (wanted s ≡ Some (arc_value made).0)

-- with no sample begun
abbrev pub at_rest : MonitorSession → MonitorSession
at_rest s = record s { phase = sessions.Idle; given = None }
