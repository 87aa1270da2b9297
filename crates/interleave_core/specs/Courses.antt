-- Events where each fill makes the outcome that a function has for the key.
use Rattle.std.specs.Prelude.{◌≡◌, List, [], ◌∷◌, ◌++◌}
use Rattle.poly_specs.specs.Lists.{In}
use Rattle.run_specs.specs.Logs.{Sample}
use Rattle.run_specs.specs.Keys.{Key}
use Rattle.run_specs.specs.Outcomes.{Outcome}
use Rattle.run_specs.specs.SessionHistories.{Entry}
use Rattle.run_specs.specs.Sessions.{MonitorSession, Filled}
use Rattle.run_specs.specs.Worlds.{World, Event, Told, KeepsMemo, IsStep}

-- each entry that is made, and not put yet, has the outcome that f has for its key
abbrev pub AreMadeBy : (Key → Outcome) → World → Type 0
AreMadeBy f w = (s : MonitorSession) → In s w.sessions → (sample : Sample) (made : Entry) → s.phase ≡ Filled sample made → made.outcome ≡ f made.key

-- the events lead from w to v and tell these verdicts, and each fill makes the outcome that f has for the key
abbrev pub LeadBy : (Key → Outcome) → World → List Event → List Told → World → Type 0
LeadBy f w [] told v = KeepsMemo w v × (w.sessions ≡ v.sessions) × (told ≡ [])
LeadBy f w (event ∷ events) told v =
    (u : World) × (now : List Told) × (later : List Told) × IsStep w event now u × AreMadeBy f u × LeadBy f u events later v × (told ≡ now ++ later)
