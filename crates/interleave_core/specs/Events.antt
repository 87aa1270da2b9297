-- The events of the code as those of the definitions.
use Rattle.std.specs.Prelude.{ℕ, List, map, All, IfSome, ⊤}
use Rattle.number_specs.specs.LogNumbers.{IsLogNumber}
use Rattle.run_specs.specs.declared.Verdict.{Verdict}
use Rattle.run_specs.specs.Worlds as worlds
use Rattle.run_specs.specs.Worlds.{Told}
use Rattle.interleave_core.specs.declared.events.Event.{Event}
use Rattle.interleave_core.specs.declared.events.Event.TheVariants.{Begin, LookHit, LookMiss, Fill, Put, Finish}

abbrev pub event_of : Event → worlds.Event
event_of (Begin i sample) = worlds.Begin i sample
event_of (LookHit i) = worlds.LookHit i
event_of (LookMiss i) = worlds.LookMiss i
event_of (Fill i) = worlds.Fill i
event_of (Put i) = worlds.Put i
event_of (Finish i) = worlds.Finish i

abbrev pub events_of : List Event → List worlds.Event
events_of events = map event_of events

-- the numbers of the sample, where it has one, are numbers of a log
abbrev pub HasLogNumbers : Event → Type 0
HasLogNumbers (Begin i sample) = IsLogNumber sample.time × All (λ cell. IfSome cell IsLogNumber) sample.cells
HasLogNumbers (LookHit i) = ⊤
HasLogNumbers (LookMiss i) = ⊤
HasLogNumbers (Fill i) = ⊤
HasLogNumbers (Put i) = ⊤
HasLogNumbers (Finish i) = ⊤

-- a verdict told to the session of this number
abbrev pub told_to : ℕ × Verdict → Told
told_to pair = record { session = pair.0; verdict = pair.1 }
