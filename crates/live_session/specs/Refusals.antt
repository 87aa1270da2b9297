-- When a sample is refused.
use Rattle.std.specs.Prelude.{◌≢◌, ◌≡◌, ◌≤◌, length}
use Rattle.run_specs.specs.Logs.{Sample}
use Rattle.run_specs.specs.Sessions.{MonitorSession, IsInTime, MayBegin}
use Rattle.live_session.specs.declared.refusals.SampleRefusal.{SampleRefusal}
use Rattle.live_session.specs.declared.refusals.SampleRefusal.TheVariants.{Cells, Time, Limit, Memory}

-- this is the first reason that holds; where none does, memory may be wanting
abbrev pub IsRefused : MonitorSession → Sample → SampleRefusal → Type 0
IsRefused s sample Cells = length sample.cells ≢ length s.columns
IsRefused s sample Time = (length sample.cells ≡ length s.columns) × (IsInTime s.log sample.time → ⊥)
IsRefused s sample Limit = (length sample.cells ≡ length s.columns) × IsInTime s.log sample.time × (200000 ≤ length s.log)
IsRefused s sample Memory = MayBegin s sample
