-- Why a row is not taken.
use Rattle.std.specs.Prelude.{◌≡◌, ◌≢◌, ◌⊎◌, ◌≤◌, Bool, true, length, ⊤}
use Rattle.run_specs.specs.Logs.{Sample}
use Rattle.run_specs.specs.Sessions.{MonitorSession, IsInTime}
use Rattle.log_specs.specs.declared.Refusal.{Refusal}
use Rattle.log_specs.specs.declared.Refusal.TheVariants as why
use Rattle.log_specs.specs.LogSessions.{Judgement, refused}
use Rattle.live_session.specs.declared.refusals.SampleRefusal.{SampleRefusal}
use Rattle.live_session.specs.declared.refusals.SampleRefusal.TheVariants as sample
use Rattle.log_table.specs.declared.not_taken.NotTaken.{NotTaken}
use Rattle.log_table.specs.declared.not_taken.NotTaken.TheVariants as untaken

-- the row is refused by this word, by what it does; or memory was wanted
abbrev pub IsNotTaken : (Bool → Judgement) → NotTaken → Type 0
IsNotTaken judged (untaken.Refused e) = (begun : Bool) → judged begun ≡ refused e
IsNotTaken judged untaken.Memory = ⊤

-- ---- samples

-- what refuses a sample, as what refuses a row
abbrev pub refusal_of : SampleRefusal → NotTaken
refusal_of sample.Cells = untaken.Refused why.Cells
refusal_of sample.Time = untaken.Refused why.Time
refusal_of sample.Limit = untaken.Refused why.Limit
refusal_of sample.Memory = untaken.Memory

-- this is the first reason that holds, where no more samples are accepted or some are
abbrev pub IsRefusedBy : Bool → MonitorSession → Sample → Refusal → Type 0
IsRefusedBy full s sample why.Cells = length sample.cells ≢ length s.columns
IsRefusedBy full s sample why.Time = (length sample.cells ≡ length s.columns) × (IsInTime s.log sample.time → ⊥)
IsRefusedBy full s sample why.Limit = (length sample.cells ≡ length s.columns) × IsInTime s.log sample.time × ((full ≡ true) ⊎ (200000 ≤ length s.log))
IsRefusedBy full s sample why.Long = ⊥
IsRefusedBy full s sample why.Text = ⊥
IsRefusedBy full s sample why.Fields = ⊥
IsRefusedBy full s sample why.Name = ⊥
IsRefusedBy full s sample why.Number = ⊥
IsRefusedBy full s sample why.Again = ⊥
IsRefusedBy full s sample why.Unknown = ⊥
IsRefusedBy full s sample why.Column = ⊥

-- the same; or memory was wanted
abbrev pub IsSampleRefused : Bool → MonitorSession → Sample → NotTaken → Type 0
IsSampleRefused full s sample (untaken.Refused e) = IsRefusedBy full s sample e
IsSampleRefused full s sample untaken.Memory = ⊤
