-- A report in the making.
use Rattle.std.specs.Prelude.{◌≡◌, ℕ, ◌+◌, ◌<◌, ◌≤◌, List, ◌++◌, length, Bool, true, false, if◌then◌else◌, Option, Some, None, Result, Ok, Err, nat_le}
use Rattle.std.specs.Io.KnownBytes.{Appends, Consumes}
use Rattle.run_specs.specs.declared.Verdict.{Verdict}
use Rattle.report_specs.specs.Report.{AreBlocks}
use Rattle.log_specs.specs.Blocks.{Task}
use Rattle.log_specs.specs.LogReports.{nothing_known, rules_of}
use Rattle.log_reader.specs.declared.line.Line.{Line}
use Rattle.log_reader.specs.declared.line.Line.TheVariants.{Text, Long, End}
use Rattle.log_reader.specs.declared.reader.ReadFault.{ReadFault}
use Rattle.log_reader.specs.declared.reader.ReadFault.TheVariants.{Failed, Limit, Memory}
use Rattle.log_reader.specs.Reading.{Reading, Stored, IsOf, HasGiven}
use Rattle.log_session.specs.declared.tally.Tally.{Tally}
use Rattle.log_session.specs.Tallies.{tally_of}
use Rattle.log_session.specs.Progress.{Progress, IsTaskOf, AddsLine}
use Rattle.mon_io.specs.declared.sink.SinkFault.{SinkFault}
use Rattle.mon_io.specs.declared.sink.SinkFault.TheVariants as sink
use Rattle.report_loop.specs.declared.status.Status.{Status}
use Rattle.report_loop.specs.declared.status.Status.TheVariants as status
use Rattle.report_loop.specs.Outcome.{Streams, HasEnded, Says, SaysBut, log_limit}

-- the reader gave a line, and not the end
abbrev pub is_line : Line → Bool
is_line (Text number line) = true
is_line (Long number) = true
is_line End = false

-- what was added for what a reader gave: the block of a line, or nothing at the end
abbrev pub AddsBlock : Task → Line → Progress → Progress → List ℕ → List ℕ → Type 0
AddsBlock task (Text number line) p q old new = AddsLine task p q number line.items old new
AddsBlock task (Long number) p q old new = (line : List ℕ) → 4096 < length line → AddsLine task p q number line old new
AddsBlock task End p q old new = (new ≡ old) × (q ≡ p)

-- the lines that were given are reported: what was written and then what is pending
pub record IsReportingAt (task : Task) (before now : Streams) (r : Reading) (p : Progress) (pending : List ℕ) : Type 0 where
  pub read : List ℕ
  pub consumed : Consumes before.log now.log read
  pub counted : r.taken ≡ length read
  pub most : r.most ≡ log_limit
  pub end : r.has_ended ≡ true → HasEnded before now
  pub below : r.has_ended ≡ true → r.taken < r.most
  pub lines : List (List ℕ)
  pub given : HasGiven read r lines
  pub count : r.given ≡ length lines
  pub replies : List Verdict
  pub written : List ℕ
  pub blocks : AreBlocks (rules_of task) nothing_known 1 lines (written ++ pending) replies p.known
  pub taken : Appends before.out now.out written
  pub is_task : IsTaskOf task p
  pub tallied : p.tally ≡ tally_of replies
  pub log_faults : before.log_faults ≤ now.log_faults
  pub out_faults : before.out_faults ≤ now.out_faults

-- the same of a reader, by a reading that it stands for
abbrev pub IsReporting : Task → Streams → Streams → Stored → Progress → List ℕ → Type 0
IsReporting task before now reader p pending = (r : Reading) × IsOf reader r × IsReportingAt task before now r p pending

-- what a turn says: one line more, or how the reading ended
abbrev pub TurnSays : Task → Streams → Streams → Stored → Progress → List ℕ → Option Status → Type 0
TurnSays task before now r p pending None = IsReporting task before now r p pending
TurnSays task before now r p pending (Some status) = SaysBut (rules_of task) before now pending status

-- the reader gave one line more, and may get as many bytes as before
pub record GivesOne (old new : Stored) : Type 0 where
  pub given : new.reading.given ≡ old.reading.given + 1
  pub most : new.reading.most ≡ old.reading.most

-- the status at the end of a log, by how often each verdict was replied
abbrev pub status_at_end : Tally → Status
status_at_end t = if nat_le 1 t.alarm then status.Alarm else if nat_le 1 t.overflow then status.Overflow else status.Clean

-- the status of a reading that failed
abbrev pub status_for : ReadFault → Status
status_for Failed = status.ReadFault
status_for Limit = status.Limit
status_for Memory = status.Memory

-- the status of a write that failed
abbrev pub write_status_for : SinkFault → Status
write_status_for sink.Failed = status.WriteFault
write_status_for sink.Memory = status.Memory

-- how the reading ended, with the rest to be written yet; or how a write failed
abbrev pub LinesSay : Task → Streams → Streams → List ℕ → Result Status SinkFault → Type 0
LinesSay task before now rest (Ok status) = SaysBut (rules_of task) before now rest status × (before.out_faults ≤ now.out_faults)
LinesSay task before now rest (Err fault) = Says (rules_of task) before now (write_status_for fault)

-- after a flush the report goes on, or how a write failed
abbrev pub FlushSays : Task → Streams → Streams → Stored → Progress → List ℕ → Result Unit SinkFault → Type 0
FlushSays task before now r p pending (Ok u) = IsReporting task before now r p pending
FlushSays task before now r p pending (Err fault) = Says (rules_of task) before now (write_status_for fault)
