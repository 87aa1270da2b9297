-- What a status says of the bytes that were read and written.
use Rattle.std.specs.Prelude.{◌≡◌, ℕ, ◌^◌, ◌<◌, ◌≤◌, Result, Ok, Err, List, [], ◌++◌, length, take, Option, IfSome, Contains}
use Rattle.std.specs.Io.KnownBytes.{Appends, Consumes, IsAtEnd, Keeps}
use Rattle.mon_io.specs.Faults.{Rose}
use Rattle.mon_io.specs.declared.sink.SinkFault.{SinkFault}
use Rattle.mon_io.specs.declared.sink.SinkFault.TheVariants.{Failed, Memory}
use Rattle.run_specs.specs.declared.Verdict.{Verdict}
use Rattle.run_specs.specs.declared.Verdict.TheVariants as verdict
use Rattle.report_specs.specs.Lines.{lines_of, whole_lines}
use Rattle.report_specs.specs.Report.{Rules, IsReportOf, AreFirstLines}
use Rattle.report_loop.specs.declared.status.Status.{Status}
use Rattle.report_loop.specs.declared.status.Status.TheVariants as status

-- the log and the output, before or after a call: the bytes left and the bytes taken, where they are told, and the counts of faults
pub record Streams : Type 0 where
  pub log : Option (List ℕ)
  pub log_faults : ℕ
  pub out : Option (List ℕ)
  pub out_faults : ℕ

-- the most bytes of a log that are read
abbrev pub log_limit : ℕ
log_limit = 2 ^ 34

-- from the log these bytes were read; of lines of them, of which Covers says which, a report was made; and it was written but
-- for the rest
pub record Wrote {K : Type 0} (rules : Rules K) (before now : Streams) (rest : List ℕ) (Covers : List ℕ → List (List ℕ) → List Verdict → Type 0) : Type 0 where
  pub read : List ℕ
  pub consumed : Consumes before.log now.log read
  pub lines : List (List ℕ)
  pub replies : List Verdict
  pub written : List ℕ
  pub report : IsReportOf rules lines (written ++ rest) replies
  pub taken : Appends before.out now.out written
  pub covers : Covers read lines replies

-- the log gave its end, where its bytes are told
abbrev pub HasEnded : Streams → Streams → Type 0
HasEnded before now = IfSome before.log (λ _. IsAtEnd now.log)

-- the lines are all lines of what was read, which is all that the log gives; P holds of the replies
pub record CoversAll (Ended : Type 0) (P : List Verdict → Type 0) (read : List ℕ) (lines : List (List ℕ)) (replies : List Verdict) : Type 0 where
  pub all : lines ≡ lines_of read
  pub ended : Ended
  pub below : length read < log_limit
  pub said : P replies

-- the lines are those that are whole in what was read; P holds of what was read
pub record CoversWhole (P : List ℕ → Type 0) (read : List ℕ) (lines : List (List ℕ)) (replies : List Verdict) : Type 0 where
  pub whole : lines ≡ whole_lines read
  pub why : P read

-- the lines are the first of what was read
abbrev pub CoversSome : Type 0 → List ℕ → List (List ℕ) → List Verdict → Type 0
CoversSome Ended read lines replies = AreFirstLines Ended read lines

-- no reply is an alarm
abbrev pub NoAlarm : List Verdict → Type 0
NoAlarm replies = Contains replies verdict.Alarm → ⊥

-- some reply is
abbrev pub SomeAlarm : List Verdict → Type 0
SomeAlarm replies = Contains replies verdict.Alarm

-- no reply is an alarm, and some reply is an overflow
abbrev pub OnlyOverflow : List Verdict → Type 0
OnlyOverflow replies = NoAlarm replies × Contains replies verdict.Overflow

-- no reply is an alarm or an overflow
abbrev pub AllTold : List Verdict → Type 0
AllTold replies = NoAlarm replies × (Contains replies verdict.Overflow → ⊥)

-- the beginning of a report of the first lines was written
abbrev pub ReportsSome : {K : Type 0} → Rules K → Streams → Streams → Type 0
ReportsSome rules before now = (rest : List ℕ) × Wrote rules before now rest (CoversSome (HasEnded before now))

-- what a status says of a report of which the rest is not written yet. No other status comes of a reading
abbrev pub SaysBut : {K : Type 0} → Rules K → Streams → Streams → List ℕ → Status → Type 0
SaysBut rules before now rest status.Clean = Wrote rules before now rest (CoversAll (HasEnded before now) AllTold)
SaysBut rules before now rest status.Alarm = Wrote rules before now rest (CoversAll (HasEnded before now) SomeAlarm)
SaysBut rules before now rest status.Overflow = Wrote rules before now rest (CoversAll (HasEnded before now) OnlyOverflow)
SaysBut rules before now rest status.ReadFault = Wrote rules before now rest (CoversWhole (λ _. Rose before.log_faults now.log_faults))
SaysBut rules before now rest status.Limit = Wrote rules before now rest (CoversWhole (λ read. length read ≡ log_limit))
SaysBut rules before now rest status.Memory = Wrote rules before now rest (CoversSome (HasEnded before now))
SaysBut rules before now rest _ = ⊥

-- what the status of a call that reports a log says. Clean, Alarm and Overflow: the log was read to its end, and its report was written.
-- ReadFault and Limit: a report of the lines that are whole in what was read was written. WriteFault and Memory: the beginning of
-- a report of the first lines was written
abbrev pub Says : {K : Type 0} → Rules K → Streams → Streams → Status → Type 0
Says rules before now status.Clean = SaysBut rules before now [] status.Clean
Says rules before now status.Alarm = SaysBut rules before now [] status.Alarm
Says rules before now status.Overflow = SaysBut rules before now [] status.Overflow
Says rules before now status.ReadFault = SaysBut rules before now [] status.ReadFault
Says rules before now status.Limit = SaysBut rules before now [] status.Limit
Says rules before now status.WriteFault = ReportsSome rules before now × Rose before.out_faults now.out_faults
Says rules before now status.Memory = ReportsSome rules before now
Says rules before now _ = ⊥

-- nothing was read or written
pub record IsUntouched (before now : Streams) : Type 0 where
  pub log : Keeps before.log now.log
  pub out : Keeps before.out now.out

-- what a write of pending bytes says: they are written and gone, or the first of them are
abbrev pub WriteSays : Option (List ℕ) → Option (List ℕ) → ℕ → ℕ → List ℕ → List ℕ → Result Unit SinkFault → Type 0
WriteSays old new faults_before faults_now before after (Ok u) = Appends old new before × (after ≡ []) × (faults_before ≤ faults_now)
WriteSays old new faults_before faults_now before after (Err Failed) = ((n : ℕ) × Appends old new (take n before)) × Rose faults_before faults_now
WriteSays old new faults_before faults_now before after (Err Memory) = (n : ℕ) × Appends old new (take n before)
