-- The blocks of a report: what stands in it for a line of the log.
use Rattle.std.specs.Prelude.{◌≡◌, ◌⊎◌, ℕ, List, [], ◌∷◌, ◌++◌, map, filter, find, Bool, true, false, not, ◌&&◌, Option, Some, None, option_and_then, if◌then◌else◌, codes, decimal, bytes_eq}
use Rattle.run_specs.specs.Automaton.{Automaton}
use Rattle.run_specs.specs.Logs.{Sample}
use Rattle.run_specs.specs.Runs.{Run}
use Rattle.run_specs.specs.Aims.{to_alarm}
use Rattle.run_specs.specs.FirstRun.{IsFirstRun}
use Rattle.run_specs.specs.RunPasses.{RunPasses}
use Rattle.run_specs.specs.declared.Verdict.{Verdict}
use Rattle.run_specs.specs.declared.Verdict.TheVariants.{Alarm, Safe, Impossible, Overflow}
use Rattle.run_specs.specs.Verdicts.{IsLawful}
use Rattle.log_specs.specs.declared.LogForm.{LogForm}
use Rattle.log_specs.specs.declared.LogForm.TheVariants.{Check, Watch}
use Rattle.log_specs.specs.declared.Refusal.{Refusal}
use Rattle.log_specs.specs.declared.Refusal.TheVariants as why
use Rattle.log_specs.specs.declared.RunsMode.{RunsMode}
use Rattle.log_specs.specs.declared.RunsMode.TheVariants as mode
use Rattle.log_specs.specs.LogSessions.{LogSession, Judgement, passed_over, refused, opened, closed, flushed, accepted}
use Rattle.replay_specs.specs.RunTexts.{run_lines, ended_lines, IsWritable}

-- what a report is made for: how the log is read, the automata of the file, the jumps allowed in each gap, and which runs are printed
pub record Task : Type 0 where
  pub form : LogForm
  pub models : List Automaton
  pub jumps : ℕ
  pub runs : RunsMode

-- ---- what was replied so far

-- an open session, and the last reply to it since its opening
pub record LastReply : Type 0 where
  pub session : List ℕ
  pub reply : Option Verdict

-- the last reply to the open session of this name
abbrev pub last_of : List LastReply → List ℕ → Option Verdict
last_of replied name = option_and_then (λ r. r.reply) (find (λ r. bytes_eq name r.session) replied)

-- the last reply, after these
abbrev pub latest : Option Verdict → List Verdict → Option Verdict
latest last [] = last
latest last (v ∷ replies) = latest (Some v) replies

-- the session was given these replies, where it has this name
abbrev pub with_replies : List ℕ → List Verdict → LastReply → LastReply
with_replies name replies r = if bytes_eq name r.session then record r { reply = latest r.reply replies } else r

-- the last replies after what a line does and the replies in its block, in the order of opening
abbrev pub replied_after : List LastReply → Judgement → List Verdict → List LastReply
replied_after replied (opened s) replies = replied ++ record { session = s.name; reply = None } ∷ []
replied_after replied (closed name) replies = filter (λ r. not (bytes_eq name r.session)) replied
replied_after replied (accepted s sample) replies = map (with_replies s.name replies) replied
replied_after replied passed_over replies = replied
replied_after replied (refused e) replies = replied
replied_after replied flushed replies = replied

-- ---- words

-- the word of a refusal
abbrev pub refusal_word : Refusal → List ℕ
refusal_word why.Long = codes "long"
refusal_word why.Text = codes "text"
refusal_word why.Fields = codes "fields"
refusal_word why.Name = codes "name"
refusal_word why.Number = codes "number"
refusal_word why.Again = codes "again"
refusal_word why.Unknown = codes "unknown"
refusal_word why.Column = codes "column"
refusal_word why.Cells = codes "cells"
refusal_word why.Time = codes "time"
refusal_word why.Limit = codes "limit"

-- the word of a reply
abbrev pub verdict_word : Verdict → List ℕ
verdict_word Alarm = codes "alarm"
verdict_word Safe = codes "safe"
verdict_word Impossible = codes "impossible"
verdict_word Overflow = codes "overflow"

-- who is spoken of: nobody in `check`, the session in `watch`
abbrev pub subject : LogForm → List ℕ → List ℕ
subject Check name = codes ","
subject Watch name = codes "," ++ name ++ codes ","

-- ---- the run after an alarm

-- the reply is an alarm
abbrev pub is_alarm : Verdict → Bool
is_alarm Alarm = true
is_alarm Safe = false
is_alarm Impossible = false
is_alarm Overflow = false

-- the reply before was an alarm
abbrev pub was_alarm : Option Verdict → Bool
was_alarm None = false
was_alarm (Some v) = is_alarm v

-- a run is printed, by the session's reply before and this one
abbrev pub wants_run : RunsMode → Option Verdict → Verdict → Bool
wants_run mode.None last v = false
wants_run mode.First last v = is_alarm v && not (was_alarm last)
wants_run mode.All last v = is_alarm v

-- a run as it is printed: its lines, each behind `+ `
abbrev pub printed_run : Run → List ℕ
printed_run run = ended_lines (map (λ line. codes "+ " ++ line) (run_lines run.gaps))

-- what is printed where the run passes 128 bits
abbrev pub printed_overflow : List ℕ
printed_overflow = codes "+ overflow\n"

-- what stands behind a reply: where a run is wanted, the first run of the log, which has a text, or an overflow of a log whose run passes
abbrev pub IsRunPart : Automaton → ℕ → List Sample → Bool → List ℕ → Type 0
IsRunPart a k samples false bytes = bytes ≡ []
IsRunPart a k samples true bytes =
    ((run : Run) × IsFirstRun a k samples to_alarm run × IsWritable run.gaps × (bytes ≡ printed_run run))
    ⊎ (RunPasses a k samples to_alarm × (bytes ≡ printed_overflow))

-- ---- blocks

-- the block of an accepted sample: a lawful reply, after an overflow nothing but an overflow, and a run where one is wanted
pub record IsAnswered (task : Task) (last : Option Verdict) (number : ℕ) (s : LogSession) (sample : Sample) (v : Verdict) (block : List ℕ) : Type 0 where
  pub lawful : IsLawful s.automaton task.jumps (s.samples ++ sample ∷ []) v
  pub stays : last ≡ Some Overflow → v ≡ Overflow
  pub run_part : List ℕ
  pub is_run_part : IsRunPart s.automaton task.jumps (s.samples ++ sample ∷ []) (wants_run task.runs last v) run_part
  pub bytes : block ≡ decimal number ++ subject task.form s.name ++ verdict_word v ++ codes "\n" ++ run_part

-- nothing stands in it
abbrev pub IsEmptyBlock : List ℕ → List Verdict → Type 0
IsEmptyBlock block replies = (block ≡ []) × (replies ≡ [])

-- the block of the line of this number, which does so, and the reply in it
abbrev pub IsBlock : Task → List LastReply → ℕ → Judgement → List ℕ → List Verdict → Type 0
IsBlock task replied number passed_over block replies = IsEmptyBlock block replies
IsBlock task replied number (opened s) block replies = IsEmptyBlock block replies
IsBlock task replied number (closed name) block replies = IsEmptyBlock block replies
IsBlock task replied number flushed block replies = IsEmptyBlock block replies
IsBlock task replied number (refused e) block replies =
    (block ≡ decimal number ++ codes ",refused," ++ refusal_word e ++ codes "\n") × (replies ≡ [])
IsBlock task replied number (accepted s sample) block replies =
    (v : Verdict) × IsAnswered task (last_of replied s.name) number s sample v block × (replies ≡ v ∷ [])
