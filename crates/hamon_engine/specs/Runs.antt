-- What a run does with its words, its model and its log.
use Rattle.std.specs.Prelude.{◌≡◌, ◌≢◌, ◌⊎◌, ℕ, ◌<◌, List, length, Option, None, Some, IfSome, option_and_then, ⊤}
use Rattle.std.specs.Io.KnownBytes.{Consumes}
use Rattle.mon_io.specs.Faults.{Rose}
use Rattle.run_specs.specs.Automaton.{Automaton}
use Rattle.log_specs.specs.declared.LogForm.{LogForm}
use Rattle.log_specs.specs.declared.LogForm.TheVariants as form
use Rattle.log_specs.specs.LogReports.{rules_of}
use Rattle.text_specs.specs.ModelTexts.{SaysAutomata}
use Rattle.log_specs.specs.LogSessions.{first_automaton}
use Rattle.command_words.specs.CommandLine.{Command, Check, Watch, Replay, Request}
use Rattle.command_words.specs.declared.options.Options.{Options}
use Rattle.report_loop.specs.declared.status.Status.{Status}
use Rattle.report_loop.specs.declared.status.Status.TheVariants as status
use Rattle.report_loop.specs.Tasks.{log_task}
use Rattle.report_loop.specs.Outcome.{Streams, HasEnded, Says, IsUntouched, log_limit}
use Rattle.hamon_engine.specs.Outside.{Outside}
use Rattle.hamon_engine.specs.ReplayRuns.{Replays, HasReplayCause, CompletesReplay}

-- the name of a command's model
abbrev pub model_of : Command → List ℕ
model_of (Check model) = model
model_of (Watch model) = model
model_of (Replay model log) = model

-- the text of the model that words ask for, where they ask for one and the shelf tells it
abbrev pub model_text : (List ℕ → Option (List ℕ)) → Option Request → Option (List ℕ)
model_text shelf request = option_and_then (λ r. shelf (model_of r.command)) request

-- ---- what is written

-- no model was had, since the shelf failed or memory was wanted: nothing was read or written
pub record HasNoModel (before now : Outside) (s : Status) : Type 0 where
  pub untouched : IsUntouched before.streams now.streams
  pub why : ((s ≡ status.ReadFault) × Rose before.shelf_faults now.shelf_faults) ⊎ (s ≡ status.Memory)

-- the text says no automata: it is refused, if it was had
pub record RefusesText (before now : Outside) (s : Status) : Type 0 where
  pub untouched : IsUntouched before.streams now.streams
  pub why : (s ≡ status.Model) ⊎ HasNoModel before now s

-- a log of this form was reported for these automata
abbrev pub Reports : LogForm → List Automaton → Options → Outside → Outside → Status → Type 0
Reports form automata options before now s = Says (rules_of (log_task form automata options.jumps options.runs)) before.streams now.streams s

-- what a command does with the automata of its model: the report of a log, or the line of a replay, by the first of them
abbrev pub Does : Command → List Automaton → Options → Outside → Outside → Status → Type 0
Does (Check model) automata options before now s = Reports form.Check automata options before now s
Does (Watch model) automata options before now s = Reports form.Watch automata options before now s
Does (Replay model log) automata options before now s =
    (a : Automaton) × (first_automaton automata ≡ Some a) × Replays a options.jumps (before.shelf log) before now s

-- what a run does with a model's text: what its command does with the automata, or a refusal
pub record RunsText (before now : Outside) (s : Status) (r : Request) (text : List ℕ) : Type 0 where
  pub does : (automata : List Automaton) → SaysAutomata text automata → Does r.command automata r.options before now s ⊎ HasNoModel before now s
  pub refuses : ((automata : List Automaton) → SaysAutomata text automata → ⊥) → RefusesText before now s

-- what a run does with what its words ask for; None: they are refused
abbrev pub RunsWords : Outside → Outside → Status → Option Request → Type 0
RunsWords before now s None = IsUntouched before.streams now.streams × ((s ≡ status.Words) ⊎ (s ≡ status.Memory))
RunsWords before now s (Some r) = (s ≢ status.Words) × IfSome (before.shelf (model_of r.command)) (RunsText before now s r)

-- ---- completeness

-- no count of faults rose, and fewer bytes of the log were read than are read at most
pub record IsUndisturbed (before now : Outside) : Type 0 where
  pub log : Rose before.streams.log_faults now.streams.log_faults → ⊥
  pub out : Rose before.streams.out_faults now.streams.out_faults → ⊥
  pub shelf : Rose before.shelf_faults now.shelf_faults → ⊥
  pub below : (read : List ℕ) → Consumes before.streams.log now.streams.log read → length read < log_limit

-- the log was read to its end, or memory was wanted
abbrev pub IsComplete : Status → Type 0
IsComplete s = (s ≡ status.Clean) ⊎ ((s ≡ status.Alarm) ⊎ ((s ≡ status.Overflow) ⊎ (s ≡ status.Memory)))

-- with nothing that disturbs, a command is complete
abbrev pub CompletesCommand : Command → Outside → Outside → Status → Type 0
CompletesCommand (Check model) before now s = IsUndisturbed before now → IsComplete s
CompletesCommand (Watch model) before now s = IsUndisturbed before now → IsComplete s
CompletesCommand (Replay model log) before now s = CompletesReplay (before.shelf log) before now s

-- with a model's text that says automata and nothing that disturbs, a run is complete
abbrev pub Completes : Outside → Outside → Status → Option Request → Type 0
Completes before now s None = ⊤
Completes before now s (Some r) =
    IfSome (before.shelf (model_of r.command)) (λ text. (automata : List Automaton) → SaysAutomata text automata → CompletesCommand r.command before now s)

-- ---- causes

-- as many bytes of the log were read as are read at most
pub record ReadsMost (before now : Streams) : Type 0 where
  pub read : List ℕ
  pub consumed : Consumes before.log now.log read
  pub most : length read ≡ log_limit

-- the causes of a status of a log's report, also where no bytes are told. The other statuses do not come
abbrev pub HasLogCause : Outside → Outside → Status → Type 0
HasLogCause before now status.ReadFault = Rose before.streams.log_faults now.streams.log_faults ⊎ Rose before.shelf_faults now.shelf_faults
HasLogCause before now status.WriteFault = Rose before.streams.out_faults now.streams.out_faults
HasLogCause before now status.Words = IsUntouched before.streams now.streams
HasLogCause before now status.Model = IsUntouched before.streams now.streams
HasLogCause before now status.Clean = HasEnded before.streams now.streams
HasLogCause before now status.Alarm = HasEnded before.streams now.streams
HasLogCause before now status.Overflow = HasEnded before.streams now.streams
HasLogCause before now status.Limit = ReadsMost before.streams now.streams
HasLogCause before now status.Memory = ⊤
HasLogCause before now _ = ⊥

-- by the command
abbrev pub HasCommandCause : Command → Outside → Outside → Status → Type 0
HasCommandCause (Check model) before now s = HasLogCause before now s
HasCommandCause (Watch model) before now s = HasLogCause before now s
HasCommandCause (Replay model log) before now s = HasReplayCause (before.shelf log) before now s

-- the causes of a run's status, by what its words ask for
abbrev pub HasCause : Option Request → Outside → Outside → Status → Type 0
HasCause None before now s = HasLogCause before now s
HasCause (Some r) before now s = HasCommandCause r.command before now s
