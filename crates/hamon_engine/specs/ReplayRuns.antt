-- What a run does that replays. The run's text is read where other commands read a log.
use Rattle.std.specs.Prelude.{◌≡◌, ◌⊎◌, ⊤, ℕ, ◌<◌, ◌≤◌, List, length, Option, IfSome}
use Rattle.std.specs.Io.KnownBytes.{Consumes}
use Rattle.mon_io.specs.Faults.{Rose}
use Rattle.run_specs.specs.Automaton.{Automaton}
use Rattle.report_loop.specs.declared.status.Status.{Status}
use Rattle.report_loop.specs.declared.status.Status.TheVariants as status
use Rattle.report_loop.specs.Outcome.{HasEnded, IsUntouched}
use Rattle.replay_log.specs.Replays.{SaysReplay, IsLongText, text_limit}
use Rattle.hamon_engine.specs.Outside.{Outside}

-- the text of the log is too long, where it is told
abbrev pub IsLongLog : Option (List ℕ) → Type 0
IsLongLog told = IfSome told (λ text. text_limit < length text)

-- the log was not had: the shelf failed, its text is too long, or memory was wanted. Nothing was read or written
pub record HasNoLog (told : Option (List ℕ)) (before now : Outside) (s : Status) : Type 0 where
  pub untouched : IsUntouched before.streams now.streams
  pub why : ((s ≡ status.ReadFault) × Rose before.shelf_faults now.shelf_faults) ⊎ (((s ≡ status.Limit) × IsLongLog told) ⊎ (s ≡ status.Memory))

-- a run was replayed on the text of the log, which is that which the shelf tells
pub record ReplaysOn (a : Automaton) (k : ℕ) (told : Option (List ℕ)) (before now : Outside) (s : Status) : Type 0 where
  pub text : List ℕ
  pub same : IfSome told (λ t. text ≡ t)
  pub says : SaysReplay a k text before.streams now.streams s

-- what a replay does, by the text that the shelf tells of its log
abbrev pub Replays : Automaton → ℕ → Option (List ℕ) → Outside → Outside → Status → Type 0
Replays a k told before now s = ReplaysOn a k told before now s ⊎ HasNoLog told before now s

-- ---- completeness

-- no count of faults rose, and no more bytes of the run's text were read than it may have
pub record IsReplayUndisturbed (before now : Outside) : Type 0 where
  pub log : Rose before.streams.log_faults now.streams.log_faults → ⊥
  pub out : Rose before.streams.out_faults now.streams.out_faults → ⊥
  pub shelf : Rose before.shelf_faults now.shelf_faults → ⊥
  pub within : (read : List ℕ) → Consumes before.streams.log now.streams.log read → length read ≤ text_limit

-- the line was written, or memory was wanted
abbrev pub IsReplayed : Status → Type 0
IsReplayed s =
    (s ≡ status.Clean) ⊎ ((s ≡ status.Alarm) ⊎ ((s ≡ status.Overflow) ⊎ ((s ≡ status.NotARun) ⊎ (s ≡ status.Memory))))

-- with texts that are not too long, and nothing that disturbs, a replay writes its line
abbrev pub CompletesReplay : Option (List ℕ) → Outside → Outside → Status → Type 0
CompletesReplay told before now s = IfSome told (λ text. length text ≤ text_limit → IsReplayUndisturbed before now → IsReplayed s)

-- ---- causes

-- the causes of a status of a replay, also where no bytes are told. The other statuses do not come
abbrev pub HasReplayCause : Option (List ℕ) → Outside → Outside → Status → Type 0
HasReplayCause told before now status.ReadFault = Rose before.streams.log_faults now.streams.log_faults ⊎ Rose before.shelf_faults now.shelf_faults
HasReplayCause told before now status.WriteFault = Rose before.streams.out_faults now.streams.out_faults
HasReplayCause told before now status.Words = IsUntouched before.streams now.streams
HasReplayCause told before now status.Model = IsUntouched before.streams now.streams
HasReplayCause told before now status.Clean = HasEnded before.streams now.streams
HasReplayCause told before now status.Alarm = HasEnded before.streams now.streams
HasReplayCause told before now status.Overflow = HasEnded before.streams now.streams
HasReplayCause told before now status.NotARun = HasEnded before.streams now.streams
HasReplayCause told before now status.Limit = IsLongLog told ⊎ IsLongText before.streams.log now.streams.log
HasReplayCause told before now status.Memory = ⊤
HasReplayCause told before now _ = ⊥
