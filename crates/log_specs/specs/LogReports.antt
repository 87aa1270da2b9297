-- The report of a log, as an instance of reports.
use Rattle.std.specs.Prelude.{◌≡◌, ℕ, List, [], ◌++◌, Option, None, codes}
use Rattle.run_specs.specs.declared.Verdict.{Verdict}
use Rattle.run_specs.specs.Verdicts.{AreLawful}
use Rattle.report_specs.specs.Report.{Rules}
use Rattle.log_specs.specs.LogSessions.{LogSession, LogState, no_lines, Judgement, judge, state_after}
use Rattle.log_specs.specs.Blocks.{Task, LastReply, latest, replied_after, IsBlock}

-- what is known between two lines: the sessions that are open and what was accepted, and the last replies to the sessions
pub record Known : Type 0 where
  pub state : LogState
  pub replied : List LastReply

-- before the first line
abbrev pub nothing_known : Known
nothing_known = record { state = no_lines; replied = [] }

-- what a line does, by what is known
abbrev pub judgement : Task → Known → List ℕ → Judgement
judgement task known line = judge task.form task.models known.state line

-- what is known after a line and the replies in its block
abbrev pub known_after : Known → Judgement → List Verdict → Known
known_after known j replies = record { state = state_after known.state j; replied = replied_after known.replied j replies }

-- the line of this number may have this block with these replies, and then so much is known
pub record IsJudged (task : Task) (known : Known) (number : ℕ) (line block : List ℕ) (replies : List Verdict) (after : Known) : Type 0 where
  pub is_block : IsBlock task known.replied number (judgement task known line) block replies
  pub next : after ≡ known_after known (judgement task known line) replies

-- how the lines of a log are judged
abbrev pub rules_of : Task → Rules Known
rules_of task = record { start = nothing_known; IsLine = IsJudged task }

-- no line of it ends with the word `overflow`
abbrev pub HasNoOverflowWord : List ℕ → Type 0
HasNoOverflowWord bytes = (front back : List ℕ) → bytes ≡ front ++ codes "overflow\n" ++ back → ⊥

-- one reply for each sample of the session, all of them lawful, and this is the last one
pub record WasReplied (task : Task) (s : LogSession) (last : Option Verdict) (replies : List Verdict) : Type 0 where
  pub lawful : AreLawful s.automaton task.jumps s.samples replies
  pub ends : last ≡ latest None replies
