-- What a line does, as it is told in its block.
use Rattle.std.specs.Prelude.{◌≡◌, ◌≤◌, ℕ, List, ◌++◌, length, Bool, Option, Result, All, IfSome, ⊤}
use Rattle.run_specs.specs.Automaton.{Automaton}
use Rattle.number_specs.specs.LogNumbers.{IsLogNumber}
use Rattle.run_specs.specs.declared.Verdict.{Verdict}
use Rattle.log_specs.specs.declared.Refusal.{Refusal}
use Rattle.log_specs.specs.LogRows.{WatchRow, Cells, opening, sample, closing, flush}
use Rattle.log_specs.specs.LogSessions.{LogState, Judgement, session_of, judge_header, judge_cells, judge_row, judge_opening, judge_closing, judge_sample}
use Rattle.log_specs.specs.Blocks.{Task, IsBlock}
use Rattle.log_table.specs.declared.not_taken.NotTaken.{NotTaken}
use Rattle.log_table.specs.Refusals.{IsNotTaken}
use Rattle.log_session.specs.Progress.{Progress, IsTaskOf, progress_after}

-- what a line does was told: a block that it may have was added to those before
pub record Tells (task : Task) (old new : Progress) (number : ℕ) (j : Judgement) (before after : List ℕ) : Type 0 where
  pub block : List ℕ
  pub replies : List Verdict
  pub grown : after ≡ before ++ block
  pub is_block : IsBlock task old.known.replied number j block replies
  pub next : new ≡ progress_after old j replies

-- it was judged so, by any task of the log
abbrev pub TellsSo : Progress → Progress → ℕ → (Task → LogState → Judgement) → List ℕ → List ℕ → Type 0
TellsSo old new number judged before after =
    (task : Task) → IsTaskOf task old → Tells task old new number (judged task old.known.state) before after

-- it was judged as a header that reads so
abbrev pub TellsHeader : Progress → Progress → ℕ → Result (List (List ℕ)) Refusal → List ℕ → List ℕ → Type 0
TellsHeader old new number header before after = TellsSo old new number (λ task at. judge_header task.models at header) before after

-- it was judged as a line after the header that reads so
abbrev pub TellsCells : Progress → Progress → ℕ → Result Cells Refusal → List ℕ → List ℕ → Type 0
TellsCells old new number cells before after = TellsSo old new number (λ task at. judge_cells at cells) before after

-- it was judged as a row of `watch` that reads so
abbrev pub TellsRow : Progress → Progress → ℕ → Result WatchRow Refusal → List ℕ → List ℕ → Type 0
TellsRow old new number row before after = TellsSo old new number (λ task at. judge_row task.models at row) before after

-- it was judged as an opening of this session
abbrev pub TellsOpening : Progress → Progress → ℕ → List ℕ → List (List ℕ) → Option Automaton → List ℕ → List ℕ → Type 0
TellsOpening old new number name columns a before after =
    TellsSo old new number (λ task at. judge_opening at name columns a (session_of at name)) before after

-- as a closing of this session
abbrev pub TellsClosing : Progress → Progress → ℕ → List ℕ → List ℕ → List ℕ → Type 0
TellsClosing old new number name before after = TellsSo old new number (λ task at. judge_closing name (session_of at name)) before after

-- as a sample of this session
abbrev pub TellsSample : Progress → Progress → ℕ → List ℕ → Cells → List ℕ → List ℕ → Type 0
TellsSample old new number name cells before after =
    TellsSo old new number (λ task at. judge_sample at cells (session_of at name)) before after

-- it was judged as whatever the table did not take for this reason
abbrev pub IsToldBy : Progress → Progress → ℕ → NotTaken → List ℕ → List ℕ → Type 0
IsToldBy old new number why before after =
    (task : Task) (judged : Bool → Judgement) → IsNotTaken judged why → Tells task old new number (judged old.known.state.has_begun) before after

-- a row that a line may be: its names are short, and its numbers are those of a log
abbrev pub IsRowOfALine : WatchRow → Type 0
IsRowOfALine (opening session automaton columns) = length session ≤ 32
IsRowOfALine (sample session time cells) = (length session ≤ 32) × IsLogNumber time × All (λ cell. IfSome cell IsLogNumber) cells
IsRowOfALine (closing session) = length session ≤ 32
IsRowOfALine flush = ⊤
