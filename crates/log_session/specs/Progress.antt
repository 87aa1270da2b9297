-- A log that is judged, between two lines.
use Rattle.std.specs.Prelude.{◌≡◌, ℕ, List, ◌++◌}
use Rattle.run_specs.specs.Automaton.{Automaton}
use Rattle.run_specs.specs.declared.Verdict.{Verdict}
use Rattle.log_specs.specs.declared.LogForm.{LogForm}
use Rattle.log_specs.specs.declared.RunsMode.{RunsMode}
use Rattle.log_specs.specs.LogSessions.{Judgement}
use Rattle.log_specs.specs.Blocks.{Task, IsBlock}
use Rattle.log_specs.specs.LogReports.{Known, nothing_known, judgement, known_after}
use Rattle.log_session.specs.declared.tally.Tally.{Tally}
use Rattle.log_session.specs.Tallies.{no_replies, tally_after}

-- how it is read, the automata and the jumps in each gap that it is judged by, which runs are printed, what is known of it, and how
-- often each verdict was replied
pub record Progress : Type 0 where
  pub form : LogForm
  pub models : List Automaton
  pub jumps : ℕ
  pub runs : RunsMode
  pub known : Known
  pub tally : Tally

-- before the first line
abbrev pub at_start : LogForm → List Automaton → ℕ → RunsMode → Progress
at_start form models jumps runs = record { form = form; models = models; jumps = jumps; runs = runs; known = nothing_known; tally = no_replies }

-- the task of judging a log so
pub record IsTaskOf (task : Task) (p : Progress) : Type 0 where
  pub form : task.form ≡ p.form
  pub models : task.models ≡ p.models
  pub jumps : task.jumps ≡ p.jumps
  pub runs : task.runs ≡ p.runs

-- after what a line does, and the replies in its block
abbrev pub progress_after : Progress → Judgement → List Verdict → Progress
progress_after p j replies = record {
  form = p.form;
  models = p.models;
  jumps = p.jumps;
  runs = p.runs;
  known = known_after p.known j replies;
  tally = tally_after p.tally replies;
}

-- the line of this number was judged for the task: a block that it may have was added to those before
pub record AddsLine (task : Task) (old new : Progress) (number : ℕ) (line before after : List ℕ) : Type 0 where
  pub block : List ℕ
  pub replies : List Verdict
  pub grown : after ≡ before ++ block
  pub is_block : IsBlock task old.known.replied number (judgement task old.known line) block replies
  pub next : new ≡ progress_after old (judgement task old.known line) replies
