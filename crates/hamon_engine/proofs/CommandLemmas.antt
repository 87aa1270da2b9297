-- What a command does, by what its parts say.
use Rattle.std.proofs.Common.{◌≡◌, ◌≢◌, ◌⊎◌, inl, inr, ℕ, ◌≤◌, List, [], ◌∷◌, length, Option, None, Some, refl, subst, arith}
use Rattle.std.specs.Prelude.{IfSome}
use Rattle.run_specs.specs.Automaton.{Automaton}
use Rattle.log_specs.specs.declared.LogForm.TheVariants as form
use Rattle.log_specs.specs.LogReports.{rules_of}
use Rattle.log_specs.specs.LogSessions.{first_automaton}
use Rattle.report_loop.specs.declared.status.Status.{Status}
use Rattle.report_loop.specs.declared.status.Status.TheVariants as status
use Rattle.report_loop.specs.Tasks.{log_task}
use Rattle.report_loop.specs.Outcome.{Streams, IsUntouched}
use Rattle.command_words.specs.CommandLine.{Command, Check, Watch, Replay, Request}
use Rattle.command_words.specs.declared.options.Options.{Options}
use Rattle.hamon_engine.specs.Outside.{Outside}
use Rattle.hamon_engine.specs.Runs.{Does, HasCommandCause, HasCause, HasLogCause, CompletesCommand}
use Rattle.hamon_engine.specs.Telling.{IsToldAlone}
use Rattle.hamon_engine.proofs.ReportLemmas.{says_no_words, says_alone, says_cause, says_memory, says_complete}
use Rattle.hamon_engine.proofs.ReplayLemmas.{replay_no_words, replay_alone, replay_cause, replay_memory, replay_complete, replay_from}

module _ (o : Options) (before now : Outside) (x : Status) where
  pub does_alone : (c : Command) (automata : List Automaton) → Does c automata o before now x → IsToldAlone x
  does_alone (Check model) automata does = says_alone (rules_of (log_task form.Check automata o.jumps o.runs)) before.streams now.streams x does
  does_alone (Watch model) automata does = says_alone (rules_of (log_task form.Watch automata o.jumps o.runs)) before.streams now.streams x does
  does_alone (Replay model log) automata does = replay_alone does.0 o.jumps (before.shelf log) before now x does.2

  pub does_no_words : (c : Command) (automata : List Automaton) → Does c automata o before now x → x ≢ status.Words
  does_no_words (Check model) automata does = says_no_words (rules_of (log_task form.Check automata o.jumps o.runs)) before.streams now.streams x does
  does_no_words (Watch model) automata does = says_no_words (rules_of (log_task form.Watch automata o.jumps o.runs)) before.streams now.streams x does
  does_no_words (Replay model log) automata does = replay_no_words does.0 o.jumps (before.shelf log) before now x does.2

  pub does_cause : (c : Command) (automata : List Automaton) → Does c automata o before now x → HasCommandCause c before now x
  does_cause (Check model) automata does = says_cause (rules_of (log_task form.Check automata o.jumps o.runs)) before now x does
  does_cause (Watch model) automata does = says_cause (rules_of (log_task form.Watch automata o.jumps o.runs)) before now x does
  does_cause (Replay model log) automata does = replay_cause does.0 o.jumps (before.shelf log) before now x does.2

  pub does_complete : (c : Command) (automata : List Automaton) → Does c automata o before now x → CompletesCommand c before now x
  does_complete (Check model) automata does = λ u. says_complete (rules_of (log_task form.Check automata o.jumps o.runs)) before now x u does
  does_complete (Watch model) automata does = λ u. says_complete (rules_of (log_task form.Watch automata o.jumps o.runs)) before now x u does
  does_complete (Replay model log) automata does = replay_complete does.0 o.jumps (before.shelf log) before now x does.2

  pub does_memory : (c : Command) (automata : List Automaton) → Does c automata o before now x → Does c automata o before now status.Memory
  does_memory (Check model) automata does = says_memory (rules_of (log_task form.Check automata o.jumps o.runs)) before.streams now.streams x does
  does_memory (Watch model) automata does = says_memory (rules_of (log_task form.Watch automata o.jumps o.runs)) before.streams now.streams x does
  does_memory (Replay model log) automata does = (does.0, does.1, replay_memory does.0 o.jumps (before.shelf log) before now x does.2)

-- after another look at the shelf, which keeps its texts
pub does_from : (c : Command) (automata : List Automaton) (o : Options) (s n : Streams) (t v u : List ℕ → Option (List ℕ)) (f g h : ℕ) (x : Status) →
    ((name : List ℕ) → v name ≡ t name) → f ≤ g → Does c automata o (record { streams = s; shelf = v; shelf_faults = g }) (record { streams = n; shelf = u; shelf_faults = h }) x →
    Does c automata o (record { streams = s; shelf = t; shelf_faults = f }) (record { streams = n; shelf = u; shelf_faults = h }) x
does_from (Check model) automata o s n t v u f g h x same le does = does
does_from (Watch model) automata o s n t v u f g h x same le does = does
does_from (Replay model log) automata o s n t v u f g h x same le does = (does.0, does.1, replay_from does.0 o.jumps (t log) (v log) s n t v u f g h x (same log) le does.2)

-- ---- causes, whatever was asked for

pub memory_cause : (o : Option Request) (before now : Outside) → HasCause o before now status.Memory
memory_cause None before now = tt
memory_cause (Some r) before now = command_cause r.command
  where
    command_cause : (c : Command) → HasCommandCause c before now status.Memory
    command_cause (Check model) = tt
    command_cause (Watch model) = tt
    command_cause (Replay model log) = tt

pub words_cause : (o : Option Request) (before now : Outside) → IsUntouched before.streams now.streams → HasCause o before now status.Words
words_cause None before now u = u
words_cause (Some r) before now u = command_cause r.command
  where
    command_cause : (c : Command) → HasCommandCause c before now status.Words
    command_cause (Check model) = u
    command_cause (Watch model) = u
    command_cause (Replay model log) = u

-- ---- the first automaton

pub with_first : (automata : List Automaton) (P : Automaton → Type 0) → 1 ≤ length automata → IfSome (first_automaton automata) P → (a : Automaton) × (first_automaton automata ≡ Some a) × P a
with_first [] P some h = absurd (omega (arith, some))
with_first (a ∷ automata) P some h = (a, refl, h)
