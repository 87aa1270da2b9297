-- What the report of a log is made for.
use Rattle.std.specs.Prelude.{ℕ, List}
use Rattle.run_specs.specs.Automaton.{Automaton}
use Rattle.log_specs.specs.declared.LogForm.{LogForm}
use Rattle.log_specs.specs.declared.LogForm.TheVariants.{Check}
use Rattle.log_specs.specs.declared.RunsMode.{RunsMode}
use Rattle.log_specs.specs.Blocks.{Task}

-- a log of this form is judged by these automata, with so many jumps in each gap, and these runs are printed
abbrev pub log_task : LogForm → List Automaton → ℕ → RunsMode → Task
log_task form automata jumps runs = record { form = form; models = automata; jumps = jumps; runs = runs }

-- the log of one session is judged by the first of these automata
abbrev pub check_task : List Automaton → ℕ → RunsMode → Task
check_task automata jumps runs = log_task Check automata jumps runs
