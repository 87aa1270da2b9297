-- The samples that the text of a log of one session accepts.
use Rattle.std.specs.Prelude.{ℕ, List, [], ◌∷◌}
use Rattle.run_specs.specs.Automaton.{Automaton}
use Rattle.run_specs.specs.Logs.{Sample}
use Rattle.report_specs.specs.Lines.{lines_of}
use Rattle.log_specs.specs.declared.LogForm.TheVariants.{Check}
use Rattle.log_specs.specs.LogSessions.{LogSession, LogState, no_lines, judge, state_after}

-- the state after these lines, which are judged by this automaton one after the other
abbrev pub state_after_lines : Automaton → LogState → List (List ℕ) → LogState
state_after_lines a at [] = at
state_after_lines a at (line ∷ lines) = state_after_lines a (state_after at (judge Check (a ∷ []) at line)) lines

-- the samples of the session that is open; none where none is
abbrev pub first_samples : List LogSession → List Sample
first_samples [] = []
first_samples (s ∷ sessions) = s.samples

-- the samples that are accepted of a text; a refused line gives none
abbrev pub accepted_samples : Automaton → List ℕ → List Sample
accepted_samples a text = first_samples (state_after_lines a no_lines (lines_of text)).open_sessions
