-- The samples after all lines were taken.
use Rattle.std.proofs.Common.{◌≡◌, ℕ, List, [], Option, None, Some, refl, sym, ap, ◌∙◌}
use Rattle.run_specs.specs.Automaton.{Automaton}
use Rattle.run_specs.specs.Logs.{Sample}
use Rattle.log_specs.specs.LogSessions.{LogState, no_lines}
use Rattle.report_specs.specs.Lines.{lines_of}
use Rattle.replay_reports.specs.LogSamples.{state_after_lines, first_samples, accepted_samples}
use Rattle.log_samples.specs.Lines.{lines_from}
use Rattle.log_samples.specs.SoFar.{SoFar, IsKept, sessions, state_of}

of_sessions : (a : Automaton) (columns : Option (List (List ℕ))) (ss : List Sample) → (columns ≡ None → ss ≡ []) → ss ≡ first_samples (sessions a columns ss)
of_sessions a None ss h = h refl
of_sessions a (Some columns) ss h = refl

pub all_taken : (a : Automaton) (r : SoFar) (log : List Sample) (text rest : List ℕ) → IsKept r → log ≡ r.samples → lines_from rest ≡ [] →
    state_after_lines a (state_of r) (lines_from rest) ≡ state_after_lines a no_lines (lines_of text) → log ≡ accepted_samples a text
all_taken a r log text rest kept same none same_state =
    same ∙ of_sessions r.automaton r.columns r.samples kept.samples
    ∙ ap (λ (s : LogState). first_samples s.open_sessions) (ap (λ ls. state_after_lines a (state_of r) ls) (sym none) ∙ same_state)
