-- What the lines of a log are to an automaton.
use Rattle.std.specs.Prelude.{◌≡◌, ℕ, List, [], ◌∷◌, length, Bool, true, ◌&&◌, not, ◌==◌, nat_le, Option, None, Some, Result}
use Rattle.run_specs.specs.Automaton.{Automaton}
use Rattle.run_specs.specs.Logs.{Sample}
use Rattle.log_specs.specs.declared.Refusal.{Refusal}
use Rattle.log_specs.specs.LogRows.{Cells}
use Rattle.log_specs.specs.LogSessions.{LogState, no_lines, refused, opened, accepted, may_follow, judge_header, judge_cells}
use Rattle.log_samples.specs.SoFar.{session}

-- as the first line, a header that reads so opens a session with these columns; None: it is refused
abbrev pub IsHeaderOf : Automaton → Result (List (List ℕ)) Refusal → Option (List (List ℕ)) → Type 0
IsHeaderOf a header None = (e : Refusal) × (judge_header (a ∷ []) no_lines header ≡ refused e)
IsHeaderOf a header (Some columns) = judge_header (a ∷ []) no_lines header ≡ opened (session a columns [])

-- while a session with these columns and samples is open
abbrev pub open_state : Automaton → List (List ℕ) → List Sample → LogState
open_state a columns samples = record { open_sessions = session a columns samples ∷ []; accepted = length samples; has_begun = true }

-- a line that reads so adds this sample; None: it is refused
abbrev pub IsSampleOf : Automaton → List (List ℕ) → List Sample → Result Cells Refusal → Option Sample → Type 0
IsSampleOf a columns samples cells None = (e : Refusal) × (judge_cells (open_state a columns samples) cells ≡ refused e)
IsSampleOf a columns samples cells (Some sample) = judge_cells (open_state a columns samples) cells ≡ accepted (session a columns samples) sample

-- no more samples are accepted
abbrev pub is_full : List Sample → Bool
is_full samples = nat_le 200000 (length samples)

-- a time and cells are accepted, for so many columns and after these samples
abbrev pub is_accepted : ℕ → List Sample → Cells → Bool
is_accepted columns samples c = (length c.cells == columns) && (may_follow samples c.time && not (is_full samples))
