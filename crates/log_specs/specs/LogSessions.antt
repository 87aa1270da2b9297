-- What a line does to the open sessions, and which sessions are open after it.
use Rattle.std.specs.Prelude.{ℕ, ◌+◌, List, [], ◌∷◌, ◌++◌, map, filter, find, length, Bool, true, false, ◌&&◌, not, ◌==◌, nat_le, int_lt, if◌then◌else◌, ◌*ℤ◌, Option, Some, None, Result, Ok, Err, All, IfSome, bytes_eq}
use Rattle.std.specs.List.{list_any}
use Rattle.poly_specs.specs.Fractions.{Fraction, zero_fraction}
use Rattle.run_specs.specs.Automaton.{Automaton, width}
use Rattle.run_specs.specs.Logs.{Sample, IsLog}
use Rattle.log_specs.specs.declared.LogForm.{LogForm}
use Rattle.log_specs.specs.declared.LogForm.TheVariants.{Check, Watch}
use Rattle.log_specs.specs.declared.Refusal.{Refusal}
use Rattle.log_specs.specs.declared.Refusal.TheVariants as why
use Rattle.number_specs.specs.LogNumbers.{IsLogNumber}
use Rattle.log_specs.specs.LogRows.{WatchRow, Cells, read_row, read_header, read_cells}
use Rattle.log_specs.specs.LogRows as row

-- an open session: its automaton, its observed variables, and its accepted samples with a cell for each variable
pub record LogSession : Type 0 where
  pub name : List ℕ
  pub automaton : Automaton
  pub columns : List (List ℕ)
  pub samples : List Sample

-- the sessions that are open, how many samples were accepted in this run, and whether a line with a byte was read
pub record LogState : Type 0 where
  pub open_sessions : List LogSession
  pub accepted : ℕ
  pub has_begun : Bool

-- before the first line
abbrev pub no_lines : LogState
no_lines = record { open_sessions = []; accepted = 0; has_begun = false }

-- the sample's numbers are numbers that a log may hold
pub record HasLogNumbers (s : Sample) : Type 0 where
  pub time : IsLogNumber s.time
  pub cells : All (λ cell. IfSome cell IsLogNumber) s.cells

-- the session's samples are a log of its automaton's variables, with numbers that a log may hold
pub record KeepsLog (s : LogSession) : Type 0 where
  pub log : IsLog (width s.automaton) s.samples
  pub numbers : All HasLogNumbers s.samples

-- what a line does
pub data Judgement : Type 0 where
  -- it has no byte
  passed_over : Judgement
  refused : Refusal → Judgement
  -- this session begins, without a sample
  opened : LogSession → Judgement
  -- the session of this name ends
  closed : List ℕ → Judgement
  flushed : Judgement
  -- a sample of a session, which is given as it was before
  accepted : LogSession → Sample → Judgement

-- ---- names

-- the session is called so
abbrev pub has_name : List ℕ → LogSession → Bool
has_name name s = bytes_eq name s.name

-- the open session of this name
abbrev pub session_of : LogState → List ℕ → Option LogSession
session_of at name = find (has_name name) at.open_sessions

-- the automaton of this name in the file
abbrev pub automaton_of : List Automaton → List ℕ → Option Automaton
automaton_of models name = find (λ a. bytes_eq name a.name) models

-- the name is among the names
abbrev pub is_among : List (List ℕ) → List ℕ → Bool
is_among names name = list_any (bytes_eq name) names

-- each is a variable, and none repeats
abbrev pub are_columns : List (List ℕ) → List (List ℕ) → Bool
are_columns variables [] = true
are_columns variables (column ∷ columns) = is_among variables column && not (is_among columns column) && are_columns variables columns

-- ---- samples

-- the cell under a variable's column; blank where it is no column
abbrev pub cell_under : List (List ℕ) → List (Option Fraction) → List ℕ → Option Fraction
cell_under [] cells variable = None
cell_under (column ∷ columns) [] variable = None
cell_under (column ∷ columns) (cell ∷ cells) variable = if bytes_eq variable column then cell else cell_under columns cells variable

-- the sample with a cell for each variable of the session's automaton
abbrev pub sample_in : LogSession → Cells → Sample
sample_in s c = record { time = c.time; cells = map (cell_under s.columns c.cells) s.automaton.variables }

-- x < y
abbrev pub is_below : Fraction → Fraction → Bool
is_below x y = int_lt (x.num *ℤ y.den) (y.num *ℤ x.den)

-- the next sample may have this time: the first is at least 0, and times rise
abbrev pub may_follow : List Sample → Fraction → Bool
may_follow [] t = not (is_below t zero_fraction)
may_follow (s ∷ []) t = is_below s.time t
may_follow (s ∷ r ∷ more) t = may_follow (r ∷ more) t

-- ---- the refusals that look at sessions, in their order

-- an opening with these columns of this automaton
abbrev pub judge_columns : LogState → List ℕ → List (List ℕ) → Automaton → Judgement
judge_columns at name columns a =
    if not (are_columns a.variables columns) then refused why.Column
    else if nat_le 1000 (length at.open_sessions) then refused why.Limit
    else opened (record { name = name; automaton = a; columns = columns; samples = [] })

-- an opening of a session that is not open
abbrev pub judge_automaton : LogState → List ℕ → List (List ℕ) → Option Automaton → Judgement
judge_automaton at name columns None = refused why.Unknown
judge_automaton at name columns (Some a) = judge_columns at name columns a

-- an opening, by the automaton and the open session of these names
abbrev pub judge_opening : LogState → List ℕ → List (List ℕ) → Option Automaton → Option LogSession → Judgement
judge_opening at name columns a (Some s) = refused why.Again
judge_opening at name columns a None = judge_automaton at name columns a

-- a time and cells, by the open session of the name
abbrev pub judge_sample : LogState → Cells → Option LogSession → Judgement
judge_sample at c None = refused why.Unknown
judge_sample at c (Some s) =
    if not (length c.cells == length s.columns) then refused why.Cells
    else if not (may_follow s.samples c.time) then refused why.Time
    else if nat_le 200000 at.accepted then refused why.Limit
    else accepted s (sample_in s c)

-- a closing, by the open session of the name
abbrev pub judge_closing : List ℕ → Option LogSession → Judgement
judge_closing name None = refused why.Unknown
judge_closing name (Some s) = closed name

-- ---- lines

-- a row of `watch`
abbrev pub judge_row : List Automaton → LogState → Result WatchRow Refusal → Judgement
judge_row models at (Err e) = refused e
judge_row models at (Ok (row.opening name automaton columns)) = judge_opening at name columns (automaton_of models automaton) (session_of at name)
judge_row models at (Ok (row.sample name time cells)) = judge_sample at (record { time = time; cells = cells }) (session_of at name)
judge_row models at (Ok (row.closing name)) = judge_closing name (session_of at name)
judge_row models at (Ok row.flush) = flushed

-- the automaton that a log without names is judged by
abbrev pub first_automaton : List Automaton → Option Automaton
first_automaton [] = None
first_automaton (a ∷ models) = Some a

-- a header: it opens the one session, whose name is empty
abbrev pub judge_header : List Automaton → LogState → Result (List (List ℕ)) Refusal → Judgement
judge_header models at (Err e) = refused e
judge_header models at (Ok columns) = judge_opening at [] columns (first_automaton models) None

-- a line after the header
abbrev pub judge_cells : LogState → Result Cells Refusal → Judgement
judge_cells at (Err e) = refused e
judge_cells at (Ok c) = judge_sample at c (session_of at [])

-- a line that has a byte
abbrev pub judge_text : LogForm → List Automaton → LogState → List ℕ → Judgement
judge_text Watch models at line = judge_row models at (read_row line)
judge_text Check models at line = if at.has_begun then judge_cells at (read_cells line) else judge_header models at (read_header line)

-- what a line does, by the lines before it; no verdict has a part in it
abbrev pub judge : LogForm → List Automaton → LogState → List ℕ → Judgement
judge form models at [] = passed_over
judge form models at (b ∷ bytes) = judge_text form models at (b ∷ bytes)

-- ---- the state after a line

-- in the place of a session of this name, the session s with one sample more
abbrev pub with_sample : LogSession → Sample → LogSession → LogSession
with_sample s sample t = if has_name s.name t then record s { samples = s.samples ++ sample ∷ [] } else t

-- the state after what a line does; a refused line leaves all sessions as they were
abbrev pub state_after : LogState → Judgement → LogState
state_after at passed_over = at
state_after at (refused e) = record at { has_begun = true }
state_after at (opened s) = record { open_sessions = at.open_sessions ++ s ∷ []; accepted = at.accepted; has_begun = true }
state_after at (closed name) = record { open_sessions = filter (λ s. not (has_name name s)) at.open_sessions; accepted = at.accepted; has_begun = true }
state_after at flushed = record at { has_begun = true }
state_after at (accepted s sample) = record {
  open_sessions = map (with_sample s sample) at.open_sessions;
  accepted = at.accepted + 1;
  has_begun = true;
}
