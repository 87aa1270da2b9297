-- The rows of `watch`, and the header and the lines of `check`.
use Rattle.std.specs.Prelude.{ℕ, List, [], ◌∷◌, ◌&&◌, if◌then◌else◌, Option, Some, None, Result, Ok, Err, codes, bytes_eq}
use Rattle.std.specs.List.{list_all}
use Rattle.poly_specs.specs.Fractions.{Fraction}
use Rattle.run_specs.specs.Names.{is_name}
use Rattle.number_specs.specs.declared.NumFault.{NumFault}
use Rattle.log_specs.specs.declared.Refusal.{Refusal}
use Rattle.log_specs.specs.declared.Refusal.TheVariants as why
use Rattle.number_specs.specs.LogNumbers.{read_number}
use Rattle.log_specs.specs.SessionNames.{is_session_name}
use Rattle.log_specs.specs.Fields.{read_by}

-- a row of `watch`
pub data WatchRow : Type 0 where
  -- a session's name, an automaton's, and the observed variables'
  opening : List ℕ → List ℕ → List (List ℕ) → WatchRow
  -- a session's name, a time, and a cell for each column; an empty cell is not observed
  sample : List ℕ → Fraction → List (Option Fraction) → WatchRow
  -- a session's name
  closing : List ℕ → WatchRow
  -- the end of a window
  flush : WatchRow

-- a time, and a cell for each column
pub record Cells : Type 0 where
  pub time : Fraction
  pub cells : List (Option Fraction)

-- ---- numbers

-- one value in front of the cells
abbrev pub with_cell : Result Fraction NumFault → Option (List (Option Fraction)) → Option (List (Option Fraction))
with_cell (Ok v) (Some cells) = Some (Some v ∷ cells)
with_cell (Ok v) None = None
with_cell (Err e) cells = None

-- one cell that is not observed in front of the cells
abbrev pub blank_first : Option (List (Option Fraction)) → Option (List (Option Fraction))
blank_first (Some cells) = Some (None ∷ cells)
blank_first None = None

-- one field in front of the cells: an empty one is not observed
abbrev pub cell_first : List ℕ → Option (List (Option Fraction)) → Option (List (Option Fraction))
cell_first [] cells = blank_first cells
cell_first (b ∷ bytes) cells = with_cell (read_number (b ∷ bytes)) cells

-- the values of the fields, or none where one of them is no number
abbrev pub cells_of : List (List ℕ) → Option (List (Option Fraction))
cells_of [] = Some []
cells_of (field ∷ fields) = cell_first field (cells_of fields)

-- a time and cells, where both are there
abbrev pub timed : Result Fraction NumFault → Option (List (Option Fraction)) → Result Cells Refusal
timed (Ok t) (Some cells) = Ok (record { time = t; cells = cells })
timed (Ok t) None = Err why.Number
timed (Err e) cells = Err why.Number

-- a time, and the cells after it; an empty time is no number
abbrev pub time_and_cells : List (List ℕ) → Result Cells Refusal
time_and_cells [] = Err why.Number
time_and_cells (field ∷ fields) = timed (read_number field) (cells_of fields)

-- ---- rows of `watch`, by the fields after the row's word

-- the sample of this session
abbrev pub as_sample : List ℕ → Result Cells Refusal → Result WatchRow Refusal
as_sample session (Ok c) = Ok (sample session c.time c.cells)
as_sample session (Err e) = Err e

-- a session, an automaton, and columns or none
abbrev pub opening_of : List (List ℕ) → Result WatchRow Refusal
opening_of [] = Err why.Fields
opening_of (session ∷ []) = Err why.Fields
opening_of (session ∷ automaton ∷ columns) =
    if is_session_name session && is_name automaton && list_all is_name columns
    then Ok (opening session automaton columns)
    else Err why.Name

-- a session, a time, and cells or none
abbrev pub sample_of : List (List ℕ) → Result WatchRow Refusal
sample_of [] = Err why.Fields
sample_of (session ∷ []) = Err why.Fields
sample_of (session ∷ time ∷ cells) =
    if is_session_name session then as_sample session (time_and_cells (time ∷ cells)) else Err why.Name

-- a session alone
abbrev pub closing_of : List (List ℕ) → Result WatchRow Refusal
closing_of [] = Err why.Fields
closing_of (session ∷ []) = if is_session_name session then Ok (closing session) else Err why.Name
closing_of (session ∷ more ∷ others) = Err why.Fields

-- nothing
abbrev pub flush_of : List (List ℕ) → Result WatchRow Refusal
flush_of [] = Ok flush
flush_of (more ∷ others) = Err why.Fields

-- by the first field, which is the row's word
abbrev pub row_of : List (List ℕ) → Result WatchRow Refusal
row_of [] = Err why.Fields
row_of (word ∷ others) =
    if bytes_eq word (codes "open") then opening_of others
    else if bytes_eq word (codes "at") then sample_of others
    else if bytes_eq word (codes "close") then closing_of others
    else if bytes_eq word (codes "flush") then flush_of others
    else Err why.Fields

-- a line of `watch`
abbrev pub read_row : List ℕ → Result WatchRow Refusal
read_row line = read_by row_of line

-- ---- lines of `check`

-- the columns after the word `time`
abbrev pub header_of : List (List ℕ) → Result (List (List ℕ)) Refusal
header_of [] = Err why.Fields
header_of (word ∷ columns) =
    if bytes_eq word (codes "time") then (if list_all is_name columns then Ok columns else Err why.Name) else Err why.Fields

-- the columns of a header
abbrev pub read_header : List ℕ → Result (List (List ℕ)) Refusal
read_header line = read_by header_of line

-- a line after the header
abbrev pub read_cells : List ℕ → Result Cells Refusal
read_cells line = read_by time_and_cells line
