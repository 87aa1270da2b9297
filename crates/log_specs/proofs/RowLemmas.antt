-- The numbers of a row are numbers of a log.
use Rattle.std.proofs.Common.{◌≡◌, ℕ, List, [], ◌∷◌, length, Bool, true, false, if◌then◌else◌, ◌&&◌, Option, Some, None, Result, Ok, Err}
use Rattle.std.specs.Prelude.{All, ⊤, IfSome, IfOk, codes, bytes_eq}
use Rattle.std.specs.List.{list_all}
use Rattle.std.proofs.lemmas.List.Elements.{All-nil, All-cons}
use Rattle.poly_specs.specs.Fractions.{Fraction}
use Rattle.run_specs.specs.Logs.{Sample}
use Rattle.run_specs.specs.Names.{is_name}
use Rattle.number_specs.specs.declared.NumFault.{NumFault}
use Rattle.log_specs.specs.declared.Refusal.{Refusal}
use Rattle.log_specs.specs.declared.Refusal.TheVariants as why
use Rattle.number_specs.specs.LogNumbers.{read_number, IsLogNumber}
use Rattle.log_specs.specs.SessionNames.{is_session_name}
use Rattle.log_specs.specs.Fields.{fields_of, is_long, is_text, read_by}
use Rattle.log_specs.specs.LogRows.{WatchRow, Cells, opening, sample, closing, flush, with_cell, blank_first, cell_first, cells_of, timed, time_and_cells, as_sample, opening_of, sample_of, closing_of, flush_of, row_of, read_row, read_cells}
use Rattle.number_specs.proofs.LogNumberLemmas.{read_is}

-- a cell is blank, or a number of a log
abbrev pub IsCell : Option Fraction → Type 0
IsCell c = IfSome c IsLogNumber

abbrev pub AreCells : List (Option Fraction) → Type 0
AreCells cells = All IsCell cells

-- a time and cells that are numbers of a log
pub record IsRead (c : Cells) : Type 0 where
  pub time : IsLogNumber c.time
  pub cells : AreCells c.cells

-- the same of a sample of m variables
pub record IsReadSample (m : ℕ) (s : Sample) : Type 0 where
  pub time : IsLogNumber s.time
  pub sized : length s.cells ≡ m
  pub cells : AreCells s.cells

-- and of a row
abbrev pub IsReadRow : WatchRow → Type 0
IsReadRow (opening session automaton columns) = ⊤
IsReadRow (sample session time cells) = IsRead (record { time = time; cells = cells })
IsReadRow (closing session) = ⊤
IsReadRow flush = ⊤

-- ---- cells

with_cell_is : (r : Result Fraction NumFault) (o : Option (List (Option Fraction))) → IfOk r IsLogNumber → IfSome o AreCells → IfSome (with_cell r o) AreCells
with_cell_is (Ok v) (Some cells) h k = All-cons IsCell (Some v) cells h k
with_cell_is (Ok v) None h k = tt
with_cell_is (Err e) o h k = tt

blank_is : (o : Option (List (Option Fraction))) → IfSome o AreCells → IfSome (blank_first o) AreCells
blank_is (Some cells) h = All-cons IsCell None cells tt h
blank_is None h = tt

first_is : (field : List ℕ) (o : Option (List (Option Fraction))) → IfSome o AreCells → IfSome (cell_first field o) AreCells
first_is [] o h = blank_is o h
first_is (b ∷ bytes) o h = with_cell_is (read_number (b ∷ bytes)) o (read_is (b ∷ bytes)) h

cells_are : (fields : List (List ℕ)) → IfSome (cells_of fields) AreCells
cells_are [] = All-nil IsCell
cells_are (field ∷ fields) = first_is field (cells_of fields) (cells_are fields)

timed_is : (r : Result Fraction NumFault) (o : Option (List (Option Fraction))) → IfOk r IsLogNumber → IfSome o AreCells → IfOk (timed r o) IsRead
timed_is (Ok t) (Some cells) h k = record { time = h; cells = k }
timed_is (Ok t) None h k = tt
timed_is (Err e) o h k = tt

time_is : (fields : List (List ℕ)) → IfOk (time_and_cells fields) IsRead
time_is [] = tt
time_is (field ∷ fields) = timed_is (read_number field) (cells_of fields) (read_is field) (cells_are fields)

-- ---- rows

either : {A : Type 0} (P : A → Type 0) (b : Bool) (x y : Result A Refusal) → IfOk x P → IfOk y P → IfOk (if b then x else y) P
either P true x y h k = h
either P false x y h k = k

as_sample_is : (session : List ℕ) (r : Result Cells Refusal) → IfOk r IsRead → IfOk (as_sample session r) IsReadRow
as_sample_is session (Ok c) h = record { time = h.time; cells = h.cells }
as_sample_is session (Err e) h = tt

opening_is : (fields : List (List ℕ)) → IfOk (opening_of fields) IsReadRow
opening_is [] = tt
opening_is (session ∷ []) = tt
opening_is (session ∷ automaton ∷ columns) =
    either IsReadRow (is_session_name session && is_name automaton && list_all is_name columns) (Ok (opening session automaton columns)) (Err why.Name) tt tt

sample_row_is : (fields : List (List ℕ)) → IfOk (sample_of fields) IsReadRow
sample_row_is [] = tt
sample_row_is (session ∷ []) = tt
sample_row_is (session ∷ time ∷ cells) =
    either IsReadRow (is_session_name session) (as_sample session (time_and_cells (time ∷ cells))) (Err why.Name)
    (as_sample_is session (time_and_cells (time ∷ cells)) (time_is (time ∷ cells))) tt

closing_is : (fields : List (List ℕ)) → IfOk (closing_of fields) IsReadRow
closing_is [] = tt
closing_is (session ∷ []) = either IsReadRow (is_session_name session) (Ok (closing session)) (Err why.Name) tt tt
closing_is (session ∷ more ∷ others) = tt

flush_is : (fields : List (List ℕ)) → IfOk (flush_of fields) IsReadRow
flush_is [] = tt
flush_is (more ∷ others) = tt

row_of_is : (fields : List (List ℕ)) → IfOk (row_of fields) IsReadRow
row_of_is [] = tt
row_of_is (word ∷ others) =
    let none : Result WatchRow Refusal = Err why.Fields in
    let last : Result WatchRow Refusal = if bytes_eq word (codes "flush") then flush_of others else none in
    let third : Result WatchRow Refusal = if bytes_eq word (codes "close") then closing_of others else last in
    let second : Result WatchRow Refusal = if bytes_eq word (codes "at") then sample_of others else third in
    either IsReadRow (bytes_eq word (codes "open")) (opening_of others) second (opening_is others)
    (either IsReadRow (bytes_eq word (codes "at")) (sample_of others) third (sample_row_is others)
    (either IsReadRow (bytes_eq word (codes "close")) (closing_of others) last (closing_is others)
    (either IsReadRow (bytes_eq word (codes "flush")) (flush_of others) none (flush_is others) tt)))

-- ---- lines

read_by_is : {A : Type 0} (P : A → Type 0) (f : List (List ℕ) → Result A Refusal) → ((fields : List (List ℕ)) → IfOk (f fields) P) → (line : List ℕ) → IfOk (read_by f line) P
read_by_is {A} P f h line =
    let inner : Result A Refusal = if is_text line then f (fields_of line) else Err why.Text in
    either P (is_long line) (Err why.Long) inner tt (either P (is_text line) (f (fields_of line)) (Err why.Text) (h (fields_of line)) tt)

pub row_is : (line : List ℕ) → IfOk (read_row line) IsReadRow
row_is line = read_by_is IsReadRow row_of row_of_is line

pub cells_are_read : (line : List ℕ) → IfOk (read_cells line) IsRead
cells_are_read line = read_by_is IsRead time_and_cells time_is line
