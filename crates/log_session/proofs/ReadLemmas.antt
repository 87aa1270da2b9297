-- What lines that are read have: short names, and numbers of a log.
use Rattle.std.proofs.Common.{◌≡◌, ℕ, ◌≤◌, List, [], ◌∷◌, length, Bool, true, false, if◌then◌else◌, ◌&&◌, Result, Ok, Err, refl, subst}
use Rattle.std.specs.Prelude.{IfOk, ⊤, codes, bytes_eq, nat_le}
use Rattle.std.specs.List.{list_all}
use Rattle.std.proofs.lemmas.Bool.{and_parts, leb-true}
use Rattle.run_specs.specs.Names.{is_name}
use Rattle.log_specs.specs.declared.Refusal.{Refusal}
use Rattle.log_specs.specs.declared.Refusal.TheVariants as why
use Rattle.log_specs.specs.SessionNames.{is_session_byte, is_session_name}
use Rattle.log_specs.specs.Fields.{fields_of, is_long, is_text}
use Rattle.log_specs.specs.LogRows.{WatchRow, Cells, opening, sample, closing, flush, time_and_cells, as_sample, opening_of, sample_of, closing_of, flush_of, row_of, read_row, read_cells}
use Rattle.log_specs.proofs.RowLemmas.{IsRead, IsReadRow, row_is, cells_are_read}
use Rattle.log_session.specs.Told.{IsRowOfALine}

pub read_is : (line : List ℕ) (c : Cells) → read_cells line ≡ Ok c → IsRead c
read_is line c e = subst (λ (r : Result Cells Refusal). IfOk r IsRead) e (cells_are_read line)

-- ---- short names

-- the row's session has a short name, if it names one
abbrev IsShort : WatchRow → Type 0
IsShort (opening session automaton columns) = length session ≤ 32
IsShort (sample session time cells) = length session ≤ 32
IsShort (closing session) = length session ≤ 32
IsShort flush = ⊤

short_name : (name : List ℕ) → is_session_name name ≡ true → length name ≤ 32
short_name name e =
    let sized = (and_parts (nat_le 1 (length name) && nat_le (length name) 32) (list_all is_session_byte name) e).0 in
    leb-true (length name) 32 (and_parts (nat_le 1 (length name)) (nat_le (length name) 32) sized).1

guarded : (b : Bool) (r : WatchRow) (e : Refusal) → (b ≡ true → IsShort r) → IfOk (if b then Ok r else Err e) IsShort
guarded true r e h = h refl
guarded false r e h = tt

either : (b : Bool) (x y : Result WatchRow Refusal) → IfOk x IsShort → IfOk y IsShort → IfOk (if b then x else y) IsShort
either true x y h k = h
either false x y h k = k

short_opening : (fields : List (List ℕ)) → IfOk (opening_of fields) IsShort
short_opening [] = tt
short_opening (session ∷ []) = tt
short_opening (session ∷ automaton ∷ columns) =
    guarded (is_session_name session && is_name automaton && list_all is_name columns) (opening session automaton columns) why.Name
    (λ e. short_name session (and_parts (is_session_name session) (is_name automaton) (and_parts (is_session_name session && is_name automaton) (list_all is_name columns) e).0).0)

sampled : (session : List ℕ) (r : Result Cells Refusal) → length session ≤ 32 → IfOk (as_sample session r) IsShort
sampled session (Ok c) h = h
sampled session (Err e) h = tt

short_sampled : (session : List ℕ) (r : Result Cells Refusal) (b : Bool) → (b ≡ true → length session ≤ 32) → IfOk (if b then as_sample session r else Err why.Name) IsShort
short_sampled session r true h = sampled session r (h refl)
short_sampled session r false h = tt

short_sample : (fields : List (List ℕ)) → IfOk (sample_of fields) IsShort
short_sample [] = tt
short_sample (session ∷ []) = tt
short_sample (session ∷ time ∷ cells) = short_sampled session (time_and_cells (time ∷ cells)) (is_session_name session) (short_name session)

short_closing : (fields : List (List ℕ)) → IfOk (closing_of fields) IsShort
short_closing [] = tt
short_closing (session ∷ []) = guarded (is_session_name session) (closing session) why.Name (short_name session)
short_closing (session ∷ more ∷ others) = tt

short_flush : (fields : List (List ℕ)) → IfOk (flush_of fields) IsShort
short_flush [] = tt
short_flush (more ∷ others) = tt

short_row : (fields : List (List ℕ)) → IfOk (row_of fields) IsShort
short_row [] = tt
short_row (word ∷ others) =
    let fourth = if bytes_eq word (codes "flush") then flush_of others else Err why.Fields in
    let third = if bytes_eq word (codes "close") then closing_of others else fourth in
    let second = if bytes_eq word (codes "at") then sample_of others else third in
    either (bytes_eq word (codes "open")) (opening_of others) second (short_opening others)
    (either (bytes_eq word (codes "at")) (sample_of others) third (short_sample others)
    (either (bytes_eq word (codes "close")) (closing_of others) fourth (short_closing others)
    (either (bytes_eq word (codes "flush")) (flush_of others) (Err why.Fields) (short_flush others) tt)))

short_text : (line : List ℕ) (b : Bool) → IfOk (if b then row_of (fields_of line) else Err why.Text) IsShort
short_text line true = short_row (fields_of line)
short_text line false = tt

short_line : (line : List ℕ) → IfOk (read_row line) IsShort
short_line line = either (is_long line) (Err why.Long) (if is_text line then row_of (fields_of line) else Err why.Text) tt (short_text line (is_text line))

-- ---- a row of a line

both : (r : WatchRow) → IsShort r → IsReadRow r → IsRowOfALine r
both (opening session automaton columns) h k = h
both (sample session time cells) h k = (h, k.time, k.cells)
both (closing session) h k = h
both flush h k = tt

pub row_of_a_line : (line : List ℕ) (r : WatchRow) → read_row line ≡ Ok r → IsRowOfALine r
row_of_a_line line r e =
    both r (subst (λ (x : Result WatchRow Refusal). IfOk x IsShort) e (short_line line)) (subst (λ (x : Result WatchRow Refusal). IfOk x IsReadRow) e (row_is line))
