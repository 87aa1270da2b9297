-- The fields of a line, and lines that are not read at all.
use Rattle.std.specs.Prelude.{ℕ, List, [], ◌∷◌, map, length, Bool, ◌&&◌, ◌||◌, not, ◌==◌, nat_lt, if◌then◌else◌, Option, Some, None, Result, Err}
use Rattle.std.specs.List.{list_any}
use Rattle.std.specs.Str.{is_utf8}
use Rattle.csv.specs.Machine.{Read, next_record}
use Rattle.csv.specs.Reading.{default_config, strip_bom}
use Rattle.csv.specs.declared.parser.State.TheVariants.{StartRecord}
use Rattle.report_specs.specs.Lines.{carriage_return}
use Rattle.log_specs.specs.declared.Refusal.{Refusal}
use Rattle.log_specs.specs.declared.Refusal.TheVariants.{Long, Text}

-- a space or a tab
abbrev pub is_blank : ℕ → Bool
is_blank b = (b == 32) || (b == 9)

-- a field from its first byte on that is no blank
abbrev pub after_blanks : List ℕ → List ℕ
after_blanks [] = []
after_blanks (b ∷ bytes) = if is_blank b then after_blanks bytes else b ∷ bytes

-- one byte in front of a field without blanks at its end
abbrev pub before : ℕ → List ℕ → List ℕ
before b [] = if is_blank b then [] else b ∷ []
before b (c ∷ bytes) = b ∷ c ∷ bytes

-- a field up to its last byte that is no blank
abbrev pub up_to_blanks : List ℕ → List ℕ
up_to_blanks [] = []
up_to_blanks (b ∷ bytes) = before b (up_to_blanks bytes)

-- a field without spaces and tabs at its ends
abbrev pub without_blanks : List ℕ → List ℕ
without_blanks field = up_to_blanks (after_blanks field)

-- the fields of the first record; where there is no record, one empty field
abbrev pub first_of : Option Read → List (List ℕ)
first_of None = [] ∷ []
first_of (Some r) = r.0

-- the fields that `csv` gives where the line alone is its input, without a header
abbrev pub fields_of : List ℕ → List (List ℕ)
fields_of line = map without_blanks (first_of (next_record default_config StartRecord [] [] (strip_bom line)))

-- the line has more than 4,096 bytes
abbrev pub is_long : List ℕ → Bool
is_long line = nat_lt 4096 (length line)

-- the line is UTF-8 and holds no carriage return
abbrev pub is_text : List ℕ → Bool
is_text line = is_utf8 line && not (list_any (λ b. b == carriage_return) line)

-- what a line says by its fields, where it is read at all
abbrev pub read_by : {A : Type 0} → (List (List ℕ) → Result A Refusal) → List ℕ → Result A Refusal
read_by of_fields line = if is_long line then Err Long else if is_text line then of_fields (fields_of line) else Err Text
