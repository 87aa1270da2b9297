-- The fields of a line that is read, and lines that are not.
use Rattle.std.specs.Prelude.{◌≡◌, ℕ, List, true, false, ⊤}
use Rattle.csv.specs.Records as record_words
use Rattle.log_specs.specs.Fields.{fields_of, is_long, is_text}
use Rattle.log_reader.specs.Commas.{between_commas, trimmed}
use Rattle.log_reader.specs.declared.fields.Record.{Record}
use Rattle.log_reader.specs.declared.fields.Record.TheVariants.{Plain, Quoted}
use Rattle.log_reader.specs.declared.refusal.RowRefusal.{RowRefusal}
use Rattle.log_reader.specs.declared.refusal.RowRefusal.TheVariants.{Long, Text, Fields, Name, Number, Memory}

-- the fields of a record, without blanks at their ends
abbrev pub fields_in : Record → List (List ℕ)
fields_in (Plain line) = trimmed (between_commas line.now)
fields_in (Quoted row) = trimmed (record_words.fields_of row)

-- the line is read, and has these fields
pub record IsRead (line : List ℕ) (found : List (List ℕ)) : Type 0 where
  pub short : is_long line ≡ false
  pub text : is_text line ≡ true
  pub fields : fields_of line ≡ found

-- the line is not read for this cause
abbrev pub IsUnread : RowRefusal → List ℕ → Type 0
IsUnread Long line = is_long line ≡ true
IsUnread Text line = (is_long line ≡ false) × (is_text line ≡ false)
IsUnread Memory line = ⊤
IsUnread Fields line = ⊥
IsUnread Name line = ⊥
IsUnread Number line = ⊥
