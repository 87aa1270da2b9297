-- The fields of a line without a quotation mark.
use Rattle.std.specs.Prelude.{ℕ, List, [], ◌∷◌, map, ◌==◌, if◌then◌else◌}
use Rattle.log_specs.specs.Fields.{without_blanks}

-- one byte more in front of the first field
abbrev pub byte_first : ℕ → List (List ℕ) → List (List ℕ)
byte_first b [] = (b ∷ []) ∷ []
byte_first b (field ∷ fields) = (b ∷ field) ∷ fields

-- what stands before, between and behind the commas
abbrev pub between_commas : List ℕ → List (List ℕ)
between_commas [] = [] ∷ []
between_commas (b ∷ bytes) = if b == 44 then [] ∷ between_commas bytes else byte_first b (between_commas bytes)

-- the fields without blanks at their ends
abbrev pub trimmed : List (List ℕ) → List (List ℕ)
trimmed fields = map without_blanks fields
