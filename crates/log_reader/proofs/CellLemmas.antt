-- Cells that are read from the left.
use Rattle.std.proofs.Common.{◌≡◌, ℕ, List, [], ◌∷◌, ◌++◌, Option, Some, None, Result, Ok, Err, refl, sym, ◌∙◌, ap, append_assoc}
use Rattle.poly_specs.specs.Fractions.{Fraction}
use Rattle.number_specs.specs.declared.NumFault.{NumFault}
use Rattle.number_specs.specs.LogNumbers.{read_number}
use Rattle.log_specs.specs.LogRows.{with_cell, blank_first, cell_first, cells_of}

-- cells in front of others, if those are there
abbrev pub cells_before : List (Option Fraction) → Option (List (Option Fraction)) → Option (List (Option Fraction))
cells_before cells None = None
cells_before cells (Some more) = Some (cells ++ more)

pub before_blank : (cells : List (Option Fraction)) (more : Option (List (Option Fraction))) → cells_before (cells ++ None ∷ []) more ≡ cells_before cells (blank_first more)
before_blank cells None = refl
before_blank cells (Some more) = ap (λ xs. Some xs) (append_assoc cells (None ∷ []) more)

pub before_value : (cells : List (Option Fraction)) (v : Fraction) (more : Option (List (Option Fraction))) → cells_before (cells ++ Some v ∷ []) more ≡ cells_before cells (with_cell (Ok v) more)
before_value cells v None = refl
before_value cells v (Some more) = ap (λ xs. Some xs) (append_assoc cells (Some v ∷ []) more)
