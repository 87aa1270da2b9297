-- Columns and cells.
use Rattle.std.proofs.Common.{◌≡◌, ℕ, ◌<◌, List, [], ◌∷◌, length, get_or, Option, Some, None}
use Rattle.std.specs.Prelude.{All, IfSome}
use Rattle.std.proofs.lemmas.List.Elements.{All-nil, All-cons}
use Rattle.number_specs.specs.LogNumbers.{IsLogNumber}
use Rattle.poly_specs.specs.Fractions.{Fraction}
use Rattle.poly_specs.specs.LowestTerms.{IsLowest}
use Rattle.run_specs.specs.Logs.{Sample, IsSample}
use Rattle.run_specs.specs.Sessions.{AreColumns}

-- each column is a variable
pub columns_below : (m : ℕ) (columns : List ℕ) → AreColumns m columns → All (λ c. c < m) columns
columns_below m [] h = All-nil (λ c. c < m)
columns_below m (c ∷ columns) h = All-cons (λ c. c < m) c columns h.0 (columns_below m columns h.2)

-- numbers of a log are in lowest terms
pub sample_is : (m : ℕ) (s : Sample) → length s.cells ≡ m → IsLogNumber s.time → All (λ cell. IfSome cell IsLogNumber) s.cells → IsSample m s
sample_is m s n time cells = record { time = time.lowest_terms; sized = n; cells = λ k d h. cell (get_or s.cells k d) (cells k d h) }
  where
    cell : (x : Option Fraction) → IfSome x IsLogNumber → IfSome x IsLowest
    cell None h = tt
    cell (Some v) h = h.lowest_terms
