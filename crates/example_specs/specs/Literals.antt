-- Short ways to write fractions, rows and samples.
use Rattle.std.specs.Prelude.{ℕ, List, [], ◌∷◌, ℤ, pos, negsuc, false, Some, None}
use Rattle.poly_specs.specs.Fractions.{Fraction}
use Rattle.poly_specs.specs.Rows.{Row}
use Rattle.run_specs.specs.Logs.{Sample}

-- n over d
abbrev pub fraction : ℕ → ℕ → Fraction
fraction n d = record { num = pos n; den = pos d }

-- n as a fraction
abbrev pub whole : ℕ → Fraction
whole n = fraction n 1

-- a row that is not strict
abbrev pub row : List ℤ → ℤ → Row
row coef cst = record { coef = coef; cst = cst; strict = false }

-- of one variable, the rows of a jump that keeps its value
abbrev pub keeps_value : List Row
keeps_value = row (negsuc 0 ∷ pos 1 ∷ []) (pos 0) ∷ row (pos 1 ∷ negsuc 0 ∷ []) (pos 0) ∷ []

-- at time t the value v is observed
abbrev pub observes : Fraction → Fraction → Sample
observes t v = record { time = t; cells = Some v ∷ [] }

-- at time t nothing is observed
abbrev pub blank : Fraction → Sample
blank t = record { time = t; cells = None ∷ [] }
