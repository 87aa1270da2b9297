-- Logs: samples with times and observed values.
use Rattle.std.specs.Prelude.{◌≡◌, ℕ, List, [], ◌∷◌, length, All, Option, Some, None, IfSome, slice_index_or, ⊤}
use Rattle.poly_specs.specs.Fractions.{Fraction, AtMost, Below, DifferAtMost, zero_fraction}
use Rattle.poly_specs.specs.LowestTerms.{IsLowest}
use Rattle.poly_specs.specs.Rows.{Point, coordinate}
use Rattle.run_specs.specs.Automaton.{Automaton, tolerance_at, width}

-- a time, and for each variable a value or a blank
pub record Sample : Type 0 where
  pub time : Fraction
  pub cells : List (Option Fraction)

-- what is observed of this variable; past the last, nothing
abbrev pub cell_at : ℕ → List (Option Fraction) → Option Fraction
cell_at j cells = slice_index_or cells j None

-- a sample of m variables: its numbers are fractions in lowest terms
pub record IsSample (m : ℕ) (s : Sample) : Type 0 where
  pub time : IsLowest s.time
  pub sized : length s.cells ≡ m
  pub cells : All (λ cell. IfSome cell IsLowest) s.cells

-- times rise strictly from this one on
abbrev pub RiseFrom : Fraction → List Sample → Type 0
RiseFrom t [] = ⊤
RiseFrom t (s ∷ ss) = Below t s.time × RiseFrom s.time ss

-- the first time is at least 0, and later times strictly rise
abbrev pub TimesRise : List Sample → Type 0
TimesRise [] = ⊤
TimesRise (s ∷ ss) = AtMost zero_fraction s.time × RiseFrom s.time ss

-- a log of m variables
pub record IsLog (m : ℕ) (samples : List Sample) : Type 0 where
  pub each : All (IsSample m) samples
  pub rise : TimesRise samples

-- the point passes the cells: each observed value differs from its coordinate by at most the variable's tolerance
pub record IsPassing (a : Automaton) (cells : List (Option Fraction)) (p : Point) : Type 0 where
  pub sized : length p.num ≡ width a
  pub near : (j : ℕ) (v : Fraction) → cell_at j cells ≡ Some v → DifferAtMost (tolerance_at a j) v (coordinate j p)
