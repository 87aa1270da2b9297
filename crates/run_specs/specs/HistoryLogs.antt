-- The log that a history alone tells.
use Rattle.std.specs.Prelude.{◌≡◌, List, [], ◌∷◌, ⊤}
use Rattle.poly_specs.specs.Fractions.{Fraction, SameFraction, sum_of, difference, zero_fraction}
use Rattle.poly_specs.specs.Arithmetic.{lowest}
use Rattle.run_specs.specs.Logs.{Sample}
use Rattle.run_specs.specs.SessionHistories.{Entry, SessionHistory}

-- the end of this entry's gap, which begins at time t
abbrev pub time_after : Fraction → Entry → Fraction
time_after t e = lowest (sum_of t e.key.gap)

-- a sample for each of these entries, from time t on
abbrev pub samples_after : Fraction → List Entry → List Sample
samples_after t [] = []
samples_after t (e ∷ es) = record { time = time_after t e; cells = e.key.seen } ∷ samples_after (time_after t e) es

-- the log of a history: each time is the sum of the gaps so far, and the cells are what the key has seen
abbrev pub log_of : SessionHistory → List Sample
log_of h = samples_after zero_fraction h.gaps

-- as many samples from times t and u on; at each place the gaps since the times before are the same fraction, and the cells are equal
abbrev pub AgreeFrom : Fraction → Fraction → List Sample → List Sample → Type 0
AgreeFrom t u [] [] = ⊤
AgreeFrom t u [] (r ∷ rs) = ⊥
AgreeFrom t u (s ∷ ss) [] = ⊥
AgreeFrom t u (s ∷ ss) (r ∷ rs) =
    SameFraction (difference s.time t) (difference r.time u) × (s.cells ≡ r.cells) × AgreeFrom s.time r.time ss rs

-- the logs agree in their gaps and observed values
abbrev pub DoAgree : List Sample → List Sample → Type 0
DoAgree samples others = AgreeFrom zero_fraction zero_fraction samples others
