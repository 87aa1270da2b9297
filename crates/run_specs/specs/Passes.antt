-- When a log passes 128 bits: some number of its plain stages does.
use Rattle.std.specs.Prelude.{◌≡◌, ℕ, ◌<◌, ◌≤◌, List, [], ◌∷◌, length, IsSomeAnd, ⊤}
use Rattle.poly_specs.specs.Fractions.{zero_fraction}
use Rattle.poly_specs.specs.Rows.{Row}
use Rattle.poly_specs.specs.Bits.{SomePasses}
use Rattle.run_specs.specs.Automaton.{Automaton, location_at, transition_at}
use Rattle.run_specs.specs.Logs.{Sample}
use Rattle.run_specs.specs.Runs.{end_loc}
use Rattle.run_specs.specs.Stages.{Stage, SomeReachedPasses, stage_numbers, opening_stage, gaps_stages, gaps_rows, rows_after}

-- the path leaves location l: each of its transitions leaves the location to which the one before led
abbrev pub Fits : Automaton → ℕ → List ℕ → Type 0
Fits a l [] = ⊤
Fits a l (e ∷ path) =
    (e < length a.transitions) × ((transition_at a e).source ≡ l) × Fits a (transition_at a e).target path

-- a path of at most k transitions for each gap, the first from location l, and each from where the one before ended
abbrev pub AllFit : Automaton → ℕ → ℕ → List (List ℕ) → Type 0
AllFit a k l [] = ⊤
AllFit a k l (path ∷ paths) = (length path ≤ k) × Fits a l path × AllFit a k (end_loc a l path) paths

-- the stages of a history that starts in location l, with these init rows, and has these paths
abbrev pub history_stages : Automaton → List Sample → ℕ → List (List ℕ) → List Row → List Stage
history_stages a samples l paths init =
    opening_stage a l init ∷ gaps_stages a l zero_fraction samples paths (rows_after (opening_stage a l init))

-- the rows after them
abbrev pub history_rows : Automaton → List Sample → ℕ → List (List ℕ) → List Row → List Row
history_rows a samples l paths init = gaps_rows a l zero_fraction samples paths (rows_after (opening_stage a l init))

-- in this history of the log a number of a reached stage passes
pub record PassesAlong (a : Automaton) (k : ℕ) (samples : List Sample) (l : ℕ) (paths : List (List ℕ)) : Type 0 where
  pub one_for_each_gap : length paths ≡ length samples
  pub fit : AllFit a k l paths
  pub passes : IsSomeAnd (location_at a l).init (λ init. SomeReachedPasses (history_stages a samples l paths init))

-- the log passes: in some history of at most k transitions in each gap
abbrev pub LogPasses : Automaton → ℕ → List Sample → Type 0
LogPasses a k samples = (l : ℕ) × (paths : List (List ℕ)) × PassesAlong a k samples l paths

-- a number of the opening in some location passes
abbrev pub OpeningPasses : Automaton → Type 0
OpeningPasses a =
    (l : ℕ) × IsSomeAnd (location_at a l).init (λ init. SomePasses (stage_numbers (opening_stage a l init)))
