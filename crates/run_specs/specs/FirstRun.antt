-- The first run of a log that meets an aim.
use Rattle.std.specs.Prelude.{◌≡◌, ℕ, ◌<◌, List, [], ◌∷◌, ◌++◌, All, take, length, ℤ, unsigned_abs, slice_index_or}
use Rattle.std.specs.Int.{◌∣◌}
use Rattle.std.specs.List.{AllZip}
use Rattle.poly_specs.specs.Fractions.{Fraction, SameFraction, zero_fraction, fractions}
use Rattle.run_specs.specs.Automaton.{Automaton}
use Rattle.run_specs.specs.Logs.{Sample}
use Rattle.run_specs.specs.Runs.{Leg, Move, GapRun, Run}
use Rattle.run_specs.specs.Aims.{Aim, IsAimedRun}
use Rattle.run_specs.specs.Histories.{history_of, IsEarlier}
use Rattle.poly_specs.specs.Picks.{IsPick}

-- a gap's numbers before its last values, backwards: of each leg its length and then its start values, of each jump the values before it
abbrev pub backwards : List ℤ → List Move → Leg → List ℤ
backwards start [] last = last.length_of ∷ start
backwards start (m ∷ ms) last = backwards m.after ms last ++ m.leg.at_end ++ m.leg.length_of ∷ start

-- the same of all gaps, the last gap first; the start of a gap is the end of the gap before
abbrev pub numbers_before : List GapRun → List Fraction
numbers_before [] = []
numbers_before (g ∷ gs) = numbers_before gs ++ fractions g.den (backwards g.start g.moves g.last)

-- the last values, by variable
abbrev pub last_values : List GapRun → List Fraction
last_values [] = []
last_values (g ∷ []) = fractions g.den g.last.at_end
last_values (g ∷ k ∷ gs) = last_values (k ∷ gs)

-- the numbers of a run in the order in which they are picked
abbrev pub picked : Run → List Fraction
picked run = last_values run.gaps ++ numbers_before run.gaps

-- the number that is picked at this place
abbrev pub pick_at : ℕ → Run → Fraction
pick_at i run = slice_index_or (picked run) i zero_fraction

-- a run that meets the aim, with this run's history and its first i numbers, takes v as the number at i
pub record Takes (a : Automaton) (k : ℕ) (samples : List Sample) (aim : Aim) (run : Run) (i : ℕ) (v : Fraction) (other : Run) : Type 0 where
  pub aimed : IsAimedRun a k samples aim other
  pub same_history : history_of other ≡ history_of run
  pub same_numbers : AllZip SameFraction (take i (picked other)) (take i (picked run))
  pub value : SameFraction (pick_at i other) v

-- v is a value that is left for the number at i
abbrev pub IsLeft : Automaton → ℕ → List Sample → Aim → Run → ℕ → Fraction → Type 0
IsLeft a k samples aim run i v = (other : Run) × Takes a k samples aim run i v other

-- the gap is written over the least denominator that serves all its numbers
abbrev pub IsReduced : GapRun → Type 0
IsReduced g = (k : ℕ) → k ∣ unsigned_abs g.den → All (λ n. k ∣ unsigned_abs n) (g.last.at_end ++ backwards g.start g.moves g.last) → k ≡ 1

-- the first run that meets the aim: none that does has an earlier history, and each number is the pick of the values that are left for it
pub record IsFirstRun (a : Automaton) (k : ℕ) (samples : List Sample) (aim : Aim) (run : Run) : Type 0 where
  pub aimed : IsAimedRun a k samples aim run
  pub earliest : (other : Run) → IsAimedRun a k samples aim other → IsEarlier (history_of other) (history_of run) → ⊥
  pub picks : (i : ℕ) → i < length (picked run) → IsPick (IsLeft a k samples aim run i) (pick_at i run)
  pub reduced : All IsReduced run.gaps
