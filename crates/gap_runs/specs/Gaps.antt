-- The part of a first run in one gap: its numbers are picked, from the values at its end.
use Rattle.std.specs.Prelude.{◌≡◌, ◌⊎◌, ℕ, List, ◌∷◌, ◌++◌, pos}
use Rattle.std.specs.List.{AllZip}
use Rattle.poly_specs.specs.Bits.{SomePasses}
use Rattle.poly_specs.specs.Denominators.{common_numbers}
use Rattle.poly_specs.specs.Fractions.{Fraction, SameFraction, fractions}
use Rattle.poly_specs.specs.Lists.{In}
use Rattle.poly_specs.specs.Pickings.{Picking, ArePicked, PickPasses}
use Rattle.poly_specs.specs.Rows.{Row, AllHold, AllWide}
use Rattle.poly_specs.specs.Systems.{System}
use Rattle.run_parts.specs.Widths.{IsWide}
use Rattle.run_specs.specs.Automaton.{width}
use Rattle.run_specs.specs.FirstRun.{backwards}
use Rattle.run_specs.specs.Keys.{Key, parent_at}
use Rattle.run_specs.specs.RunPasses.{path_pickings, gap_numbers}
use Rattle.run_specs.specs.Runs.{GapRun, IsGapRun, path_of, start_point}
use Rattle.run_specs.specs.Stages.{gap_start, gap_stages, SomeReachedPasses}
use Rattle.sample_succ.specs.Parts.{AreParts, start_of}
use Rattle.sample_succ.specs.Plain.{IsPlain}
use Rattle.gap_runs.specs.Traces.{BackValue}
use Rattle.gap_runs.specs.Paths.{AreTraced}

-- a gap run, and the values at its start
pub record GapValue : Type 0 where
  pub gap : GapRun
  pub start : List Fraction

-- where a gap of this key ends: the last values, at which its whole length has elapsed
abbrev pub end_of_gap : Key → List Fraction → BackValue
end_of_gap key last = record { numbers = last; elapsed = key.gap }

-- all numbers of the gap along this path, traced back from these last values through some systems of its stages
pub record IsTracedGap (key : Key) (i : ℕ) (path : List ℕ) (last : List Fraction) (b : BackValue) : Type 0 where
  pub systems : List System
  pub parts : AreParts key.automaton (parent_at key i).loc path (start_of key i) (start_of key i).rows systems
  pub traced : AreTraced key.automaton (parent_at key i).loc path (start_of key i) systems (end_of_gap key last) b

-- over n columns: rows that hold where the given ones do, and have these among them
pub record ArePlain (n : ℕ) (rows more : List Row) : Type 0 where
  pub plain : IsPlain n rows more
  pub wide : AllWide n more

-- the pickings of a gap run that starts in these rows
abbrev pub pickings_of : Key → List Row → GapRun → List Picking
pickings_of key plain g =
    path_pickings key.automaton g.den g.start_loc (pos 0) (gap_start (width key.automaton) plain) g.start g.moves g.last

-- the gap run of this key along this path that ends at the given values: it starts in the plain rows, each of its numbers is the pick of its picking, and it stands over its least denominator
pub record IsPickedGap (key : Key) (i : ℕ) (path : List ℕ) (plain : List Row) (last : List Fraction) (g : GapRun) : Type 0 where
  pub same_loc : g.start_loc ≡ (parent_at key i).loc
  pub along : path_of g ≡ path
  pub wide : IsWide (width key.automaton) g
  pub gap_run : IsGapRun key.automaton key.gap g
  pub allowed : AllHold plain (start_point g)
  pub ends : AllZip SameFraction (fractions g.den g.last.at_end) last
  pub picked : (p : Picking) → In p (pickings_of key plain g) → ArePicked p
  pub least : common_numbers (gap_numbers g) ≡ g.den ∷ (g.last.at_end ++ backwards g.start g.moves g.last)

-- whichever plain rows the parent's rows are some of: the only such gap run, and the values at its start
abbrev pub IsGapBack : Key → ℕ → List ℕ → List Fraction → GapValue → Type 0
IsGapBack key i path last b =
    (plain : List Row) (g : GapRun) → ArePlain (width key.automaton) (parent_at key i).rows plain → IsPickedGap key i path plain last g →
    (b.gap ≡ g) × AllZip SameFraction (fractions g.den g.start) b.start

-- whichever they are: a number of a reached stage of the gap passes, or picking a number of the gap run, or writing it over its least denominator
abbrev pub GapBackPasses : Key → ℕ → List ℕ → List Fraction → Type 0
GapBackPasses key i path last =
    (plain : List Row) (g : GapRun) → ArePlain (width key.automaton) (parent_at key i).rows plain → IsPickedGap key i path plain last g →
    SomeReachedPasses (gap_stages key.automaton (parent_at key i).loc path key.gap key.seen plain)
    ⊎ (((p : Picking) × In p (pickings_of key plain g) × PickPasses p)
    ⊎ SomePasses (common_numbers (gap_numbers g)))
