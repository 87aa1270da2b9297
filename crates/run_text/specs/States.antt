-- What the reader of a run's text has read so far.
use Rattle.std.specs.Prelude.{◌≡◌, ⊤, ℕ, ◌+◌, ◌-◌, ◌^◌, ◌<◌, List, [], ◌∷◌, ◌++◌, flat_map, length, All, pos, ◌≤ℤ◌, Result, Ok, Err}
use Rattle.poly_specs.specs.Bits.{FitsBits}
use Rattle.replay_specs.specs.RunTexts.{run_line, gap_line, at_line, stay_line, jump_line, leg_lines, move_lines, gap_lines, AreWritableValues, IsWritableLeg, IsWritableMove, IsWritableGap}
use Rattle.replay_specs.specs.RunTextFaults.{Place, RunLine, GapLine, StartLine, StayLine, EndLine, NextLine, AfterLine, Leads, step}
use Rattle.run_text.specs.Tells.{Tells}
use Rattle.run_text.specs.declared.lines.GapStart.{GapStart}
use Rattle.run_text.specs.declared.lines.LineFault.{LineFault}
use Rattle.run_text.specs.declared.states.Whole.{Whole}
use Rattle.run_text.specs.declared.states.Part.{Part}
use Rattle.run_text.specs.declared.states.State.{State}
use Rattle.run_text.specs.declared.states.State.TheVariants.{Nothing, Counted, Begun, Placed, Staying, Ended, Jumped}

-- how many gaps come behind the next one
abbrev pub later : Whole → ℕ
later w = w.count - (length w.gaps.items + 1)

-- one more gap comes, and those that are whole can be written
pub record IsWhole (w : Whole) : Type 0 where
  pub more : length w.gaps.items < w.count
  pub few : w.count < 2 ^ 32
  pub each : All IsWritableGap w.gaps.items

-- the line of a gap, with its numbers within their limits
pub record IsGapStart (g : GapStart) : Type 0 where
  pub positive : pos 1 ≤ℤ g.den
  pub den : FitsBits g.den
  pub start_loc : g.start_loc < 256

-- a gap that has begun, and its parts can be written
pub record IsPart (o : Part) : Type 0 where
  pub whole : IsWhole o.whole
  pub gap : IsGapStart o.gap
  pub start : AreWritableValues o.start.items
  pub moves : All IsWritableMove o.moves.items

-- all that was read can be written
abbrev pub IsReading : State → Type 0
IsReading Nothing = ⊤
IsReading (Counted w) = IsWhole w
IsReading (Begun w g) = IsWhole w × IsGapStart g
IsReading (Placed o) = IsPart o
IsReading (Staying o time) = IsPart o × FitsBits time
IsReading (Ended o leg) = IsPart o × IsWritableLeg leg
IsReading (Jumped o leg transition) = IsPart o × IsWritableLeg leg × (transition < 256)

-- the lines of the first line and of whole gaps
abbrev pub whole_lines : Whole → List (List ℕ)
whole_lines w = run_line w.count ∷ flat_map gap_lines w.gaps.items

-- and those of a gap that has begun
abbrev pub part_lines : Part → List (List ℕ)
part_lines o = whole_lines o.whole ++ (gap_line o.gap.den o.gap.start_loc ∷ at_line o.start.items ∷ flat_map move_lines o.moves.items)

-- the lines so far
abbrev pub lines_of : State → List (List ℕ)
lines_of Nothing = []
lines_of (Counted w) = whole_lines w
lines_of (Begun w g) = whole_lines w ++ gap_line g.den g.start_loc ∷ []
lines_of (Placed o) = part_lines o
lines_of (Staying o time) = part_lines o ++ stay_line time ∷ []
lines_of (Ended o leg) = part_lines o ++ leg_lines leg
lines_of (Jumped o leg transition) = part_lines o ++ (leg_lines leg ++ jump_line transition ∷ [])

-- where they stand
abbrev pub place_of : State → Place
place_of Nothing = RunLine
place_of (Counted w) = GapLine (later w)
place_of (Begun w g) = StartLine (later w)
place_of (Placed o) = StayLine (later o.whole)
place_of (Staying o time) = EndLine (later o.whole)
place_of (Ended o leg) = NextLine (later o.whole)
place_of (Jumped o leg transition) = AfterLine (later o.whole)

-- the line was read and leads on, or is refused as its place says
abbrev pub Goes : State → List ℕ → Result State LineFault → Type 0
Goes state line (Ok next) = IsReading next × (lines_of next ≡ lines_of state ++ line ∷ []) × (step (place_of state) line ≡ Leads (place_of next))
Goes state line (Err fault) = Tells fault (step (place_of state) line)
