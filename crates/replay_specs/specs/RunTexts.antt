-- The text of a run, line by line, and which runs have one.
use Rattle.std.specs.Prelude.{ℕ, ◌<◌, ◌≤◌, ◌^◌, List, [], ◌∷◌, ◌++◌, flat_map, length, All, ℤ, pos, ◌≤ℤ◌, codes, decimal}
use Rattle.std.specs.Fmt.{signed_decimal}
use Rattle.poly_specs.specs.Bits.{FitsBits}
use Rattle.run_specs.specs.Runs.{Leg, Move, GapRun}

-- `run G`, where G is the number of gaps
abbrev pub run_line : ℕ → List ℕ
run_line gaps = codes "run " ++ decimal gaps

-- `gap DEN LOC`: the denominator of the gap's numbers, and the location where it starts
abbrev pub gap_line : ℤ → ℕ → List ℕ
gap_line den loc = codes "gap " ++ signed_decimal den ++ codes " " ++ decimal loc

-- `at N1 N2`: a value for each variable
abbrev pub at_line : List ℤ → List ℕ
at_line values = codes "at" ++ flat_map (λ n. codes " " ++ signed_decimal n) values

-- `stay T`: the length of a leg
abbrev pub stay_line : ℤ → List ℕ
stay_line time = codes "stay " ++ signed_decimal time

-- `jump E`: a transition
abbrev pub jump_line : ℕ → List ℕ
jump_line transition = codes "jump " ++ decimal transition

-- a leg: its length and its end
abbrev pub leg_lines : Leg → List (List ℕ)
leg_lines leg = stay_line leg.length_of ∷ at_line leg.at_end ∷ []

-- a move: its leg, the jump after it, and the values after the jump
abbrev pub move_lines : Move → List (List ℕ)
move_lines m = leg_lines m.leg ++ jump_line m.transition ∷ at_line m.after ∷ []

-- a gap: its denominator and start, its moves, and the last leg
abbrev pub gap_lines : GapRun → List (List ℕ)
gap_lines g = gap_line g.den g.start_loc ∷ at_line g.start ∷ flat_map move_lines g.moves ++ leg_lines g.last

-- the lines of a run of these gaps, without line feeds
abbrev pub run_lines : List GapRun → List (List ℕ)
run_lines gaps = run_line (length gaps) ∷ flat_map gap_lines gaps

-- each line with a line feed behind it
abbrev pub ended_lines : List (List ℕ) → List ℕ
ended_lines lines = flat_map (λ line. line ++ codes "\n") lines

-- the text of a run of these gaps
abbrev pub run_text : List GapRun → List ℕ
run_text gaps = ended_lines (run_lines gaps)

-- ---- which runs have a text

-- one to six values of 128 bits
pub record AreWritableValues (values : List ℤ) : Type 0 where
  pub some : 1 ≤ length values
  pub few : length values ≤ 6
  pub fit : All FitsBits values

-- a leg whose numbers have 128 bits
pub record IsWritableLeg (leg : Leg) : Type 0 where
  pub time : FitsBits leg.length_of
  pub at_end : AreWritableValues leg.at_end

-- and a move; transitions are numbered from 0 to 255
pub record IsWritableMove (m : Move) : Type 0 where
  pub leg : IsWritableLeg m.leg
  pub transition : m.transition < 256
  pub after : AreWritableValues m.after

-- and a gap; locations are numbered alike, and a denominator is at least 1
pub record IsWritableGap (g : GapRun) : Type 0 where
  pub positive : pos 1 ≤ℤ g.den
  pub den : FitsBits g.den
  pub start_loc : g.start_loc < 256
  pub start : AreWritableValues g.start
  pub moves : All IsWritableMove g.moves
  pub last : IsWritableLeg g.last

-- a run that has a text: one gap or more, and fewer than 2^32
pub record IsWritable (gaps : List GapRun) : Type 0 where
  pub some : 1 ≤ length gaps
  pub few : length gaps < 2 ^ 32
  pub each : All IsWritableGap gaps
