-- Runs of a linear hybrid automaton.
use Rattle.std.specs.Prelude.{◌≡◌, ℕ, ◌≤◌, Bool, ◌||◌, List, [], ◌∷◌, ◌++◌, map, length, Any, ℤ, pos, ◌+ℤ◌, ◌≤ℤ◌, ◌<ℤ◌, IsSomeAnd, IsTrue, ⊤}
use Rattle.poly_specs.specs.Lists.{minus}
use Rattle.poly_specs.specs.Fractions.{Fraction, SameFraction, zero_fraction, difference}
use Rattle.poly_specs.specs.Rows.{Point, over, SamePoint, AllHold}
use Rattle.run_specs.specs.Automaton.{Location, Automaton, width, location_at, transition_at}
use Rattle.run_specs.specs.Logs.{Sample, IsPassing}

-- ---- the parts of a run, over the denominator of their gap

-- a leg of this length, from where the part before ended to this point
pub record Leg : Type 0 where
  pub length_of : ℤ
  pub at_end : List ℤ

-- a leg, and the jump after it to the values after
pub record Move : Type 0 where
  pub leg : Leg
  pub transition : ℕ
  pub after : List ℤ

-- the part of a run in one gap: moves, and then a last leg
pub record GapRun : Type 0 where
  pub den : ℤ
  pub start_loc : ℕ
  pub start : List ℤ
  pub moves : List Move
  pub last : Leg

-- ---- legs and jumps

-- a leg of constant slope leads from p to q in time t
pub record IsLeg (loc : Location) (d : ℤ) (p : List ℤ) (t : ℤ) (q : List ℤ) : Type 0 where
  pub same_size : length q ≡ length p
  pub lasts : pos 0 ≤ℤ t
  pub inside_before : AllHold loc.invariant (over d p)
  pub inside_after : AllHold loc.invariant (over d q)
  pub still : t ≡ pos 0 → q ≡ p
  pub straight : pos 0 <ℤ t → AllHold loc.slopes (over d (minus q p ++ t ∷ []))

-- a jump by the transition leads from p to q
pub record IsJump (a : Automaton) (e : ℕ) (d : ℤ) (p q : List ℤ) : Type 0 where
  pub same_size : length q ≡ length p
  pub related : AllHold (transition_at a e).relation (over d (p ++ q))
  pub inside_after : AllHold (location_at a (transition_at a e).target).invariant (over d q)

-- ---- gap runs

-- from location l and the values p, the moves and then the last leg lead on
abbrev pub LeadOn : Automaton → ℤ → ℕ → List ℤ → List Move → Leg → Type 0
LeadOn a d l p [] last = IsLeg (location_at a l) d p last.length_of last.at_end
LeadOn a d l p (m ∷ ms) last =
    IsLeg (location_at a l) d p m.leg.length_of m.leg.at_end
    × ((transition_at a m.transition).source ≡ l)
    × IsJump a m.transition d m.leg.at_end m.after
    × LeadOn a d (transition_at a m.transition).target m.after ms last

-- the transitions of a gap run, in order
abbrev pub path_of : GapRun → List ℕ
path_of g = map (λ m. m.transition) g.moves

-- the location where a gap run ends that starts in location l and goes along this path
abbrev pub end_loc : Automaton → ℕ → List ℕ → ℕ
end_loc a l [] = l
end_loc a l (e ∷ path) = end_loc a (transition_at a e).target path

-- a leg along this path from location l is in an unsafe location
abbrev pub goes_unsafe : Automaton → ℕ → List ℕ → Bool
goes_unsafe a l [] = (location_at a l).is_unsafe
goes_unsafe a l (e ∷ path) = (location_at a l).is_unsafe || goes_unsafe a (transition_at a e).target path

-- the sum of the lengths of the legs
abbrev pub total : List Move → Leg → ℤ
total [] last = last.length_of
total (m ∷ ms) last = m.leg.length_of +ℤ total ms last

-- the point where a gap run starts
abbrev pub start_point : GapRun → Point
start_point g = over g.den g.start

-- the point where it ends
abbrev pub end_point : GapRun → Point
end_point g = over g.den g.last.at_end

-- a gap run of this length
pub record IsGapRun (a : Automaton) (duration : Fraction) (g : GapRun) : Type 0 where
  pub positive : pos 0 <ℤ g.den
  pub leads : LeadOn a g.den g.start_loc g.start g.moves g.last
  pub lasts : SameFraction (record { num = total g.moves g.last; den = g.den }) duration

-- ---- runs

-- where a run stands: its location and its point
pub record Place : Type 0 where
  pub loc : ℕ
  pub point : Point

-- where a gap run ends
abbrev pub end_of : Automaton → GapRun → Place
end_of a g = record { loc = end_loc a g.start_loc (path_of g); point = end_point g }

-- the gap run starts where the one before ended, lasts this long with at most k jumps, and ends at a point that passes the sample
pub record Continues (a : Automaton) (k : ℕ) (before : Place) (duration : Fraction) (s : Sample) (g : GapRun) : Type 0 where
  pub same_loc : g.start_loc ≡ before.loc
  pub same_point : SamePoint (start_point g) before.point
  pub few : length g.moves ≤ k
  pub gap_run : IsGapRun a duration g
  pub passes : IsPassing a s.cells (end_point g)

-- one gap run for each sample, each from where the one before ended; t is the time before
abbrev pub Follows : Automaton → ℕ → Place → Fraction → List Sample → List GapRun → Type 0
Follows a k before t [] [] = ⊤
Follows a k before t (s ∷ ss) (g ∷ gs) =
    Continues a k before (difference s.time t) s g × Follows a k (end_of a g) s.time ss gs
Follows a k before t [] (g ∷ gs) = ⊥
Follows a k before t (s ∷ ss) [] = ⊥

-- a run may start here: the location has init rows, and they hold
pub record IsStart (a : Automaton) (start : Place) : Type 0 where
  pub positive : pos 0 <ℤ start.point.den
  pub sized : length start.point.num ≡ width a
  pub allowed : IsSomeAnd (location_at a start.loc).init (λ init. AllHold init start.point)

-- a start, and a gap run for each gap
pub record Run : Type 0 where
  pub start : Place
  pub gaps : List GapRun

-- the run of a log, with at most k jumps in each gap
pub record IsRun (a : Automaton) (k : ℕ) (samples : List Sample) (run : Run) : Type 0 where
  pub starts : IsStart a run.start
  pub follows : Follows a k run.start zero_fraction samples run.gaps

-- a leg of the run is in an unsafe location
abbrev pub VisitsUnsafe : Automaton → Run → Type 0
VisitsUnsafe a run = Any (λ g. IsTrue (goes_unsafe a g.start_loc (path_of g))) run.gaps
