-- One gap of a session: from the states before it and the sample after it to the states after it.
use Rattle.std.specs.Prelude.{◌≡◌, ◌⊎◌, ◌↔◌, ℕ, ◌<◌, ◌≤◌, Bool, ◌||◌, List, [], ◌∷◌, length, pos, ◌<ℤ◌, ⊤}
use Rattle.std.specs.Ordering.{nat_cmp, ordering_then}
use Rattle.std.specs.declared.cmp.Ordering.TheVariants.{Less}
use Rattle.std.specs.Cmp.Lexicographic.{slice_cmp}
use Rattle.poly_specs.specs.Lists.{In}
use Rattle.poly_specs.specs.Rows.{Point, Row, SamePoint, AllHold}
use Rattle.poly_specs.specs.Bits.{SomePasses}
use Rattle.poly_specs.specs.Bounds.{inclusion_numbers}
use Rattle.run_specs.specs.Automaton.{width}
use Rattle.run_specs.specs.Logs.{IsPassing}
use Rattle.run_specs.specs.Runs.{GapRun, IsGapRun, start_point, end_point, path_of, end_loc, goes_unsafe}
use Rattle.run_specs.specs.Stages.{gap_stages, gap_rows, SomeReachedPasses}
use Rattle.run_specs.specs.Passes.{Fits}
use Rattle.run_specs.specs.Keys.{State, Key, parent_at}

-- a state after the gap, with the number of the state before and the path from there
pub record Item : Type 0 where
  pub parent : ℕ
  pub path : List ℕ
  pub state : State

-- the states after the gap, or that a number passed
pub data Outcome : Type 0 where
  Next : (items : List Item) → Outcome
  Passed : Outcome

-- the path may be taken from this parent: it leaves the parent's location, and has at most so many transitions as the key allows
pub record MayTake (key : Key) (i : ℕ) (path : List ℕ) : Type 0 where
  pub parent : i < length key.belief
  pub few : length path ≤ key.jumps
  pub fits : Fits key.automaton (parent_at key i).loc path

-- ---- where the gap runs along a path end

-- the gap run goes along this path from the parent, lasts the gap, passes the sample and ends at q
pub record LeadsTo (key : Key) (i : ℕ) (path : List ℕ) (q : Point) (g : GapRun) : Type 0 where
  pub same_loc : g.start_loc ≡ (parent_at key i).loc
  pub sized : length g.start ≡ width key.automaton
  pub allowed : AllHold (parent_at key i).rows (start_point g)
  pub along : path_of g ≡ path
  pub gap_run : IsGapRun key.automaton key.gap g
  pub passes : IsPassing key.automaton key.seen (end_point g)
  pub same_point : SamePoint (end_point g) q

-- q is the end of such a gap run
pub record IsEnd (key : Key) (i : ℕ) (path : List ℕ) (q : Point) : Type 0 where
  pub positive : pos 0 <ℤ q.den
  pub sized : length q.num ≡ width key.automaton
  pub reached : (g : GapRun) × LeadsTo key i path q g

-- the ends along one path from one parent are ends along another
abbrev pub IsIncluded : Key → ℕ → List ℕ → ℕ → List ℕ → Type 0
IsIncluded key i path j other = (q : Point) → IsEnd key i path q → IsEnd key j other q

-- the location where the path from this parent ends
abbrev pub loc_after : Key → ℕ → List ℕ → ℕ
loc_after key i path = end_loc key.automaton (parent_at key i).loc path

-- the mark there: the parent's, or that the path has a leg in an unsafe location
abbrev pub mark_after : Key → ℕ → List ℕ → Bool
mark_after key i path = (parent_at key i).seen_unsafe || goes_unsafe key.automaton (parent_at key i).loc path

-- ---- an exact outcome

-- by parent, and then by path; a path is less than what it is a prefix of
abbrev pub IsBefore : ℕ → List ℕ → ℕ → List ℕ → Type 0
IsBefore i path j other = ordering_then (nat_cmp i j) (slice_cmp nat_cmp path other) ≡ Less

-- the item is what its parent and path say: its rows hold exactly at their ends, of which there is one, and are rows of the plain stages
pub record IsItem (key : Key) (x : Item) : Type 0 where
  pub may_take : MayTake key x.parent x.path
  pub loc : x.state.loc ≡ loc_after key x.parent x.path
  pub mark : x.state.seen_unsafe ≡ mark_after key x.parent x.path
  pub ends : (q : Point) → pos 0 <ℤ q.den → length q.num ≡ width key.automaton →
      AllHold x.state.rows q ↔ IsEnd key x.parent x.path q
  pub some_end : (q : Point) × IsEnd key x.parent x.path q
  pub plain : (r : Row) → In r x.state.rows →
      In r (gap_rows key.automaton (parent_at key x.parent).loc x.path key.gap key.seen (parent_at key x.parent).rows)

-- the items strictly rise after this parent and path
abbrev pub ItemsRise : ℕ → List ℕ → List Item → Type 0
ItemsRise i path [] = ⊤
ItemsRise i path (x ∷ xs) = IsBefore i path x.parent x.path × ItemsRise x.parent x.path xs

-- the items strictly rise
abbrev pub AreRising : List Item → Type 0
AreRising [] = ⊤
AreRising (x ∷ xs) = ItemsRise x.parent x.path xs

-- the item stands before this parent and path, with the same location and mark
pub record IsEarlierLike (key : Key) (i : ℕ) (path : List ℕ) (x : Item) : Type 0 where
  pub before : IsBefore x.parent x.path i path
  pub same_loc : x.state.loc ≡ loc_after key i path
  pub same_mark : x.state.seen_unsafe ≡ mark_after key i path

-- the ends along this path from this parent are those of an earlier item that is alike
pub record IsCovered (key : Key) (items : List Item) (i : ℕ) (path : List ℕ) (x : Item) : Type 0 where
  pub item : In x items
  pub alike : IsEarlierLike key i path x
  pub included : IsIncluded key i path x.parent x.path

-- this parent and path have an item, or no end, or only ends of an earlier item that is alike
abbrev pub IsAccounted : Key → List Item → ℕ → List ℕ → Type 0
IsAccounted key items i path =
    ((x : Item) × In x items × (x.parent ≡ i) × (x.path ≡ path))
    ⊎ (((q : Point) → IsEnd key i path q → ⊥)
    ⊎ ((x : Item) × IsCovered key items i path x))

-- an item whose ends are those of an earlier one that is alike is there only where deciding this passes
abbrev pub IsNeeded : Key → Item → Item → Type 0
IsNeeded key x y =
    IsEarlierLike key y.parent y.path x → IsIncluded key y.parent y.path x.parent x.path →
    SomePasses (inclusion_numbers (width key.automaton) x.state.rows y.state.rows)

-- the items are exact for the key
pub record AreExact (key : Key) (items : List Item) : Type 0 where
  pub each : (x : Item) → In x items → IsItem key x
  pub rising : AreRising items
  pub complete : (i : ℕ) (path : List ℕ) → MayTake key i path → IsAccounted key items i path
  pub needed : (x y : Item) → In x items → In y items → IsNeeded key x y

-- along this path from this parent a number of a reached stage passes; the start of the gap counts as having a point
pub record KeyPassesAlong (key : Key) (i : ℕ) (path : List ℕ) : Type 0 where
  pub may_take : MayTake key i path
  pub passes : SomeReachedPasses (gap_stages key.automaton (parent_at key i).loc path key.gap key.seen (parent_at key i).rows)

-- the key passes: along some path from some parent
abbrev pub KeyPasses : Key → Type 0
KeyPasses key = (i : ℕ) × (path : List ℕ) × KeyPassesAlong key i path

-- the outcome is exact for the key
abbrev pub IsExact : Key → Outcome → Type 0
IsExact key (Next items) = AreExact key items
IsExact key Passed = KeyPasses key
