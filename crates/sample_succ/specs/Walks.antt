-- The walk over the paths from a parent: what holds on the way, and what was found.
use Rattle.std.specs.Prelude.{◌≡◌, ◌⊎◌, ℕ, ◌+◌, ◌<◌, List, [], ◌∷◌, ◌++◌, length, Option, Some, None, All, Any, ⊤}
use Rattle.poly_specs.specs.Lists.{In}
use Rattle.poly_specs.specs.Rows.{Point, Row, HasPoint}
use Rattle.poly_specs.specs.Systems.{System}
use Rattle.run_specs.specs.Automaton.{Automaton, width, transition_at}
use Rattle.run_specs.specs.Keys.{Key, parent_at}
use Rattle.run_specs.specs.Outcomes.{Item, MayTake, loc_after, mark_after, IsBefore, IsEnd, IsItem, AreRising, IsAccounted, IsNeeded}
use Rattle.run_specs.specs.Stages.{Stage, rows_after, gap_start, leg_stage, jump_stage}
use Rattle.sample_succ.specs.declared.finding.Found.{Found}
use Rattle.sample_succ.specs.declared.finding.Node.{Node}
use Rattle.sample_succ.specs.Covers.{items_of, AreWide, DoesCover, DoesNotCover}
use Rattle.sample_succ.specs.Plain.{IsPlain}

-- ---- the plain rows on the way

-- before the last leg of a path, from this state in location l
abbrev pub before_rows : Automaton → ℕ → List ℕ → List Row → List Row
before_rows a l [] state = state
before_rows a l (e ∷ path) state =
    before_rows a (transition_at a e).target path (rows_after (jump_stage a e (rows_after (leg_stage a l state))))

-- the stages before it
abbrev pub before_stages : Automaton → ℕ → List ℕ → List Row → List Stage
before_stages a l [] state = []
before_stages a l (e ∷ path) state =
    leg_stage a l state
    ∷ jump_stage a e (rows_after (leg_stage a l state))
    ∷ before_stages a (transition_at a e).target path (rows_after (jump_stage a e (rows_after (leg_stage a l state))))

-- each of these stages has a point
abbrev pub HavePoints : List Stage → Type 0
HavePoints [] = ⊤
HavePoints (s ∷ ss) = HasPoint s.left (rows_after s) × HavePoints ss

-- from a parent of the key: before the last leg, and after it
abbrev pub plain_before : Key → ℕ → List ℕ → List Row
plain_before key i path = before_rows key.automaton (parent_at key i).loc path (gap_start (width key.automaton) (parent_at key i).rows)

abbrev pub plain_after : Key → ℕ → List ℕ → List Row
plain_after key i path = rows_after (leg_stage key.automaton (loc_after key i path) (plain_before key i path))

-- ---- nodes

-- the system holds where the plain rows before the last leg of the path do, and all stages before them have a point
pub record IsNodeAt (key : Key) (i : ℕ) (path : List ℕ) (before : System) : Type 0 where
  pub may_take : MayTake key i path
  pub wide : before.width ≡ width key.automaton + 1
  pub plain : IsPlain (width key.automaton + 1) before.rows (plain_before key i path)
  pub reached : HavePoints (before_stages key.automaton (parent_at key i).loc path (gap_start (width key.automaton) (parent_at key i).rows))

-- the node is what its parent and path say
pub record IsNode (key : Key) (n : Node) : Type 0 where
  pub loc : n.loc ≡ loc_after key n.parent n.path.items
  pub mark : n.seen_unsafe ≡ mark_after key n.parent n.path.items
  pub at : IsNodeAt key n.parent n.path.items n.before

-- the system holds where the plain rows after the last leg of the path do, which is somewhere
pub record IsAfter (key : Key) (i : ℕ) (path : List ℕ) (after : System) : Type 0 where
  pub wide : after.width ≡ width key.automaton + 1
  pub plain : IsPlain (width key.automaton + 1) after.rows (plain_after key i path)
  pub some_point : HasPoint (width key.automaton + 1) after.rows

-- what a jump by transition e leads to: a node, or nothing where no run goes this way
abbrev pub IsJumped : Key → ℕ → List ℕ → ℕ → Option Node → Type 0
IsJumped key i path e None = (other : List ℕ) (q : Point) → MayTake key i (path ++ e ∷ other) → IsEnd key i (path ++ e ∷ other) q → ⊥
IsJumped key i path e (Some n) = (n.parent ≡ i) × (n.path.items ≡ path ++ e ∷ []) × IsNode key n

-- ---- what was found

pub record AreFound (key : Key) (items : List Item) : Type 0 where
  pub each : (x : Item) → In x items → IsItem key x
  pub rising : AreRising items
  pub needed : (x y : Item) → In x items → In y items → IsNeeded key x y

-- they stand before this parent and path
abbrev pub AllBefore : List Item → ℕ → List ℕ → Type 0
AllBefore items i path = (x : Item) → In x items → IsBefore x.parent x.path i path

-- nothing, or a transition before number n first
abbrev pub BeginsBelow : ℕ → List ℕ → Type 0
BeginsBelow n [] = ⊤
BeginsBelow n (e ∷ path) = e < n

-- the path extends the first one, with a transition before number n first
abbrev pub IsUnder : List ℕ → ℕ → List ℕ → Type 0
IsUnder path n longer = (other : List ℕ) × (longer ≡ path ++ other) × BeginsBelow n other

-- the rows of a node were put last, and none of the states covers them
pub record IsPut (n : Node) (rows : System) (old new : List Found) : Type 0 where
  pub items : items_of new ≡ items_of old ++ record { parent = n.parent; path = n.path.items; state = record { loc = n.loc; seen_unsafe = n.seen_unsafe; rows = rows.rows } } ∷ []
  pub wide : (m : ℕ) → rows.width ≡ m → AreWide m old → AreWide m new
  pub not_covered : All (DoesNotCover rows.width n.loc n.seen_unsafe rows.rows) old

-- the path, and those that extend it with a transition before number n, were walked
pub record WalkedTo (key : Key) (i : ℕ) (path : List ℕ) (n : ℕ) (old new : List Found) : Type 0 where
  pub wide : AreWide (width key.automaton) new
  pub found : AreFound key (items_of new)
  pub grown : (x : Item) → In x (items_of old) → In x (items_of new)
  pub from : (x : Item) → In x (items_of new) → In x (items_of old) ⊎ ((x.parent ≡ i) × IsUnder path n x.path)
  pub accounted : (other : List ℕ) → BeginsBelow n other → MayTake key i (path ++ other) → IsAccounted key (items_of new) i (path ++ other)

-- the rows of a node were put last, or nothing was done and one of the states covers them
abbrev pub IsPutNew : Node → System → List Found → List Found → Type 0
IsPutNew n rows old new =
    (Any (DoesCover rows.width n.loc n.seen_unsafe rows.rows) old × (new ≡ old))
    ⊎ IsPut n rows old new

-- after the last leg: where it has no point, no longer path is left to walk
abbrev pub IsVisited : Key → ℕ → List ℕ → List Found → List Found → Option System → Type 0
IsVisited key i path old new None = WalkedTo key i path (length key.automaton.transitions) old new
IsVisited key i path old new (Some after) = WalkedTo key i path 0 old new × IsAfter key i path after

-- the paths from all parents before number n were walked
pub record WalkedFrom (key : Key) (n : ℕ) (new : List Found) : Type 0 where
  pub wide : AreWide (width key.automaton) new
  pub found : AreFound key (items_of new)
  pub below : (x : Item) → In x (items_of new) → x.parent < n
  pub accounted : (i : ℕ) (path : List ℕ) → i < n → MayTake key i path → IsAccounted key (items_of new) i path
