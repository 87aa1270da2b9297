-- The opening: the states where runs may start.
use Rattle.std.specs.Prelude.{◌≡◌, ◌↔◌, ℕ, suc, ◌≤◌, IsFalse, IsSomeAnd, List, [], ◌∷◌, ◌++◌, length, pos, ◌<ℤ◌, Option, Some, None, ⊤}
use Rattle.poly_specs.specs.Lists.{In, IsAmong}
use Rattle.poly_specs.specs.Rows.{Point, Row, HasPoint, AllHold}
use Rattle.run_specs.specs.Automaton.{Automaton, width, location_at}
use Rattle.run_specs.specs.Keys.{State}
use Rattle.run_specs.specs.Passes.{OpeningPasses}

-- the state has no mark, and its rows are some of these and hold exactly where these do, which is somewhere
pub record IsOpeningState (m : ℕ) (rows : List Row) (s : State) : Type 0 where
  pub unmarked : IsFalse s.seen_unsafe
  pub plain : IsAmong s.rows rows
  pub same : (p : Point) → pos 0 <ℤ p.den → length p.num ≡ m → AllHold s.rows p ↔ AllHold rows p
  pub some_point : HasPoint m rows

-- the rows of the opening in this location; none where no run starts there
abbrev pub opening_rows : Automaton → ℕ → Option (List Row)
opening_rows a l = elim (location_at a l).init [ None ↦ None | Some init ↦ Some (init ++ (location_at a l).invariant) ]

-- the locations of the states strictly rise from this one on
abbrev pub LocsRise : ℕ → List State → Type 0
LocsRise l [] = ⊤
LocsRise l (s ∷ ss) = (l ≤ s.loc) × LocsRise (suc s.loc) ss

-- the states at the opening: one for each location where a run may start, in order
pub record AreOpening (a : Automaton) (belief : List State) : Type 0 where
  pub each : (s : State) → In s belief → IsSomeAnd (opening_rows a s.loc) (λ rows. IsOpeningState (width a) rows s)
  pub all : (l : ℕ) (rows : List Row) → opening_rows a l ≡ Some rows → HasPoint (width a) rows → (s : State) × In s belief × (s.loc ≡ l)
  pub rise : LocsRise 0 belief

-- what forming the opening gives: its states; or nothing, where a number passes
abbrev pub IsOpening : Automaton → Option (List State) → Type 0
IsOpening a (Some belief) = AreOpening a belief
IsOpening a None = OpeningPasses a
