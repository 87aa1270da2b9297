-- The plain stages of a state's history: the state's rows are some of those that they leave.
use Rattle.std.specs.Prelude.{◌≡◌, ◌↔◌, ℕ, List, [], ◌∷◌, length, pos, ◌<ℤ◌, IsSomeAnd, ⊤}
use Rattle.poly_specs.specs.Lists.{IsAmong}
use Rattle.poly_specs.specs.Rows.{Point, Row, HasPoint, AllHold}
use Rattle.run_specs.specs.Automaton.{Automaton, width, location_at}
use Rattle.run_specs.specs.Logs.{Sample}
use Rattle.run_specs.specs.Histories.{History}
use Rattle.run_specs.specs.Stages.{Stage, rows_after}
use Rattle.run_specs.specs.Passes.{AllFit, history_stages, history_rows}
use Rattle.run_specs.specs.Keys.{State}

-- each stage has a point
abbrev pub AllReached : List Stage → Type 0
AllReached [] = ⊤
AllReached (s ∷ ss) = HasPoint s.left (rows_after s) × AllReached ss

-- with these init rows each stage of the history has a point, and the state's rows are among those after the last, and hold at the same points
pub record HasPlainRows (a : Automaton) (samples : List Sample) (h : History) (x : State) (init : List Row) : Type 0 where
  pub reached : AllReached (history_stages a samples h.start h.paths init)
  pub plain : IsAmong x.rows (history_rows a samples h.start h.paths init)
  pub same : (q : Point) → pos 0 <ℤ q.den → length q.num ≡ width a →
      AllHold x.rows q ↔ AllHold (history_rows a samples h.start h.paths init) q

-- the history is one of these samples, it starts where runs may start, and the state has its plain rows
pub record IsPlainState (a : Automaton) (k : ℕ) (samples : List Sample) (h : History) (x : State) : Type 0 where
  pub one_for_each_gap : length h.paths ≡ length samples
  pub fit : AllFit a k h.start h.paths
  pub starts : IsSomeAnd (location_at a h.start).init (λ init. HasPlainRows a samples h x init)
