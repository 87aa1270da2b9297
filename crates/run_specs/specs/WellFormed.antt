-- What every automaton keeps: its names, limits, widths, ranges and boxes.
use Rattle.std.specs.Prelude.{◌≡◌, ◌≢◌, ℕ, ◌+◌, ◌*◌, ◌<◌, ◌≤◌, List, length, All, pos, ◌<ℤ◌, IfSome, IsTrue, IsFalse, slice_index_or}
use Rattle.run_specs.specs.Names.{is_name}
use Rattle.run_specs.specs.Automaton.{Location, Transition, Automaton, never, width}
use Rattle.poly_specs.specs.Fractions.{AtMost, zero_fraction}
use Rattle.poly_specs.specs.LowestTerms.{IsLowest}
use Rattle.poly_specs.specs.Rows.{Row, coef_at, AllWide}

-- rows 2j and 2j + 1 bound the slope of variable j from above and from below, and no other slope
pub record HasBox (m : ℕ) (slopes : List Row) (j : ℕ) : Type 0 where
  pub above : pos 0 <ℤ coef_at j (slice_index_or slopes (2 * j) never)
  pub below : coef_at j (slice_index_or slopes (2 * j + 1) never) <ℤ pos 0
  pub others : (i : ℕ) → i < m → i ≢ j →
      (coef_at i (slice_index_or slopes (2 * j) never) ≡ pos 0) × (coef_at i (slice_index_or slopes (2 * j + 1) never) ≡ pos 0)

-- a location of an automaton of m variables
pub record IsLocation (m : ℕ) (loc : Location) : Type 0 where
  pub name : IsTrue (is_name loc.name)
  pub init : IfSome loc.init (AllWide m)
  pub invariant : AllWide m loc.invariant
  pub slopes : AllWide (m + 1) loc.slopes
  pub homogeneous : All (λ r. (r.cst ≡ pos 0) × IsFalse r.strict) loc.slopes
  pub boxed : 2 * m ≤ length loc.slopes
  pub boxes : (j : ℕ) → j < m → HasBox m loc.slopes j

-- a transition of an automaton of m variables and n locations
pub record IsTransition (m n : ℕ) (e : Transition) : Type 0 where
  pub label : IsTrue (is_name e.label)
  pub source : e.source < n
  pub target : e.target < n
  pub relation : AllWide (m + m) e.relation

-- an automaton within its limits
pub record IsWellFormed (a : Automaton) : Type 0 where
  pub name : IsTrue (is_name a.name)
  pub variables : (1 ≤ width a) × (width a ≤ 6)
  pub variable_names : All (λ x. IsTrue (is_name x)) a.variables
  pub locations : (1 ≤ length a.locations) × (length a.locations ≤ 32)
  pub transitions : length a.transitions ≤ 128
  pub tolerances : (length a.obs ≡ width a) × All (λ w. IsLowest w × AtMost zero_fraction w) a.obs
  pub each_location : All (IsLocation (width a)) a.locations
  pub each_transition : All (IsTransition (width a) (length a.locations)) a.transitions
