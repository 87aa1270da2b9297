-- What the bound of a sum says.
use Rattle.std.specs.Prelude.{ℕ, List}
use Rattle.poly_specs.specs.Bounds.{IsSum}
use Rattle.poly_specs.specs.Rows.{Row, HasPoint}
use Rattle.poly_specs.specs.Sets.{IsUnbounded, IsGreatest, IsLimit}
use Rattle.poly_decide.specs.declared.Bound.{Bound}
use Rattle.poly_decide.specs.declared.Bound.TheVariants as bound

-- the bound is that of the row's sums over the points of the system
abbrev pub IsBound : ℕ → List Row → Row → Bound → Type 0
IsBound n rows r bound.Empty = HasPoint n rows → ⊥
IsBound n rows r bound.Unbounded = HasPoint n rows × IsUnbounded (IsSum n rows r)
IsBound n rows r (bound.Max v) = HasPoint n rows × IsGreatest (IsSum n rows r) v
IsBound n rows r (bound.Below v) = HasPoint n rows × IsLimit (IsSum n rows r) v
