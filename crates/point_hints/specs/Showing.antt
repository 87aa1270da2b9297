-- What is shown of a system.
use Rattle.std.specs.Prelude.{⊤}
use Rattle.poly_specs.specs.Rows.{HasPoint}
use Rattle.poly_specs.specs.Systems.{System}
use Rattle.point_hints.specs.declared.Shown.{Shown}
use Rattle.point_hints.specs.declared.Shown.TheVariants as shown

-- what is shown holds; where nothing is shown, nothing is said
abbrev pub IsShown : System → Shown → Type 0
IsShown s shown.Empty = HasPoint s.width s.rows → ⊥
IsShown s shown.Inhabited = HasPoint s.width s.rows
IsShown s shown.Nothing = ⊤
