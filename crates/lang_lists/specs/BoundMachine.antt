-- Reading the tolerance of a variable.
use Rattle.std.specs.Prelude.{◌≡◌, ℕ, if◌then◌else◌, List, Option, Some, None}
use Rattle.lang_specs.specs.declared.Kind.TheVariants.{Name, Number, Within}
use Rattle.lang_specs.specs.Marks.{Mark}
use Rattle.lang_specs.specs.Trees.{BoundTree}
use Rattle.lang_specs.specs.Expressions.{IsValue}
use Rattle.lang_tokens.specs.Kinds.{same_kind}
use Rattle.lang_tokens.specs.Machines.{Machine}
use Rattle.lang_lists.specs.SixAtMost.{fits_six}

-- a variable's tolerance, as it is written
pub record Bound : Type 0 where
  pub var : List ℕ
  pub text : List ℕ

-- what a bound wants next, and what stands before it in the bound
pub data Place : Type 0 where
  at_var : Place
  at_within : List ℕ → Place
  at_literal : List ℕ → Place
  behind : Bound → Place

unfoldable pub in_bound : Place → Mark → Option Place
in_bound at_var m = if same_kind m.kind Name then Some (at_within m.text) else None
in_bound (at_within v) m = if same_kind m.kind Within then Some (at_literal v) else None
in_bound (at_literal v) m = if same_kind m.kind Number then Some (behind (record { var = v; text = m.text })) else None
in_bound (behind b) m = None

abbrev pub made : Place → Option Bound
made at_var = None
made (at_within v) = None
made (at_literal v) = None
made (behind b) = Some b

abbrev pub bounds : Machine Place Bound
bounds = record { start = at_var; next = in_bound; made = made; fits = fits_six }

-- what a bound says as it is written
abbrev pub IsBoundValue : Bound → BoundTree → Type 0
IsBoundValue b y = (b.var ≡ y.var) × IsValue b.text y.within
