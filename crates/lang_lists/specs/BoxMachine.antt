-- Reading a box.
use Rattle.std.specs.Prelude.{◌≡◌, ℕ, Bool, true, false, if◌then◌else◌, List, Option, Some, None}
use Rattle.lang_specs.specs.declared.Kind.TheVariants.{Name, Number, In, Comma, Open, Close, Minus}
use Rattle.lang_specs.specs.Marks.{Mark}
use Rattle.poly_specs.specs.Fractions.{Fraction}
use Rattle.lang_specs.specs.Trees.{BoxTree}
use Rattle.lang_specs.specs.Expressions.{IsValue, signed}
use Rattle.lang_tokens.specs.Kinds.{same_kind}
use Rattle.lang_tokens.specs.Machines.{Machine}
use Rattle.lang_tokens.specs.LineFaults.{Keeping}

-- a literal, with its sign
pub record Num : Type 0 where
  pub neg : Bool
  pub text : List ℕ

-- a variable's least and greatest slope, as they are written
pub record Box : Type 0 where
  pub var : List ℕ
  pub lo : Num
  pub hi : Num

-- what a box wants next, and what stands before it in the box
pub data Place : Type 0 where
  at_var : Place
  at_in : List ℕ → Place
  at_open : List ℕ → Place
  at_lo : List ℕ → Place
  at_lo_number : List ℕ → Place
  at_comma : List ℕ → Num → Place
  at_hi : List ℕ → Num → Place
  at_hi_number : List ℕ → Num → Place
  at_close : List ℕ → Num → Num → Place
  behind : Box → Place

abbrev pub num : Bool → List ℕ → Num
num neg text = record { neg = neg; text = text }

-- the place behind a token in a box
unfoldable pub in_box : Place → Mark → Option Place
in_box at_var m = if same_kind m.kind Name then Some (at_in m.text) else None
in_box (at_in v) m = if same_kind m.kind In then Some (at_open v) else None
in_box (at_open v) m = if same_kind m.kind Open then Some (at_lo v) else None
in_box (at_lo v) m =
    if same_kind m.kind Minus then Some (at_lo_number v) else if same_kind m.kind Number then Some (at_comma v (num false m.text)) else None
in_box (at_lo_number v) m = if same_kind m.kind Number then Some (at_comma v (num true m.text)) else None
in_box (at_comma v lo) m = if same_kind m.kind Comma then Some (at_hi v lo) else None
in_box (at_hi v lo) m =
    if same_kind m.kind Minus then Some (at_hi_number v lo) else if same_kind m.kind Number then Some (at_close v lo (num false m.text)) else None
in_box (at_hi_number v lo) m = if same_kind m.kind Number then Some (at_close v lo (num true m.text)) else None
in_box (at_close v lo hi) m = if same_kind m.kind Close then Some (behind (record { var = v; lo = lo; hi = hi })) else None
in_box (behind b) m = None

-- the box that is complete there
abbrev pub made : Place → Option Box
made (behind b) = Some b
made at_var = None
made (at_in v) = None
made (at_open v) = None
made (at_lo v) = None
made (at_lo_number v) = None
made (at_comma v lo) = None
made (at_hi v lo) = None
made (at_hi_number v lo) = None
made (at_close v lo hi) = None

-- boxes have no limit of their own
abbrev pub boxes : Machine Place Box
boxes = record { start = at_var; next = in_box; made = made; fits = λ which s. true }

abbrev pub no_limits : {X : Type 0} → Keeping X
no_limits which x = true

-- what a box says as it is written
abbrev pub IsNumValue : Num → Fraction → Type 0
IsNumValue n v = (size : Fraction) × IsValue n.text size × (v ≡ signed n.neg size)

abbrev pub IsBoxValue : Box → BoxTree → Type 0
IsBoxValue b y = (b.var ≡ y.var) × IsNumValue b.lo y.lo × IsNumValue b.hi y.hi
