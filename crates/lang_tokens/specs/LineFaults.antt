-- What a line says, and where it says nothing.
use Rattle.std.specs.Prelude.{◌≡◌, ⊤, ◌≤◌, ◌⊎◌, Bool, true, false, if◌then◌else◌, Result, Ok, Err, List, [], ◌∷◌, ◌++◌, map}
use Rattle.std.specs.List.{list_all}
use Rattle.poly_specs.specs.Fractions.{Fraction}
use Rattle.lang_specs.specs.declared.Which.{Which}
use Rattle.lang_specs.specs.declared.Kind.TheVariants.{Number, EndLine}
use Rattle.lang_specs.specs.Tokens.{Placed}
use Rattle.lang_specs.specs.Marks.{Mark, mark, the}
use Rattle.lang_specs.specs.Limits.{rank}
use Rattle.lang_specs.specs.FirstFault.{is_joint}
use Rattle.number_specs.specs.Literals.{read_literal}
use Rattle.number_specs.specs.declared.NumFault.{NumFault}
use Rattle.number_specs.specs.declared.NumFault.TheVariants.{Form, Range}
use Rattle.lang_tokens.specs.Kinds.{same_kind}
use Rattle.lang_tokens.specs.Machines.{token_keeps}
use Rattle.lang_tokens.specs.declared.faults.LineFault.{LineFault}
use Rattle.lang_tokens.specs.declared.faults.LineFault.TheVariants as faults

-- what tokens say
abbrev pub marks : List Placed → List Mark
marks ts = map mark ts

-- a literal has a value, or too many digits
abbrev pub is_value : Result Fraction NumFault → Bool
is_value (Ok v) = true
is_value (Err Range) = true
is_value (Err Form) = false

abbrev pub is_literal : Mark → Bool
is_literal m = if same_kind m.kind Number then is_value (read_literal m.text) else true

-- each literal is one
abbrev pub AreLiterals : List Mark → Type 0
AreLiterals [] = ⊤
AreLiterals (m ∷ ms) = (is_literal m ≡ true) × AreLiterals ms

-- the thing, and the end of the line
abbrev pub IsLine : {X : Type 0} → (List Mark → X → Type 0) → List Mark → X → Type 0
IsLine Is ms x = (inside : List Mark) × (ms ≡ inside ++ the EndLine ∷ []) × Is inside x

-- some continuation of these marks is such a line
abbrev pub IsViableLine : {X : Type 0} → (List Mark → X → Type 0) → List Mark → Type 0
IsViableLine {X} Is ms = (more : List Mark) × (x : X) × IsLine Is (ms ++ more) x

-- ---- limits

-- what limits a thing keeps to, whatever its names and literals are
abbrev pub Keeping : Type 0 → Type 0
Keeping X = Which → X → Bool

-- the names and literals keep to the limit
abbrev pub marks_keep : Which → List Mark → Bool
marks_keep which ms = list_all (λ m. token_keeps which m) ms

-- these marks are a line that says a thing, within all limits
pub record IsLineWithin {X : Type 0} (Is : List Mark → X → Type 0) (keeps : Keeping X) (ms : List Mark) (x : X) : Type 0 where
  pub is : IsLine Is ms x
  pub kept : (which : Which) → keeps which x ≡ true
  pub tokens_kept : (which : Which) → marks_keep which ms ≡ true

-- some continuation of these marks is a line that keeps to the limit
abbrev pub IsViableLineWithin : {X : Type 0} → (List Mark → X → Type 0) → Keeping X → Which → List Mark → Type 0
IsViableLineWithin {X} Is keeps which ms =
    (more : List Mark) × (x : X) × IsLine Is (ms ++ more) x × (keeps which x ≡ true) × (marks_keep which (ms ++ more) ≡ true)

-- The marks end with a sign that joins a next item to those before, which can be kept to the limit without it.
pub record LineEndsWithJoint {X : Type 0} (Is : List Mark → X → Type 0) (keeps : Keeping X) (which : Which) (ms : List Mark) : Type 0 where
  pub front : List Mark
  pub joint : Mark
  pub parts : ms ≡ front ++ joint ∷ []
  pub joins : is_joint joint.kind ≡ true
  pub before : IsViableLineWithin Is keeps which front

-- These marks have not passed the limit. So a limit is passed at the first token of the item that is one too many, and not
-- at the sign that joins it to the item before.
abbrev pub HasLineKept : {X : Type 0} → (List Mark → X → Type 0) → Keeping X → Which → List Mark → Type 0
HasLineKept Is keeps which ms = IsViableLineWithin Is keeps which ms ⊎ LineEndsWithJoint Is keeps which ms

-- no mark of these has passed a limit
abbrev pub HasLineKeptAll : {X : Type 0} → (List Mark → X → Type 0) → Keeping X → List Mark → Type 0
HasLineKeptAll Is keeps ms = (front rest : List Mark) (which : Which) → ms ≡ front ++ rest → HasLineKept Is keeps which front

-- ---- faults

-- these marks make the fault what it is at the last of them: no continuation allows it, or some continuation does, and it
-- passes a limit, of which none is passed with it that is told before
abbrev pub IsLineFaultOf : {X : Type 0} → (List Mark → X → Type 0) → Keeping X → List Mark → Placed → LineFault → Type 0
IsLineFaultOf Is keeps ms t (faults.Syntax column) = (IsViableLine Is ms → ⊥) × (column ≡ t.column)
IsLineFaultOf Is keeps ms t (faults.Limit which) =
    IsViableLine Is ms × (HasLineKept Is keeps which ms → ⊥) × ((other : Which) → (HasLineKept Is keeps other ms → ⊥) → rank which ≤ rank other)
IsLineFaultOf Is keeps ms t faults.Memory = ⊥

-- the first fault of a line: the tokens before it can go on to such a line, and have passed no limit
pub record IsFirstLineFault {X : Type 0} (Is : List Mark → X → Type 0) (keeps : Keeping X) (ts : List Placed) (fault : LineFault) : Type 0 where
  pub front : List Placed
  pub token : Placed
  pub rest : List Placed
  pub parts : ts ≡ front ++ token ∷ rest
  pub viable : IsViableLine Is (marks front)
  pub kept : HasLineKeptAll Is keeps (marks front)
  pub wrong : IsLineFaultOf Is keeps (marks (front ++ token ∷ [])) token fault

-- the first fault of a line, or want of memory, which may come anywhere
abbrev pub IsLineFault : {X : Type 0} → (List Mark → X → Type 0) → Keeping X → List Placed → LineFault → Type 0
IsLineFault Is keeps ts (faults.Syntax column) = IsFirstLineFault Is keeps ts (faults.Syntax column)
IsLineFault Is keeps ts (faults.Limit which) = IsFirstLineFault Is keeps ts (faults.Limit which)
IsLineFault Is keeps ts faults.Memory = ⊤
