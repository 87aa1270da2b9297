-- What stands in a line behind its first word, and what is wrong with it.
use Rattle.std.specs.Prelude.{◌≡◌, ◌≤◌, ◌⊎◌, Bool, IsTrue, List, [], ◌∷◌, ◌++◌}
use Rattle.lang_specs.specs.declared.Which.{Which}
use Rattle.lang_specs.specs.declared.Kind.{Kind}
use Rattle.lang_specs.specs.Tokens.{Placed}
use Rattle.lang_specs.specs.Marks.{Mark}
use Rattle.lang_specs.specs.Limits.{rank}
use Rattle.lang_specs.specs.FirstFault.{is_joint, Fault, SyntaxAt, LimitAt}
use Rattle.lang_order.specs.Statements.{Statement, first_word, IsBody}
use Rattle.lang_order.specs.LineLimits.{line_keeps}
use Rattle.lang_order.specs.Beginnings.{IsViableLine, IsViableLineWithin}
use Rattle.lang_order.specs.FaultsByLines.{marks}

-- behind this word the tokens say this
abbrev pub IsBodyBehind : Bool → Kind → List Mark → Statement → Type 0
IsBodyBehind second word body s = (first_word s ≡ word) × IsBody second body s

abbrev pub BodyKeeps : Which → List Mark → Statement → Type 0
BodyKeeps which body s = IsTrue (line_keeps which body s)

-- the same of a thing that the statement says
abbrev pub KeepsAs : {X : Type 0} → (X → Statement) → Which → List Mark → X → Type 0
KeepsAs says which body x = BodyKeeps which body (says x)

-- ---- limits of one line, whatever it says

-- the marks end with a sign that joins a next item to those before, which keep to a limit without it
pub record EndsSoWithJoint {X : Type 0} (Is Keeps : List Mark → X → Type 0) (ms : List Mark) : Type 0 where
  pub front : List Mark
  pub joint : Mark
  pub parts : ms ≡ front ++ joint ∷ []
  pub joins : IsTrue (is_joint joint.kind)
  pub before : IsViableLineWithin Is Keeps front

-- these marks have not passed a limit
abbrev pub HasKeptSo : {X : Type 0} → (Is Keeps : List Mark → X → Type 0) → List Mark → Type 0
HasKeptSo Is Keeps ms = IsViableLineWithin Is Keeps ms ⊎ EndsSoWithJoint Is Keeps ms

-- ---- faults of one line, whatever it says

-- the marks make the fault what it is at the last of them, which is the mark of this token
abbrev pub IsWrongSo : {X : Type 0} → (Is : List Mark → X → Type 0) → (Keeps : Which → List Mark → X → Type 0) → List Mark → Placed → Fault → Type 0
IsWrongSo Is Keeps ms t (SyntaxAt line column) = (IsViableLine Is ms → ⊥) × (line ≡ t.line) × (column ≡ t.column)
IsWrongSo Is Keeps ms t (LimitAt line which) =
    IsViableLine Is ms × (HasKeptSo Is (Keeps which) ms → ⊥) × ((other : Which) → (HasKeptSo Is (Keeps other) ms → ⊥) → rank which ≤ rank other)
    × (line ≡ t.line)

-- the first fault of a line
pub record IsFaultSo {X : Type 0} (Is : List Mark → X → Type 0) (Keeps : Which → List Mark → X → Type 0) (ts : List Placed) (fault : Fault) : Type 0 where
  pub front : List Placed
  pub token : Placed
  pub rest : List Placed
  pub parts : ts ≡ front ++ token ∷ rest
  pub viable : IsViableLine Is (marks front)
  pub kept : (some others : List Mark) (which : Which) → marks front ≡ some ++ others → HasKeptSo Is (Keeps which) some
  pub wrong : IsWrongSo Is Keeps (marks (front ++ token ∷ [])) token fault
