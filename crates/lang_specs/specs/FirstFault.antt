-- What is a text of models, and what is wrong with one that is none.
use Rattle.std.specs.Prelude.{◌≡◌, ℕ, ◌≤◌, ◌⊎◌, Bool, true, false, IsTrue, List, [], ◌∷◌, ◌++◌}
use Rattle.lang_specs.specs.declared.Which.{Which}
use Rattle.lang_specs.specs.declared.Kind.{Kind}
use Rattle.lang_specs.specs.declared.Kind.TheVariants as kinds
use Rattle.lang_specs.specs.Tokens.{Placed}
use Rattle.lang_specs.specs.Lines.{text_tokens}
use Rattle.lang_specs.specs.Marks.{Lined, lined}
use Rattle.lang_specs.specs.Trees.{Tree}
use Rattle.lang_specs.specs.Grammar.{Spell}
use Rattle.lang_specs.specs.Limits.{Keeps, rank}

-- the text spells the trees, within all limits
pub record IsSpelling (text : List ℕ) (trees : List Tree) : Type 0 where
  pub spelled : Spell (lined (text_tokens text)) trees
  pub kept : (which : Which) → Keeps which (lined (text_tokens text)) trees

-- ---- beginnings of texts

-- some continuation of these tokens spells trees, within limits or not
abbrev pub IsViable : List Lined → Type 0
IsViable ls = (more : List Lined) × (trees : List Tree) × Spell (ls ++ more) trees

-- some continuation of these tokens spells trees that keep to the limit
abbrev pub IsViableWithin : Which → List Lined → Type 0
IsViableWithin which ls = (more : List Lined) × (trees : List Tree) × Spell (ls ++ more) trees × Keeps which (ls ++ more) trees

-- a sign that joins the next item of a list to those before
abbrev pub is_joint : Kind → Bool
is_joint kinds.Comma = true
is_joint kinds.Plus = true
is_joint kinds.Minus = true
is_joint k = false

-- The tokens end with a sign that joins a next item to those before, which can be kept to the limit without it.
pub record EndsWithJoint (which : Which) (ls : List Lined) : Type 0 where
  pub front : List Lined
  pub joint : Lined
  pub parts : ls ≡ front ++ joint ∷ []
  pub joins : IsTrue (is_joint joint.mark.kind)
  pub before : IsViableWithin which front

-- These tokens have not passed the limit. So a limit is passed at the first token of the item that is one too many, and not
-- at the sign that joins it to the item before.
abbrev pub HasKept : Which → List Lined → Type 0
HasKept which ls = IsViableWithin which ls ⊎ EndsWithJoint which ls

-- no token of these has passed a limit
abbrev pub HasKeptAll : List Lined → Type 0
HasKeptAll ls = (front rest : List Lined) (which : Which) → ls ≡ front ++ rest → HasKept which front

-- ---- faults

-- a token that no continuation allows, by line and column; or a limit, by the line of the token that passes it
pub data Fault : Type 0 where
  SyntaxAt : (line column : ℕ) → Fault
  LimitAt : (line : ℕ) → Which → Fault

-- these tokens make the fault what it is at the last of them: no continuation allows it, or some continuation does, and it
-- passes a limit, of which none is passed with it that is told before
abbrev pub IsFaultOf : List Lined → Placed → Fault → Type 0
IsFaultOf ls t (SyntaxAt line column) = (IsViable ls → ⊥) × (line ≡ t.line) × (column ≡ t.column)
IsFaultOf ls t (LimitAt line which) =
    IsViable ls × (HasKept which ls → ⊥) × ((other : Which) → (HasKept other ls → ⊥) → rank which ≤ rank other) × (line ≡ t.line)

-- the first fault of a text: the tokens before it can go on to a text of models, and have passed no limit
pub record IsFirstFault (text : List ℕ) (fault : Fault) : Type 0 where
  pub front : List Placed
  pub token : Placed
  pub rest : List Placed
  pub parts : text_tokens text ≡ front ++ token ∷ rest
  pub viable : IsViable (lined front)
  pub kept : HasKeptAll (lined front)
  pub wrong : IsFaultOf (lined (front ++ token ∷ [])) token fault
