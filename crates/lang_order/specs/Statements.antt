-- What one line says.
use Rattle.std.specs.Prelude.{◌≡◌, ℕ, Bool, false, IsTrue, List, [], ◌∷◌, ◌++◌}
use Rattle.lang_specs.specs.declared.Kind.{Kind}
use Rattle.lang_specs.specs.declared.Kind.TheVariants as kinds
use Rattle.lang_specs.specs.Marks.{Mark, the, a_name, a_number, Lined, statement}
use Rattle.lang_specs.specs.Trees.{RowTree, BoxTree, BoundTree, Act}
use Rattle.lang_specs.specs.Expressions.{AreJoined, IsName, AreRows, IsBox, IsBound, IsGuard, AreActs}
use Rattle.lang_specs.specs.Grammar.{AreInOrder, unsafe_if, version}

pub data Statement : Type 0 where
  -- `lha 1`, or `lha 2` where it is the second version
  Version : Bool → Statement
  Automaton : (name : List ℕ) → Statement
  Vars : (names : List (List ℕ)) → Statement
  Obs : (bounds : List BoundTree) → Statement
  Loc : (name : List ℕ) (is_unsafe : Bool) → Statement
  Init : (rows : List RowTree) → Statement
  Inv : (rows : List RowTree) → Statement
  Flow : (boxes : List BoxTree) → Statement
  Also : (rows : List RowTree) → Statement
  Trans : (from to label : List ℕ) (guard : List RowTree) (acts : List Act) → Statement
  End : Statement

-- the word that a statement begins with
abbrev pub first_word : Statement → Kind
first_word (Version second) = kinds.Lha
first_word (Automaton name) = kinds.Automaton
first_word (Vars names) = kinds.Var
first_word (Obs bounds) = kinds.Obs
first_word (Loc name is_unsafe) = kinds.Loc
first_word (Init rows) = kinds.Init
first_word (Inv rows) = kinds.Inv
first_word (Flow boxes) = kinds.Flow
first_word (Also rows) = kinds.Also
first_word (Trans from to label guard acts) = kinds.Trans
first_word End = kinds.End

-- Behind their first word the tokens of a line, without its end, say this. `obs` and the signs `<` and `>` stand in the second
-- version only, and these signs never in `also`.
abbrev pub IsBody : Bool → List Mark → Statement → Type 0
IsBody second ms (Version v) = ms ≡ a_number (version v) ∷ []
IsBody second ms (Automaton name) = ms ≡ a_name name ∷ []
IsBody second ms (Vars names) = AreJoined IsName ms names
IsBody second ms (Obs bounds) = IsTrue second × AreJoined IsBound ms bounds
IsBody second ms (Loc name is_unsafe) = ms ≡ a_name name ∷ unsafe_if is_unsafe
IsBody second ms (Init rows) = AreRows second ms rows
IsBody second ms (Inv rows) = AreRows second ms rows
IsBody second ms (Flow boxes) = AreJoined IsBox ms boxes
IsBody second ms (Also rows) = AreRows false ms rows
IsBody second ms (Trans from to label guard acts) =
    (when set : List Mark) × (ms ≡ a_name from ∷ the kinds.Arrow ∷ a_name to ∷ the kinds.As ∷ a_name label ∷ when ++ set)
    × IsGuard second when guard × AreActs set acts
IsBody second ms End = ms ≡ []

-- the tokens of a line, without its end, say this
abbrev pub IsStatement : Bool → List Mark → Statement → Type 0
IsStatement second ms s = (body : List Mark) × (ms ≡ the (first_word s) ∷ body) × IsBody second body s

-- a statement, and its line
pub record Numbered : Type 0 where
  pub line : ℕ
  pub says : Statement

-- one line of tokens, from its first to its end, says this
abbrev pub IsLineOf : Bool → List Lined → Numbered → Type 0
IsLineOf second ls s = (ms : List Mark) × (ls ≡ statement s.line ms) × IsStatement second ms s.says

-- lines of tokens, one after the other, say this
abbrev pub AreLines : Bool → List Lined → List Numbered → Type 0
AreLines second ls ss = AreInOrder (IsLineOf second) ls ss

abbrev pub second_if : Statement → Bool
second_if (Version second) = second
second_if s = false

-- the first line tells whether all are of the second version
abbrev pub is_second : List Numbered → Bool
is_second [] = false
is_second (s ∷ ss) = second_if s.says
