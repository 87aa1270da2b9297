-- Reading a line that holds no list: a version, a name, or nothing behind its first word.
use Rattle.std.specs.Prelude.{◌≡◌, ℕ, Bool, true, false, ◌&&◌, if◌then◌else◌, bytes_eq, List, [], ◌∷◌, Option, Some, None}
use Rattle.lang_specs.specs.declared.Which.{Which}
use Rattle.lang_specs.specs.declared.Kind.{Kind}
use Rattle.lang_specs.specs.declared.Kind.TheVariants as kinds
use Rattle.lang_specs.specs.Marks.{Mark, the, a_name, a_number}
use Rattle.lang_specs.specs.Grammar.{unsafe_if}
use Rattle.lang_specs.specs.Grammar as grammar
use Rattle.lang_tokens.specs.Kinds.{same_kind}
use Rattle.lang_tokens.specs.Machines.{LineMachine}
use Rattle.lang_order.specs.Statements as statements
use Rattle.lang_order.specs.Statements.{Statement}

-- what such a line says
pub data Short : Type 0 where
  version : Bool → Short
  automaton : List ℕ → Short
  loc : List ℕ → Bool → Short
  nothing : Short

abbrev pub statement_of : Short → Statement
statement_of (version second) = statements.Version second
statement_of (automaton name) = statements.Automaton name
statement_of (loc name is_unsafe) = statements.Loc name is_unsafe
statement_of nothing = statements.End

-- the words that such lines begin with
abbrev pub is_short : Kind → Bool
is_short kinds.Lha = true
is_short kinds.Automaton = true
is_short kinds.Loc = true
is_short kinds.End = true
is_short k = false

-- what is wanted next: a version, a name, `unsafe` or the end of the line, or the end of the line
pub data State : Type 0 where
  at_version : State
  at_name : State
  at_loc : State
  at_unsafe : List ℕ → State
  behind : Short → State
  ended : Short → State

-- the place behind a word
abbrev pub start_at : Kind → State
start_at kinds.Lha = at_version
start_at kinds.Automaton = at_name
start_at kinds.Loc = at_loc
start_at k = behind nothing

-- the number of the version, as it is written
abbrev pub is_version : Bool → Mark → Bool
is_version second m = same_kind m.kind kinds.Number && bytes_eq m.text (grammar.version second)

-- the version that a token writes
abbrev pub version_of : Mark → Option Bool
version_of m = if is_version false m then Some false else if is_version true m then Some true else None

abbrev pub behind_version : Option Bool → Option State
behind_version None = None
behind_version (Some second) = Some (behind (version second))

-- the place behind a token
unfoldable pub next_short : State → Mark → Option State
next_short at_version m = behind_version (version_of m)
next_short at_name m = if same_kind m.kind kinds.Name then Some (behind (automaton m.text)) else None
next_short at_loc m = if same_kind m.kind kinds.Name then Some (at_unsafe m.text) else None
next_short (at_unsafe name) m =
    if same_kind m.kind kinds.Unsafe then Some (behind (loc name true)) else if same_kind m.kind kinds.EndLine then Some (ended (loc name false)) else None
next_short (behind s) m = if same_kind m.kind kinds.EndLine then Some (ended s) else None
next_short (ended s) m = None

-- nothing limits such a line but its names and literals by themselves
abbrev pub short_line : Kind → LineMachine State
short_line word = record { start = start_at word; next = next_short; fits = λ which s. true }

-- the line has ended, and says this
abbrev pub Ends : State → Statement → Type 0
Ends (ended s) said = said ≡ statement_of s
Ends (behind s) said = ⊥
Ends (at_unsafe name) said = ⊥
Ends at_version said = ⊥
Ends at_name said = ⊥
Ends at_loc said = ⊥
