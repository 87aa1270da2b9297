-- What was read of a text, and what is wrong with it.
use Rattle.std.specs.Prelude.{◌≡◌, ⊤, ℕ, ◌⊎◌, Bool, false, IsTrue, List, ◌∷◌, ◌++◌, Some, None}
use Rattle.lang_specs.specs.declared.Which.{Which}
use Rattle.lang_specs.specs.declared.Kind.{Kind}
use Rattle.lang_specs.specs.declared.Kind.TheVariants as kinds
use Rattle.lang_specs.specs.Tokens.{Placed, line_tokens}
use Rattle.lang_specs.specs.Lines.{text_tokens}
use Rattle.lang_specs.specs.Marks.{lined}
use Rattle.lang_specs.specs.Trees.{Tree}
use Rattle.lang_specs.specs.FirstFault.{IsSpelling, Fault, SyntaxAt, LimitAt, IsFirstFault}
use Rattle.lang_tokens.specs.declared.faults.LineFault.{LineFault}
use Rattle.lang_tokens.specs.declared.faults.LineFault.TheVariants as faults
use Rattle.lang_order.specs.declared.Place.{Place}
use Rattle.lang_order.specs.Statements.{Statement, Version, Numbered, is_second}
use Rattle.lang_order.specs.Order.{next}
use Rattle.lang_order.specs.Building.{trees_of}
use Rattle.lang_order.specs.Adding.{add}
use Rattle.lang_order.specs.LineLimits.{none_yet, count, counts_from, are_few}
use Rattle.lang_order.specs.LineLimits as limits
use Rattle.lang_order.specs.FaultsByLines.{AreReadLines}
use Rattle.lang_texts.specs.declared.order.Counts.{Counts}
use Rattle.lang_texts.specs.declared.texts.State.{State}
use Rattle.lang_texts.specs.declared.texts.LangFault.{LangFault}
use Rattle.lang_texts.specs.declared.texts.LangFault.TheVariants.{Syntax, Limit, Memory}
use Rattle.lang_texts.specs.Growing.{trees_in}

-- ---- the first word of a line

-- the counts, as limits speak of them
abbrev pub counts_of : Counts → limits.Counts
counts_of c = record { automata = c.automata; locs = c.locs; trans = c.trans }

-- the counts with a line that begins with this word, which keep to all limits if those before do
abbrev pub IsCount : limits.Counts → Kind → limits.Counts → Type 0
IsCount c word d =
    (d ≡ count c word) × (((which : Which) → IsTrue (are_few which c)) → (which : Which) → IsTrue (are_few which (count c word)))

-- behind what was read a line may begin with this word, and leads to this place and these counts
abbrev pub Leads : State → Placed → Place × Counts → Type 0
Leads s word behind =
    (next s.place word.kind ≡ Some behind.0) × IsCount (counts_of s.counts) word.kind (counts_of behind.1) × (word.kind ≡ kinds.Obs → IsTrue s.second)

-- what is wrong with the first word of a line: the order does not allow it, or the version does not, or it is one too many
abbrev pub IsWordFault : State → Placed → LangFault → Type 0
IsWordFault s word (Syntax line column) =
    ((next s.place word.kind ≡ None) ⊎ ((s.second ≡ false) × (word.kind ≡ kinds.Obs))) × (line ≡ word.line) × (column ≡ word.column)
IsWordFault s word (Limit line which) =
    ((q : Place) × (next s.place word.kind ≡ Some q)) × (are_few which (count (counts_of s.counts) word.kind) ≡ false) × (line ≡ word.line)
IsWordFault s word Memory = ⊥

-- ---- one line

-- all tokens of a line, with its end
abbrev pub AreLineTokens : ℕ → List Placed → Type 0
AreLineTokens line ts = (bytes : List ℕ) × (ts ≡ line_tokens line bytes)

-- whether lines are of the second version, with one more that says this
abbrev pub version_behind : Bool → Statement → Bool
version_behind second (Version v) = v
version_behind second s = second

-- what is held of the lines before, and of one more that says this
pub record Holds (line : ℕ) (said : Statement) (to : Place) (counted : limits.Counts) (before after : State) : Type 0 where
  pub place : after.place ≡ to
  pub second : after.second ≡ version_behind before.second said
  pub counts : counts_of after.counts ≡ counted
  pub trees : trees_in after.trees ≡ add line said (trees_in before.trees)

-- the fault of a line of this number
abbrev pub located : ℕ → LineFault → LangFault
located line (faults.Syntax column) = Syntax line column
located line (faults.Limit which) = Limit line which
located line faults.Memory = Memory

-- ---- a text

-- a text was read up to these tokens: whole lines, in order and within all limits, of which the state holds what they say
pub record IsReadUpTo (text : List ℕ) (rest : List Placed) (s : State) : Type 0 where
  pub whole : List Placed
  pub says : List Numbered
  pub parts : text_tokens text ≡ whole ++ rest
  pub read : AreReadLines (lined whole) says s.place
  pub second : is_second says ≡ s.second
  pub counts : counts_from none_yet says ≡ counts_of s.counts
  pub trees : trees_of says ≡ trees_in s.trees

-- the first fault of a text, or want of memory, which may come anywhere
abbrev pub IsTextFault : List ℕ → LangFault → Type 0
IsTextFault text (Syntax line column) = IsFirstFault text (SyntaxAt line column)
IsTextFault text (Limit line which) = IsFirstFault text (LimitAt line which)
IsTextFault text Memory = ⊤

-- any text that was read up to these tokens, and then goes on, is read up to what stands behind them
abbrev pub GoesOn : List Placed → State → State → Type 0
GoesOn ts s t = (text : List ℕ) (rest : List Placed) → IsReadUpTo text (ts ++ rest) s → IsReadUpTo text rest t

-- any text that was read up to these tokens has this fault
abbrev pub FailsAt : List Placed → State → LangFault → Type 0
FailsAt ts s e = (text : List ℕ) (rest : List Placed) → IsReadUpTo text (ts ++ rest) s → IsTextFault text e

-- any text that was read up to these tokens, the last ones, spells these trees
abbrev pub Spells : List Placed → State → List Tree → Type 0
Spells ts s trees = (text : List ℕ) → IsReadUpTo text ts s → IsSpelling text trees

-- ---- what a caller is told

-- memory ran out
abbrev pub IsNoMore : LangFault → Type 0
IsNoMore (Syntax line column) = ⊥
IsNoMore (Limit line which) = ⊥
IsNoMore Memory = ⊤

-- this fault is told, unless memory ran out
abbrev pub Tells : Fault → LangFault → Type 0
Tells fault (Syntax line column) = fault ≡ SyntaxAt line column
Tells fault (Limit line which) = fault ≡ LimitAt line which
Tells fault Memory = ⊤
