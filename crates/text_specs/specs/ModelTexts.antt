-- What a model's text says: the automata of the trees that it spells, or what is wrong with it and the line that tells it.
use Rattle.std.specs.Prelude.{◌≡◌, ℕ, ◌^◌, ◌<◌, ◌≤◌, List, [], ◌∷◌, ◌++◌, length, codes, decimal}
use Rattle.run_specs.specs.Automaton.{Automaton}
use Rattle.lang_specs.specs.declared.Which.{Which}
use Rattle.lang_specs.specs.declared.Which.TheVariants as which
use Rattle.lang_specs.specs.Trees.{Tree}
use Rattle.lang_specs.specs.FirstFault.{IsSpelling, Fault, SyntaxAt, LimitAt, IsFirstFault}
use Rattle.model_specs.specs.Automata.{automata_of}
use Rattle.model_specs.specs.Faults.{ModelFault, UnknownName, RepeatedName, MissingSlope, EmptyBox, Passes, faults_of}

-- the most bytes of a model's text
abbrev pub most_bytes : ℕ
most_bytes = 2 ^ 20

-- the text says these automata: it spells trees without a fault, and the automata are theirs, in the order of the text
pub record SaysAutomata (text : List ℕ) (automata : List Automaton) : Type 0 where
  pub short : length text ≤ most_bytes
  pub trees : List Tree
  pub spelled : IsSpelling text trees
  pub sound : faults_of trees ≡ []
  pub made : automata ≡ automata_of trees

-- ---- what is wrong with a text

pub data TextFault : Type 0 where
  -- it has too many bytes
  TooLong : TextFault
  -- it spells no trees
  Misspelt : Fault → TextFault
  -- it spells trees, with a fault
  Unsound : ModelFault → TextFault

-- the first fault of the trees that a text spells
pub record IsUnsound (text : List ℕ) (fault : ModelFault) : Type 0 where
  pub trees : List Tree
  pub rest : List ModelFault
  pub spelled : IsSpelling text trees
  pub faults : faults_of trees ≡ fault ∷ rest

-- this is what is wrong with the text
abbrev pub HasFault : List ℕ → TextFault → Type 0
HasFault text TooLong = most_bytes < length text
HasFault text (Misspelt fault) = (length text ≤ most_bytes) × IsFirstFault text fault
HasFault text (Unsound fault) = (length text ≤ most_bytes) × IsUnsound text fault

-- ---- how it is told

-- the word of a limit
abbrev pub limit_word : Which → List ℕ
limit_word which.Automata = codes "automata"
limit_word which.Variables = codes "variables"
limit_word which.Locations = codes "locations"
limit_word which.Transitions = codes "transitions"
limit_word which.Rows = codes "rows"
limit_word which.Terms = codes "terms"
limit_word which.NameBytes = codes "name"
limit_word which.Digits = codes "digits"

-- `3:4 syntax`, by line and column, and `7 limit rows`
abbrev pub spelling_told : Fault → List ℕ
spelling_told (SyntaxAt line column) = decimal line ++ codes ":" ++ decimal column ++ codes " syntax"
spelling_told (LimitAt line limit) = decimal line ++ codes " limit " ++ limit_word limit

-- `11 unknown hot`, by line, word and name
abbrev pub soundness_told : ModelFault → List ℕ
soundness_told (UnknownName line name) = decimal line ++ codes " unknown " ++ name
soundness_told (RepeatedName line name) = decimal line ++ codes " repeated " ++ name
soundness_told (MissingSlope line name) = decimal line ++ codes " slope " ++ name
soundness_told (EmptyBox line name) = decimal line ++ codes " box " ++ name
soundness_told (Passes line name) = decimal line ++ codes " passes " ++ name

abbrev pub told : TextFault → List ℕ
told TooLong = codes "long"
told (Misspelt fault) = spelling_told fault
told (Unsound fault) = soundness_told fault

-- the line that tells what is wrong with a model's text
abbrev pub fault_line : TextFault → List ℕ
fault_line fault = codes "hamon: model: " ++ told fault ++ codes "\n"
