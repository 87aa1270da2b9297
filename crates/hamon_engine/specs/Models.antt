-- The automata of a model, or why there are none.
use Rattle.std.specs.Prelude.{◌≡◌, ℕ, ◌≤◌, List, length, Option, Some, IfSome, ⊤}
use Rattle.run_specs.specs.Automaton.{Automaton}
use Rattle.model_specs.specs.Automata.{HasOneOfEachName}
use Rattle.mon_io.specs.Faults.{Rose}
use Rattle.text_specs.specs.ModelTexts.{SaysAutomata, TextFault, HasFault, fault_line}
use Rattle.model_reader.specs.declared.faults.ModelFault.{ModelFault}
use Rattle.model_reader.specs.Told.{told_of}
use Rattle.hamon_engine.specs.declared.models.NoModels.{NoModels}
use Rattle.hamon_engine.specs.declared.models.NoModels.TheVariants.{Refused, Failed, Memory}

-- the text says these automata, and no others
pub record AreModelsOf (text : List ℕ) (automata : List Automaton) : Type 0 where
  pub says : SaysAutomata text automata
  pub only : (others : List Automaton) → SaysAutomata text others → others ≡ automata
  pub some : 1 ≤ length automata
  pub names : HasOneOfEachName automata

-- the text has this fault, and says no automata
pub record IsRefusedFor (fault : TextFault) (text : List ℕ) : Type 0 where
  pub has : HasFault text fault
  pub none : (automata : List Automaton) → SaysAutomata text automata → ⊥

-- the line tells a fault
pub record TellsFault (P : TextFault → Type 0) (line : List ℕ) : Type 0 where
  pub fault : TextFault
  pub told : line ≡ fault_line fault
  pub holds : P fault

-- a fault of a text, as a run tells it
abbrev pub IsWhyRefused : ModelFault → NoModels → Type 0
IsWhyRefused fault (Refused line) = TellsFault (λ f. told_of fault ≡ Some f) line.items
IsWhyRefused fault Failed = ⊥
IsWhyRefused fault Memory = ⊤

-- why a text has no automata: it is refused, or memory was wanted
abbrev pub IsWhyNot : List ℕ → NoModels → Type 0
IsWhyNot text (Refused line) = TellsFault (λ fault. IsRefusedFor fault text) line.items
IsWhyNot text Failed = ⊥
IsWhyNot text Memory = ⊤

-- the same of the text of a shelf, where it is told; the shelf may have failed too
abbrev pub LacksModels : Option (List ℕ) → ℕ → ℕ → NoModels → Type 0
LacksModels told before now (Refused line) = TellsFault (λ fault. IfSome told (IsRefusedFor fault)) line.items
LacksModels told before now Failed = Rose before now
LacksModels told before now Memory = ⊤
