-- A text says one thing.
use Rattle.std.proofs.Common.{◌≡◌, ℕ, ◌<◌, ◌≤◌, List, [], ◌∷◌, length, refl, sym, ◌∙◌, ap, arith}
use Rattle.run_specs.specs.Automaton.{Automaton}
use Rattle.lang_specs.proofs.FaultLemmas.{none_beside, one_first}
use Rattle.lang_specs.proofs.TextSplits.{one_tree_list}
use Rattle.model_specs.specs.Automata.{automata_of}
use Rattle.model_specs.specs.Faults.{ModelFault, faults_of}
use Rattle.text_specs.specs.ModelTexts.{most_bytes, SaysAutomata, TextFault, TooLong, Misspelt, Unsound, IsUnsound, HasFault}

pub one_list : (text : List ℕ) (automata others : List Automaton) → SaysAutomata text automata → SaysAutomata text others → automata ≡ others
one_list text automata others a b = a.made ∙ ap automata_of (one_tree_list text a.trees b.trees a.spelled b.spelled) ∙ sym b.made

-- a text is too long or it is not
not_both : (text : List ℕ) → most_bytes < length text → length text ≤ most_bytes → ⊥
not_both text long short = omega (arith, long, short)

first_is : (f g : ModelFault) (fs gs : List ModelFault) → f ∷ fs ≡ g ∷ gs → f ≡ g
first_is f g fs gs e = cc

one_unsound : (text : List ℕ) (f g : ModelFault) → IsUnsound text f → IsUnsound text g → f ≡ g
one_unsound text f g a b = first_is f g a.rest b.rest (sym a.faults ∙ ap faults_of (one_tree_list text a.trees b.trees a.spelled b.spelled) ∙ b.faults)

pub one_of_faults : (text : List ℕ) (fault other : TextFault) → HasFault text fault → HasFault text other → fault ≡ other
one_of_faults text TooLong TooLong a b = refl
one_of_faults text (Misspelt f) (Misspelt g) a b = ap Misspelt (one_first text f g a.1 b.1)
one_of_faults text (Unsound f) (Unsound g) a b = ap Unsound (one_unsound text f g a.1 b.1)
one_of_faults text TooLong (Misspelt g) a b = absurd (not_both text a b.0)
one_of_faults text TooLong (Unsound g) a b = absurd (not_both text a b.0)
one_of_faults text (Misspelt f) TooLong a b = absurd (not_both text b a.0)
one_of_faults text (Unsound f) TooLong a b = absurd (not_both text b a.0)
one_of_faults text (Misspelt f) (Unsound g) a b = absurd (none_beside text b.1.trees f b.1.spelled a.1)
one_of_faults text (Unsound f) (Misspelt g) a b = absurd (none_beside text a.1.trees g a.1.spelled b.1)

some_fault : (f : ModelFault) (fs : List ModelFault) → f ∷ fs ≡ [] → ⊥
some_fault f fs e = cc

pub none_beside_automata : (text : List ℕ) (automata : List Automaton) (fault : TextFault) → SaysAutomata text automata → HasFault text fault → ⊥
none_beside_automata text automata TooLong s f = not_both text f s.short
none_beside_automata text automata (Misspelt g) s f = none_beside text s.trees g s.spelled f.1
none_beside_automata text automata (Unsound g) s f =
    some_fault g f.1.rest (sym f.1.faults ∙ ap faults_of (one_tree_list text f.1.trees s.trees f.1.spelled s.spelled) ∙ s.sound)
