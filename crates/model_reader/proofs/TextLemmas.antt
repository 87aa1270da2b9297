-- What the automata of a text are, and that a text has automata or one fault.
use Rattle.std.proofs.Common.{◌≡◌, ◌≢◌, ℕ, List, [], ◌∷◌, map, refl, sym, ap, ◌∙◌, subst, arith}
use Rattle.std.specs.Prelude.{All}
use Rattle.run_specs.specs.Automaton.{Automaton}
use Rattle.run_specs.specs.WellFormed.{IsWellFormed}
use Rattle.lang_specs.specs.Trees.{Tree}
use Rattle.lang_specs.specs.Expressions.{IsSome}
use Rattle.lang_specs.proofs.FaultLemmas.{none_beside, one_first}
use Rattle.lang_specs.proofs.TextSplits.{one_tree_list}
use Rattle.model_specs.specs.Automata.{automaton_of, HasOneOfEachName}
use Rattle.model_specs.specs.Faults.{ModelFault, faults_of}
use Rattle.model_specs.proofs.NoFaultLemmas.{names_once}
use Rattle.model_specs.proofs.WellFormedLemmas.{spelled_well}
use Rattle.text_specs.specs.ModelTexts.{SaysAutomata, TextFault, TooLong, Misspelt, Unsound, HasFault, IsUnsound}

-- ---- automata

some_automata : (trees : List Tree) → IsSome trees → map automaton_of trees ≢ []
some_automata [] some none = some
some_automata (t ∷ ts) some none = let b : ⊥ = cc in b

pub says_some : (text : List ℕ) (automata : List Automaton) → SaysAutomata text automata → automata ≢ []
says_some text automata s none =
    let (second, first_line, last_line, rest, e, some, order) = s.spelled.spelled in
    some_automata s.trees some (sym s.made ∙ none)

pub says_formed : (text : List ℕ) (automata : List Automaton) → SaysAutomata text automata → All IsWellFormed automata
says_formed text automata s = subst (λ (a : List Automaton). All IsWellFormed a) (sym s.made) (spelled_well text s.trees s.spelled s.sound)

pub says_named : (text : List ℕ) (automata : List Automaton) → SaysAutomata text automata → HasOneOfEachName automata
says_named text automata s = subst HasOneOfEachName (sym s.made) (names_once s.trees s.sound)

-- a text says one list of automata
pub says_one : (text : List ℕ) (automata others : List Automaton) → SaysAutomata text automata → SaysAutomata text others → automata ≡ others
says_one text automata others s t =
    s.made ∙ ap (map automaton_of) (one_tree_list text s.trees t.trees s.spelled t.spelled) ∙ sym t.made

-- ---- faults

-- trees without a fault have no first one
not_both : (trees others : List Tree) (fault : ModelFault) (rest : List ModelFault) → trees ≡ others → faults_of trees ≡ [] →
    faults_of others ≡ fault ∷ rest → ⊥
not_both trees others fault rest same none one = let e : [] ≡ fault ∷ rest = sym none ∙ ap faults_of same ∙ one in cc

-- where a text says automata, nothing is wrong with it
pub says_or_fails : (text : List ℕ) (automata : List Automaton) (fault : TextFault) → SaysAutomata text automata → HasFault text fault → ⊥
says_or_fails text automata TooLong s long = let short = s.short in omega (arith, short, long)
says_or_fails text automata (Misspelt fault) s h = none_beside text s.trees fault s.spelled h.1
says_or_fails text automata (Unsound fault) s h =
    not_both s.trees h.1.trees fault h.1.rest (one_tree_list text s.trees h.1.trees s.spelled h.1.spelled) s.sound h.1.faults

one_unsound : (text : List ℕ) (f g : ModelFault) → IsUnsound text f → IsUnsound text g → f ≡ g
one_unsound text f g h k =
    let e : f ∷ h.rest ≡ g ∷ k.rest = sym h.faults ∙ ap faults_of (one_tree_list text h.trees k.trees h.spelled k.spelled) ∙ k.faults in cc

-- a text has at most one fault
pub one_fault : (text : List ℕ) (f g : TextFault) → HasFault text f → HasFault text g → f ≡ g
one_fault text TooLong TooLong h k = refl
one_fault text TooLong (Misspelt g) h k = let short = k.0 in absurd (omega (arith, h, short))
one_fault text TooLong (Unsound g) h k = let short = k.0 in absurd (omega (arith, h, short))
one_fault text (Misspelt f) TooLong h k = let short = h.0 in absurd (omega (arith, k, short))
one_fault text (Misspelt f) (Misspelt g) h k = ap Misspelt (one_first text f g h.1 k.1)
one_fault text (Misspelt f) (Unsound g) h k = absurd (none_beside text k.1.trees f k.1.spelled h.1)
one_fault text (Unsound f) TooLong h k = let short = h.0 in absurd (omega (arith, k, short))
one_fault text (Unsound f) (Misspelt g) h k = absurd (none_beside text h.1.trees g h.1.spelled k.1)
one_fault text (Unsound f) (Unsound g) h k = ap Unsound (one_unsound text f g h.1 k.1)
