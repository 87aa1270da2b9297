-- Which fault of a text is told.
use Rattle.std.proofs.Common.{◌≡◌, ◌⊎◌, inl, inr, ℕ, ◌≤◌, List, length, Option, Some, None, refl, ap, subst}
use Rattle.run_specs.specs.Automaton.{Automaton}
use Rattle.lang_specs.specs.Trees.{Tree}
use Rattle.lang_specs.specs.FirstFault.{IsSpelling, SyntaxAt, LimitAt}
use Rattle.model_specs.specs.Faults as faults
use Rattle.model_specs.specs.Faults.{faults_of}
use Rattle.text_specs.specs.ModelTexts.{most_bytes, SaysAutomata, TextFault, Misspelt, Unsound, HasFault}
use Rattle.lang_texts.specs.declared.texts.LangFault.{LangFault}
use Rattle.lang_texts.specs.declared.texts.LangFault.TheVariants as lang
use Rattle.lang_texts.specs.Reading.{IsTextFault}
use Rattle.lha_check.specs.declared.faults.CheckFault.{CheckFault}
use Rattle.lha_check.specs.declared.faults.CheckFault.TheVariants as check
use Rattle.lha_check.specs.Told.{told, IsFirst}
use Rattle.model_reader.specs.declared.faults.ModelFault.{ModelFault}
use Rattle.model_reader.specs.Told.{told_of, IsMemory, Tells, of_spelling, of_trees}
use Rattle.model_reader.proofs.TextLemmas.{says_or_fails, one_fault}

-- what is told is wrong with the text
abbrev pub IsRight : List ℕ → ModelFault → Type 0
IsRight text e = (f : TextFault) → told_of e ≡ Some f → HasFault text f

-- ---- faults of the layers below

pub spelling_right : (text : List ℕ) (e : LangFault) → length text ≤ most_bytes → IsTextFault text e → IsRight text (of_spelling e)
spelling_right text (lang.Syntax line column) short h f is =
    let same : Misspelt (SyntaxAt line column) ≡ f = cc in subst (HasFault text) same (short, h)
spelling_right text (lang.Limit line which) short h f is =
    let same : Misspelt (LimitAt line which) ≡ f = cc in subst (HasFault text) same (short, h)
spelling_right text lang.Memory short h f is = absurd (let b : ⊥ = cc in b)

-- the first fault of the trees is wrong with their text
first_right : (text : List ℕ) (trees : List Tree) (e : CheckFault) (g : faults.ModelFault) (f : TextFault) → length text ≤ most_bytes → IsSpelling text trees →
    IsFirst (faults_of trees) e → told e ≡ Some g → Unsound g ≡ f → HasFault text f
first_right text trees e g f short spelled first is same =
    let both = first.begins g is in
    subst (HasFault text) same (short, record { trees = trees; rest = both.0; spelled = spelled; faults = both.1 })

pub trees_right : (text : List ℕ) (trees : List Tree) (e : CheckFault) → length text ≤ most_bytes → IsSpelling text trees → IsFirst (faults_of trees) e →
    IsRight text (of_trees e)
trees_right text trees (check.UnknownName line name) short spelled first f is = first_right text trees _ (faults.UnknownName line name) f short spelled first refl (cc)
trees_right text trees (check.RepeatedName line name) short spelled first f is = first_right text trees _ (faults.RepeatedName line name) f short spelled first refl (cc)
trees_right text trees (check.MissingSlope line name) short spelled first f is = first_right text trees _ (faults.MissingSlope line name) f short spelled first refl (cc)
trees_right text trees (check.EmptyBox line name) short spelled first f is = first_right text trees _ (faults.EmptyBox line name) f short spelled first refl (cc)
trees_right text trees (check.Passes line name) short spelled first f is = first_right text trees _ (faults.Passes line name) f short spelled first refl (cc)
trees_right text trees check.Memory short spelled first f is = absurd (let b : ⊥ = cc in b)

-- ---- what a caller is told

-- of a text that says automata nothing can be told but want of memory
only_memory : (text : List ℕ) (automata : List Automaton) (o : Option TextFault) → SaysAutomata text automata →
    ((f : TextFault) → o ≡ Some f → HasFault text f) → o ≡ None
only_memory text automata None s right = refl
only_memory text automata (Some f) s right = absurd (says_or_fails text automata f s (right f refl))

pub memory_alone : (text : List ℕ) (automata : List Automaton) (e : ModelFault) → SaysAutomata text automata → IsRight text e → IsMemory e
memory_alone text automata e s right = only_memory text automata (told_of e) s right

the_fault : (text : List ℕ) (f : TextFault) (o : Option TextFault) → HasFault text f → ((g : TextFault) → o ≡ Some g → HasFault text g) →
    (o ≡ Some f) ⊎ (o ≡ None)
the_fault text f None h right = inr refl
the_fault text f (Some g) h right = inl (ap Some (one_fault text g f (right g refl) h))

pub tells_it : (text : List ℕ) (f : TextFault) (e : ModelFault) → HasFault text f → IsRight text e → Tells f e
tells_it text f e h right = the_fault text f (told_of e) h right
