-- The automata of a text, or why it has none.
use Rattle.std.proofs.Common.{◌≡◌, ◌≢◌, ℕ, ◌<◌, ◌≤◌, List, [], ◌∷◌, length, map, Option, None, Some, Result, Ok, Err, refl, sym, ◌∙◌, subst, arith}
use Rattle.std.specs.Prelude.{IfSome, IfOk, IfErr}
use Rattle.run_specs.specs.Automaton.{Automaton}
use Rattle.model_specs.specs.Automata.{HasOneOfEachName}
use Rattle.report_loop.specs.Names.{AreNamedApart}
use Rattle.text_specs.specs.ModelTexts.{most_bytes, SaysAutomata, TextFault, TooLong, HasFault}
use Rattle.model_reader.specs.declared.faults.ModelFault.{ModelFault}
use Rattle.model_reader.specs.declared.faults.ModelFault.TheVariants.{Long}
use Rattle.model_reader.specs.Told.{told_of, IsMemory}
use Rattle.hamon_engine.specs.declared.models.NoModels.{NoModels}
use Rattle.hamon_engine.specs.declared.models.NoModels.TheVariants.{Refused, Failed, Memory}
use Rattle.hamon_engine.specs.Models.{AreModelsOf, IsRefusedFor, IsWhyRefused, IsWhyNot, LacksModels}

-- what holds of the bytes that were read holds of the text that is told
pub if_told : (P : List ℕ → Type 0) (o : Option (List ℕ)) (xs : List ℕ) → IfSome o (λ t. xs ≡ t) → P xs → IfSome o P
if_told P None xs e h = tt
if_told P (Some ys) xs e h = subst P e h

pub some_left : {A : Type 0} (xs : List A) → xs ≢ [] → 1 ≤ length xs
some_left [] h = absurd (h refl)
some_left (x ∷ xs) h = omega arith

pub some_seen : {A B : Type 0} (f : A → B) (xs : List A) → xs ≢ [] → 1 ≤ length (map f xs)
some_seen f [] h = absurd (h refl)
some_seen f (x ∷ xs) h = omega arith

one_fault : (told : Option TextFault) (f : TextFault) → told ≡ Some f → told ≡ None → ⊥
one_fault told f s n = let no : Some f ≡ None = sym s ∙ n in cc

-- a fault that is told of a text, which then says no automata
refused_for : (text : List ℕ) (fault : ModelFault) (f : TextFault) → told_of fault ≡ Some f → ((g : TextFault) → told_of fault ≡ Some g → HasFault text g) →
    ((automata : List Automaton) → SaysAutomata text automata → IsMemory fault) → IsRefusedFor f text
refused_for text fault f told has memory = record { has = has f told; none = λ automata says. one_fault (told_of fault) f told (memory automata says) }

pub why_not : (text : List ℕ) (fault : ModelFault) (why : NoModels) → IsWhyRefused fault why → ((g : TextFault) → told_of fault ≡ Some g → HasFault text g) →
    ((automata : List Automaton) → SaysAutomata text automata → IsMemory fault) → IsWhyNot text why
why_not text fault (Refused line) is has memory = record { fault = is.fault; told = is.told; holds = refused_for text fault is.fault is.holds has memory }
why_not text fault Failed is has memory = is
why_not text fault Memory is has memory = tt

pub lacks_read : (o : Option (List ℕ)) (f g : ℕ) (xs : List ℕ) (why : NoModels) → IfSome o (λ t. xs ≡ t) → IsWhyNot xs why → LacksModels o f g why
lacks_read o f g xs (Refused line) told is = record { fault = is.fault; told = is.told; holds = if_told (IsRefusedFor is.fault) o xs told is.holds }
lacks_read o f g xs Failed told is = absurd is
lacks_read o f g xs Memory told is = tt

-- a text that is too long says no automata
too_long : (text : List ℕ) → most_bytes < length text → IsRefusedFor TooLong text
too_long text long = record { has = long; none = λ automata says. let short = says.short in absurd (omega (arith, long, short)) }

if_long : (o : Option (List ℕ)) → IfSome o (λ t. most_bytes < length t) → IfSome o (IsRefusedFor TooLong)
if_long None h = tt
if_long (Some text) h = too_long text h

pub lacks_long : (o : Option (List ℕ)) (f g : ℕ) (why : NoModels) → IfSome o (λ t. most_bytes < length t) → IsWhyRefused Long why → LacksModels o f g why
lacks_long o f g (Refused line) long is = record {
  fault = is.fault;
  told = is.told;
  holds = subst (λ z. IfSome o (IsRefusedFor z)) (the_fault is.holds) (if_long o long);
}
  where
    the_fault : {a b : TextFault} → Some a ≡ Some b → a ≡ b
    the_fault e = cc
lacks_long o f g Failed long is = absurd is
lacks_long o f g Memory long is = tt

pub if_read : {A E : Type 0} (f : A → List Automaton) (r : Result A E) (o : Option (List ℕ)) (xs : List ℕ) → IfSome o (λ t. xs ≡ t) → IfOk r (λ v. AreModelsOf xs (f v)) →
    IfOk r (λ v. IfSome o (λ text. AreModelsOf text (f v)))
if_read f (Ok v) o xs told is = if_told (λ text. AreModelsOf text (f v)) o xs told is
if_read f (Err e) o xs told is = tt

pub if_lacks : {A : Type 0} (r : Result A NoModels) (o : Option (List ℕ)) (f g : ℕ) (xs : List ℕ) → IfSome o (λ t. xs ≡ t) → IfErr r (IsWhyNot xs) → IfErr r (LacksModels o f g)
if_lacks (Ok v) o f g xs told is = tt
if_lacks (Err e) o f g xs told is = lacks_read o f g xs e told is

-- a text's automata
pub are_models : (text : List ℕ) (automata : List Automaton) → SaysAutomata text automata → ((others : List Automaton) → SaysAutomata text others → automata ≡ others) → 1 ≤ length automata →
    HasOneOfEachName automata → AreModelsOf text automata
are_models text automata says only some names = record { says = says; only = λ others is. sym (only others is); some = some; names = names }

-- what check_log asks of the names of automata
pub named_apart : (automata : List Automaton) → HasOneOfEachName automata → AreNamedApart automata
named_apart automata names = record { names = names.0; variables = λ i a at. (names.1 i a at).variables }
