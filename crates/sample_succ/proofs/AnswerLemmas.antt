-- What is found answers the key.
use Rattle.std.proofs.Common.{◌≡◌, List, [], ◌∷◌, refl, sym, ap, subst}
use Rattle.std.proofs.lemmas.List.Elements.{All-map}
use Rattle.run_specs.specs.Automaton.{width}
use Rattle.run_specs.specs.Keys.{Key}
use Rattle.run_specs.specs.Outcomes.{AreExact, KeyPasses}
use Rattle.gap_keys.specs.declared.outcomes.Outcome.TheVariants as outcome
use Rattle.gap_keys.specs.Answering.{IsAnswer}
use Rattle.gap_keys.specs.Views as views
use Rattle.gap_keys.specs.Views.{ItemView}
use Rattle.sample_succ.specs.declared.finding.Found.{Found}
use Rattle.sample_succ.specs.Covers.{items_of, view_of, views_of, AreWide}

shown : (fs : List Found) → items_of fs ≡ views.items_of (views_of fs)
shown [] = refl
shown (f ∷ fs) = ap (λ xs. (view_of f).item ∷ xs) (shown fs)

pub items_answer : (key : Key) (fs : List Found) (xs : List ItemView) → xs ≡ views_of fs → AreExact key (items_of fs) → AreWide (width key.automaton) fs → IsAnswer key (outcome.Next xs)
items_answer key fs xs same exact wide = subst (λ ys. IsAnswer key (outcome.Next ys)) (sym same) (record {
  exact = subst (AreExact key) (shown fs) exact;
  wide = All-map (λ (x : ItemView). x.width ≡ width key.automaton) view_of fs wide;
})

pub passes_answer : (key : Key) → KeyPasses key → IsAnswer key outcome.Overflow
passes_answer key passes = record { exact = passes; wide = tt }
