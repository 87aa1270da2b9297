-- A word is a name exactly where it is no keyword.
use Rattle.std.proofs.Common.{◌≡◌, ℕ, Bool, true, false, ◌||◌, ◌&&◌, if◌then◌else◌, List, [], ◌∷◌, map, Option, Some, refl, sym, ap, ◌∙◌}
use Rattle.std.specs.Prelude.{◌↔◌, bytes_eq}
use Rattle.std.specs.List.{find, list_any, list_all}
use Rattle.std.specs.Option.{unwrap_or}
use Rattle.run_specs.specs.Names.{keywords}
use Rattle.lang_specs.specs.declared.Kind.{Kind}
use Rattle.lang_specs.specs.declared.Kind.TheVariants.{Name}
use Rattle.lang_specs.specs.Words.{spelled, keyword_kinds, word_kind}
use Rattle.lang_specs.proofs.SplitLemmas.{apart, both_left, both_right}

abbrev is_keyword : Kind → Bool
is_keyword Name = false
is_keyword k = true

abbrev first_of_word : List ℕ → List Kind → Kind
first_of_word word ks = unwrap_or (find (λ k. bytes_eq word (spelled k)) ks) Name

none_here : (same any : Bool) (k : Kind) (others : Option Kind) → (any ≡ false → unwrap_or others Name ≡ Name) → (same || any) ≡ false →
    unwrap_or (if same then Some k else others) Name ≡ Name
none_here true any k others h e = apart e
none_here false any k others h e = h e

none_found : (word : List ℕ) (ks : List Kind) → list_any (bytes_eq word) (map spelled ks) ≡ false → first_of_word word ks ≡ Name
none_found word [] e = refl
none_found word (k ∷ ks) e =
    none_here (bytes_eq word (spelled k)) (list_any (bytes_eq word) (map spelled ks)) k (find (λ z. bytes_eq word (spelled z)) ks) (none_found word ks) e

not_here : (same any all : Bool) (k : Kind) (others : Option Kind) → (all ≡ true → unwrap_or others Name ≡ Name → any ≡ false) →
    (is_keyword k && all) ≡ true → unwrap_or (if same then Some k else others) Name ≡ Name → (same || any) ≡ false
not_here true any true k others h e f = apart (sym (both_left (is_keyword k) true e) ∙ ap is_keyword f)
not_here true any false k others h e f = apart (sym (both_right (is_keyword k) false e))
not_here false any all k others h e f = h (both_right (is_keyword k) all e) f

not_found : (word : List ℕ) (ks : List Kind) → list_all is_keyword ks ≡ true → first_of_word word ks ≡ Name →
    list_any (bytes_eq word) (map spelled ks) ≡ false
not_found word [] e f = refl
not_found word (k ∷ ks) e f =
    not_here (bytes_eq word (spelled k)) (list_any (bytes_eq word) (map spelled ks)) (list_all is_keyword ks) k (find (λ z. bytes_eq word (spelled z)) ks)
    (not_found word ks) e f

pub names_are : (word : List ℕ) → (word_kind word ≡ Name) ↔ (list_any (bytes_eq word) keywords ≡ false)
names_are word = (not_found word keyword_kinds refl, none_found word keyword_kinds)
