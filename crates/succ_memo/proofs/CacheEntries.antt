-- Entries of a cache that are looked up and moved to the front.
use Rattle.std.proofs.Common.{◌≡◌, Bool, true, false, List, [], ◌∷◌, All, Option, Some, None, refl, sym}
use Rattle.std.specs.Option.{option_map, option_map_or}
use Rattle.std.proofs.lemmas.List.Elements.{All-cons, All-head, All-tail}
use Rattle.std.specs.Map.{lookup, lookup_entry, remove_entry}
use Rattle.lru.specs.LruCache.{promoted}

module _ {K X : Type 0} (test : K → Bool) where
  -- a look-up gives the value of the entry
  pub lookup-entry : (es : List (K × X)) → lookup test es ≡ option_map (λ e. e.1) (lookup_entry test es)
  lookup-entry [] = refl
  lookup-entry (e ∷ es) = (elim (test e.0) as (λ y. test e.0 ≡ y → lookup test (e ∷ es) ≡ option_map (λ f. f.1) (lookup_entry test (e ∷ es))) [
    | true ↦ λ t. rw t refl
    | false ↦ λ t. rw t (lookup-entry es)
  ]) refl

  pub All-found : (P : K × X → Type 0) (es : List (K × X)) (e : K × X) → lookup_entry test es ≡ Some e → All P es → P e
  All-found P [] e h all = cc
  All-found P (f ∷ es) e h all = (elim (test f.0) as (λ y. test f.0 ≡ y → P e) [
    | true ↦ λ t. let h' = rw t at h in let same : f ≡ e = cc in rw (sym same) (All-head P f es all)
    | false ↦ λ t. All-found P es e (rw t at h) (All-tail P f es all)
  ]) refl

  pub All-removed : (P : K × X → Type 0) (es : List (K × X)) → All P es → All P (remove_entry test es)
  All-removed P [] all = all
  All-removed P (f ∷ es) all = (elim (test f.0) as (λ y. test f.0 ≡ y → All P (remove_entry test (f ∷ es))) [
    | true ↦ λ t. rw t (All-tail P f es all)
    | false ↦ λ t. rw t (All-cons P f (remove_entry test es) (All-head P f es all) (All-removed P es (All-tail P f es all)))
  ]) refl

  to_front : (P : K × X → Type 0) (es : List (K × X)) → All P es → (o : Option (K × X)) → lookup_entry test es ≡ o → All P (option_map_or (λ e. e ∷ remove_entry test es) o es)
  to_front P es all None h = all
  to_front P es all (Some e) h = All-cons P e (remove_entry test es) (All-found P es e h all) (All-removed P es all)

  pub All-promoted : (P : K × X → Type 0) (es : List (K × X)) → All P es → All P (promoted test es)
  All-promoted P es all = to_front P es all (lookup_entry test es) refl

  pub promoted-absent : (es : List (K × X)) → lookup_entry test es ≡ None → promoted test es ≡ es
  promoted-absent es h = rw h refl
