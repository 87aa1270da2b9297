-- The pairs that a cache shows: look-ups, promotion and puts of the cache are those of the pairs.
use Rattle.std.proofs.Common.{◌≡◌, ℕ, ◌-◌, ◌<◌, Bool, true, false, List, [], ◌∷◌, length, take, All, Option, Some, None, is_some, Result, Ok, Err, OnOk, take_all, ◌^◌, refl, sym, ap, ◌∙◌, arith}
use Rattle.std.specs.Option.{option_map, option_map_or, unwrap_or}
use Rattle.std.proofs.lemmas.List.{take-map}
use Rattle.std.specs.declared.sync.Arc.{Arc}
use Rattle.std.specs.Arc.{arc_value}
use Rattle.std.specs.Map.{keys_of, lookup, lookup_entry, remove_entry}
use Rattle.lru.specs.LruCache.{lru_cache, promoted, put_entries}
use Rattle.succ_memo.specs.Memo.{entries_kept}
use Rattle.succ_memo.specs.Stored.{Cached, Cache, shown_pairs}
use Rattle.succ_memo.proofs.CacheEntries.{lookup-entry, All-found}

module _ {K V A : Type 0} where
  abbrev held : Arc (K × V) A → K × V
  held entry = arc_value entry

  module _ (test : K → Bool) where
    abbrev pair : Cached K V A → K × V
    pair e = (e.0, (held e.1).1)

    pub lookup_entry-shown : (es : List (Cached K V A)) → lookup_entry test (shown_pairs es) ≡ option_map (λ e. (e.0, (held e.1).1)) (lookup_entry test es)
    lookup_entry-shown [] = refl
    lookup_entry-shown (e ∷ es) = (elim (test e.0) as (λ y. test e.0 ≡ y → lookup_entry test (shown_pairs (e ∷ es)) ≡ option_map pair (lookup_entry test (e ∷ es))) [
      | true ↦ λ t. rw t refl
      | false ↦ λ t. rw t (lookup_entry-shown es)
    ]) refl

    pub remove_entry-shown : (es : List (Cached K V A)) → remove_entry test (shown_pairs es) ≡ shown_pairs (remove_entry test es)
    remove_entry-shown [] = refl
    remove_entry-shown (e ∷ es) = (elim (test e.0) as (λ y. test e.0 ≡ y → remove_entry test (shown_pairs (e ∷ es)) ≡ shown_pairs (remove_entry test (e ∷ es))) [
      | true ↦ λ t. rw t refl
      | false ↦ λ t. rw t (ap (λ xs. pair e ∷ xs) (remove_entry-shown es))
    ]) refl

    front_shown : (es : List (Cached K V A)) (o : Option (Cached K V A)) → lookup_entry test es ≡ o → promoted test (shown_pairs es) ≡ shown_pairs (option_map_or (λ e. e ∷ remove_entry test es) o es)
    front_shown es None h = rw (lookup_entry-shown es, h) refl
    front_shown es (Some e) h = rw (lookup_entry-shown es, h) (ap (λ xs. pair e ∷ xs) (remove_entry-shown es))

    pub promoted-shown : (es : List (Cached K V A)) → promoted test (shown_pairs es) ≡ shown_pairs (promoted test es)
    promoted-shown es = front_shown es (lookup_entry test es) refl

    -- what a look-up finds is the pair that is held, where each key is that of what is held beside it
    found_pair : (es : List (Cached K V A)) → All (λ e. e.0 ≡ (held e.1).0) es → (o : Option (Cached K V A)) → lookup_entry test es ≡ o → option_map (λ e. held e.1) o ≡ option_map pair o
    found_pair es all None h = refl
    found_pair es all (Some e) h = ap (λ k. Some (k, (held e.1).1)) (sym (All-found test (λ e. e.0 ≡ (held e.1).0) es e h all))

    pub arc_value-lookup : (es : List (Cached K V A)) → All (λ e. e.0 ≡ (held e.1).0) es → option_map held (lookup test es) ≡ lookup_entry test (shown_pairs es)
    arc_value-lookup es all = rw (lookup-entry test es, lookup_entry-shown es) (through (lookup_entry test es) ∙ found_pair es all (lookup_entry test es) refl) where
      through : (o : Option (Cached K V A)) → option_map held (option_map (λ e. e.1) o) ≡ option_map (λ e. held e.1) o
      through None = refl
      through (Some e) = refl

  pub keys_of-shown : (es : List (Cached K V A)) → keys_of (shown_pairs es) ≡ keys_of es
  keys_of-shown [] = refl
  keys_of-shown (e ∷ es) = ap (λ ks. e.0 ∷ ks) (keys_of-shown es)

  module _ (test : K → Bool) where
    by_entry : (es : List (Cached K V A)) (o : Option (Cached K V A)) → lookup_entry test es ≡ o → is_some (lookup test es) ≡ is_some (lookup_entry test (shown_pairs es))
    by_entry es None h = rw (lookup-entry test es, lookup_entry-shown test es, h) refl
    by_entry es (Some e) h = rw (lookup-entry test es, lookup_entry-shown test es, h) refl

    pub is_some-shown : (es : List (Cached K V A)) → is_some (lookup test es) ≡ is_some (lookup_entry test (shown_pairs es))
    is_some-shown es = by_entry es (lookup_entry test es) refl

    pub entry-absent : (es : List (Cached K V A)) → is_some (lookup test es) ≡ false → lookup_entry test es ≡ None
    entry-absent es h = (elim (lookup_entry test es) as (λ o. lookup_entry test es ≡ o → o ≡ None) [
      | None ↦ λ is. refl
      | Some e ↦ λ is. let found : is_some (lookup test es) ≡ true = rw (lookup-entry test es, is) refl in absurd (let t : true ≡ false = sym found ∙ h in cc)
    ]) refl

    pub put-present : (es : List (Cached K V A)) (ys zs : List (K × V)) → is_some (lookup test es) ≡ true → option_map_or (λ _. ys) (lookup_entry test (shown_pairs es)) zs ≡ ys
    put-present es ys zs h = (elim (lookup_entry test (shown_pairs es)) as (λ o. lookup_entry test (shown_pairs es) ≡ o → option_map_or (λ _. ys) o zs ≡ ys) [
      | None ↦ λ is. let found : is_some (lookup_entry test (shown_pairs es)) ≡ true = sym (is_some-shown es) ∙ h in absurd (let t : false ≡ true = rw is at found in cc)
      | Some e ↦ λ is. refl
    ]) refl

    pub put-absent : (es : List (Cached K V A)) (ys zs : List (K × V)) → lookup_entry test es ≡ None → option_map_or (λ _. ys) (lookup_entry test (shown_pairs es)) zs ≡ zs
    put-absent es ys zs h = rw (lookup_entry-shown test es, h) refl

  module _ (eq : K → K → Bool) where
    kept_shown : (most : Option ℕ) (c : Cache K V A) → c.cap ≡ unwrap_or most (2 ^ 64 - 1) → length c.entries < 2 ^ 63 → shown_pairs (take (c.cap - 1) c.entries) ≡ entries_kept most (shown_pairs c.entries)
    kept_shown None c room short = ap shown_pairs (take_all (c.cap - 1) c.entries (rw room (omega (arith, short))))
    kept_shown (Some n) c room short = rw room (sym (take-map (λ e. (e.0, (held e.1).1)) (n - 1) c.entries))

    pub put_entries-shown : (most : Option ℕ) (c : Cache K V A) (h : Arc (K × V) A) → lookup_entry (eq (held h).0) c.entries ≡ None → c.cap ≡ unwrap_or most (2 ^ 64 - 1) → length c.entries < 2 ^ 63
        → shown_pairs (put_entries eq c (held h).0 h) ≡ held h ∷ entries_kept most (shown_pairs c.entries)
    put_entries-shown most c h absent room short = rw absent (ap (λ es. held h ∷ es) (kept_shown most c room short))

  pub moved-shown : {X E : Type 0} (test : K → Bool) (r : Result X E) (old new : Cache K V A) → OnOk r (new ≡ lru_cache (promoted test old.entries) old.cap) → OnOk r (shown_pairs new.entries ≡ promoted test (shown_pairs old.entries))
  moved-shown test (Ok x) old new moved = rw moved (sym (promoted-shown test old.entries))
  moved-shown test (Err e) old new moved = tt
