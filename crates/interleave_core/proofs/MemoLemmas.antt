-- What the memo's calls say of the entries that a world has.
use Rattle.std.proofs.Common.{◌≡◌, ◌↔◌, ◌⊎◌, inl, inr, Bool, true, false, cond, List, [], ◌∷◌, map, Option, Some, None, refl, sym, ◌∙◌, ap, subst}
use Rattle.std.specs.Prelude.{IsTrue, is_some}
use Rattle.std.specs.List.{AllByRecursion, IsDistinct}
use Rattle.std.specs.Option.{option_map_or}
use Rattle.std.specs.Map.{keys_of, lookup_entry, remove_entry}
use Rattle.std.proofs.lemmas.Map.Keys.{IsDistinct-head, IsDistinct-tail}
use Rattle.lru.specs.LruCache.{promoted}
use Rattle.poly_specs.specs.Lists.{In, IsAmong}
use Rattle.run_specs.specs.Keys.{Key}
use Rattle.run_specs.specs.SessionHistories.{Entry}
use Rattle.run_specs.specs.Worlds.{HasKey, KeysDiffer, SameEntries, IsPut}
use Rattle.gap_keys.specs.declared.outcomes.Outcome.{Outcome}
use Rattle.live_session.specs.Entries.{entry_of}
use Rattle.succ_memo.specs.Memo.{Memo, entries_after_put, memo_after_put}

-- ---- an entry that goes first

remove_in : (test : Key → Bool) (es : List (Key × Outcome)) (e : Entry) → In e (map entry_of (remove_entry test es)) → In e (map entry_of es)
remove_in test [] e i = i
remove_in test (x ∷ es) e i = go (remove_in test es e) (test x.0) i
  where
    go : (In e (map entry_of (remove_entry test es)) → In e (map entry_of es)) → (b : Bool) → In e (map entry_of (cond b es (x ∷ remove_entry test es))) → In e (map entry_of (x ∷ es))
    go on true j = inr j
    go on false (inl s) = inl s
    go on false (inr j) = inr (on j)

in_remove : (test : Key → Bool) (es : List (Key × Outcome)) (x : Key × Outcome) (e : Entry) → lookup_entry test es ≡ Some x → In e (map entry_of es) →
    (e ≡ entry_of x) ⊎ In e (map entry_of (remove_entry test es))
in_remove test [] x e h i = absurd i
in_remove test (y ∷ es) x e h i = go (in_remove test es x e) (test y.0) h i
  where
    go : (lookup_entry test es ≡ Some x → In e (map entry_of es) → (e ≡ entry_of x) ⊎ In e (map entry_of (remove_entry test es))) →
        (b : Bool) → cond b (Some y) (lookup_entry test es) ≡ Some x → In e (map entry_of (y ∷ es)) → (e ≡ entry_of x) ⊎ In e (map entry_of (cond b es (y ∷ remove_entry test es)))
    go on true f (inl s) = let same : y ≡ x = cc in inl (s ∙ ap entry_of same)
    go on true f (inr j) = inr j
    go on false f (inl s) = inr (inl s)
    go on false f (inr j) = elim (on f j) [ inl s ↦ inl s | inr k ↦ inr (inr k) ]

looked_in : (test : Key → Bool) (es : List (Key × Outcome)) (x : Key × Outcome) → lookup_entry test es ≡ Some x → In (entry_of x) (map entry_of es)
looked_in test [] x h = absurd (let b : ⊥ = cc in b)
looked_in test (y ∷ es) x h = go (looked_in test es x) (test y.0) h
  where
    go : (lookup_entry test es ≡ Some x → In (entry_of x) (map entry_of es)) → (b : Bool) → cond b (Some y) (lookup_entry test es) ≡ Some x → In (entry_of x) (map entry_of (y ∷ es))
    go on true f = let same : y ≡ x = cc in inl (ap entry_of (sym same))
    go on false f = inr (on f)

abbrev first : (Key → Bool) → List (Key × Outcome) → Option (Key × Outcome) → List (Key × Outcome)
first test es o = option_map_or (λ e. e ∷ remove_entry test es) o es

promoted_kept : (test : Key → Bool) (es : List (Key × Outcome)) → IsAmong (map entry_of es) (map entry_of (promoted test es))
promoted_kept test es e i = go (lookup_entry test es) refl
  where
    go : (o : Option (Key × Outcome)) → lookup_entry test es ≡ o → In e (map entry_of (first test es o))
    go None h = i
    go (Some x) h = in_remove test es x e h i

promoted_among : (test : Key → Bool) (es : List (Key × Outcome)) → IsAmong (map entry_of (promoted test es)) (map entry_of es)
promoted_among test es e i = go (lookup_entry test es) refl i
  where
    go : (o : Option (Key × Outcome)) → lookup_entry test es ≡ o → In e (map entry_of (first test es o)) → In e (map entry_of es)
    go None h j = j
    go (Some x) h (inl s) = subst (λ y. In y (map entry_of es)) (sym s) (looked_in test es x h)
    go (Some x) h (inr j) = remove_in test es e j

-- ---- what was found

pub none_there : {A : Type 0} (o : Option A) → is_some o ≡ false → o ≡ None
none_there None e = refl
none_there (Some x) e = absurd (let b : ⊥ = cc in b)

pub some_there : {A : Type 0} (o : Option A) → is_some o ≡ true → (x : A) × (o ≡ Some x)
some_there None e = absurd (let b : ⊥ = cc in b)
some_there (Some x) e = (x, refl)

-- ---- by an equality of keys

module _ (eq : Key → Key → Bool) (exact : (x y : Key) → IsTrue (eq x y) ↔ (x ≡ y)) where
  found_key : (key : Key) (es : List (Key × Outcome)) (x : Key × Outcome) → lookup_entry (eq key) es ≡ Some x → x.0 ≡ key
  found_key key [] x h = absurd (let b : ⊥ = cc in b)
  found_key key (y ∷ es) x h = go (found_key key es x) (eq key y.0) refl h
    where
      go : (lookup_entry (eq key) es ≡ Some x → x.0 ≡ key) → (b : Bool) → eq key y.0 ≡ b → cond b (Some y) (lookup_entry (eq key) es) ≡ Some x → x.0 ≡ key
      go on true t f = let same : y ≡ x = cc in ap (λ (z : Key × Outcome). z.0) (sym same) ∙ sym ((exact key y.0).0 t)
      go on false t f = on f

  pub found : (key : Key) (es : List (Key × Outcome)) (x : Key × Outcome) → lookup_entry (eq key) es ≡ Some x → (x.0 ≡ key) × In (entry_of x) (map entry_of es)
  found key es x h = (found_key key es x h, looked_in (eq key) es x h)

  pub has_key : (key : Key) (es : List (Key × Outcome)) (x : Key × Outcome) → lookup_entry (eq key) es ≡ Some x → HasKey key (map entry_of es)
  has_key key es x h = (entry_of x, looked_in (eq key) es x h, found_key key es x h)

  pub lacks : (key : Key) (es : List (Key × Outcome)) → lookup_entry (eq key) es ≡ None → HasKey key (map entry_of es) → ⊥
  lacks key [] h (e, i, k) = i
  lacks key (y ∷ es) h (e, i, k) = go (λ f j. lacks key es f (e, j, k)) (eq key y.0) refl h i
    where
      go : (lookup_entry (eq key) es ≡ None → In e (map entry_of es) → ⊥) → (b : Bool) → eq key y.0 ≡ b → cond b (Some y) (lookup_entry (eq key) es) ≡ None → In e (map entry_of (y ∷ es)) → ⊥
      go on true t f j = (let b : ⊥ = cc in b)
      go on false t f (inl s) =
          let same : key ≡ y.0 = sym k ∙ ap (λ (z : Entry). z.key) s in
          let yes : eq key y.0 ≡ true = (exact key y.0).1 same in
          let no_more : true ≡ false = sym yes ∙ t in let b : ⊥ = cc in b
      go on false t f (inr j) = on f j

  pub keys_differ : (es : List (Key × Outcome)) → IsDistinct eq (keys_of es) → KeysDiffer (map entry_of es)
  keys_differ [] d = tt
  keys_differ (x ∷ es) d = (λ h. apart es (IsDistinct-head eq x.0 (keys_of es) d) h.0 h.1 h.2, keys_differ es (IsDistinct-tail eq x.0 (keys_of es) d))
    where
      apart : (es : List (Key × Outcome)) → AllByRecursion (λ y. eq x.0 y ≡ false) (keys_of es) → (e : Entry) → In e (map entry_of es) → e.key ≡ x.0 → ⊥
      apart [] n e i k = i
      apart (y ∷ ys) n e (inl s) k =
          let same : x.0 ≡ y.0 = sym k ∙ ap (λ (z : Entry). z.key) s in
          let yes : eq x.0 y.0 ≡ true = (exact x.0 y.0).1 same in
          let no_more : true ≡ false = sym yes ∙ n.0 in let b : ⊥ = cc in b
      apart (y ∷ ys) n e (inr j) k = apart ys n.1 e j k

  -- a look moves an entry at most
  pub looked_same : (key : Key) (es after : List (Key × Outcome)) → after ≡ promoted (eq key) es → IsDistinct eq (keys_of after) → SameEntries (map entry_of es) (map entry_of after)
  looked_same key es after e d = record {
    kept = subst (λ ys. IsAmong (map entry_of es) (map entry_of ys)) (sym e) (promoted_kept (eq key) es);
    no_more = subst (λ ys. IsAmong (map entry_of ys) (map entry_of es)) (sym e) (promoted_among (eq key) es);
    differ = keys_differ after d;
  }

  -- a put into a memo without a bound
  pub put_is : (es after : List (Key × Outcome)) (x : Key × Outcome) → after ≡ entries_after_put eq None es x → IsDistinct eq (keys_of after) →
      IsPut false (map entry_of es) (entry_of x) (map entry_of after)
  put_is es after x e d = go (lookup_entry (eq x.0) es) refl e
    where
      go : (o : Option (Key × Outcome)) → lookup_entry (eq x.0) es ≡ o → after ≡ option_map_or (λ _. es) o (x ∷ es) → IsPut false (map entry_of es) (entry_of x) (map entry_of after)
      go (Some y) h f = inl (
        has_key x.0 es y h,
        record {
          kept = subst (λ ys. IsAmong (map entry_of es) (map entry_of ys)) (sym f) (λ z i. i);
          no_more = subst (λ ys. IsAmong (map entry_of ys) (map entry_of es)) (sym f) (λ z i. i);
          differ = keys_differ after d;
        },
      )
      go None h f = inr (
        lacks x.0 es h,
        record {
          kept = subst (λ ys. IsAmong (map entry_of (x ∷ es)) (map entry_of ys)) (sym f) (λ z i. i);
          no_more = subst (λ ys. IsAmong (map entry_of ys) (map entry_of (x ∷ es))) (sym f) (λ z i. i);
          differ = keys_differ after d;
        },
      )

  pub put_by : (m m' : Memo Key Outcome) (x y : Key × Outcome) → m' ≡ memo_after_put eq x m → m.most ≡ None → x ≡ y → IsDistinct eq (keys_of m'.entries) →
      IsPut false (map entry_of m.entries) (entry_of y) (map entry_of m'.entries)
  put_by m m' x y e free same d =
      subst (λ z. IsPut false (map entry_of m.entries) (entry_of z) (map entry_of m'.entries)) same
      (put_is m.entries m'.entries x (ap (λ (n : Memo Key Outcome). n.entries) e ∙ ap (λ o. entries_after_put eq o m.entries x) free) d)
