-- Whether some constraint of an automaton is strict, asked place by place.
use Rattle.std.proofs.Common.{◌≡◌, Bool, true, false, ◌||◌, List, [], ◌∷◌, ◌++◌, map, refl, sym, ap, ◌∙◌}
use Rattle.std.specs.List.{flat_map, list_any}
use Rattle.lang_specs.specs.Trees.{RowTree, LocTree, TransTree, Tree, rows_of}
use Rattle.lang_specs.specs.Canonical.{is_strict, has_obs, has_strict, needs_second}

or_assoc : (a b c : Bool) → ((a || b) || c) ≡ (a || (b || c))
or_assoc true b c = refl
or_assoc false b c = refl

pub any_append : {X : Type 0} (p : X → Bool) (xs ys : List X) → list_any p (xs ++ ys) ≡ (list_any p xs || list_any p ys)
any_append p [] ys = refl
any_append p (x ∷ xs) ys = ap (λ t. p x || t) (any_append p xs ys) ∙ sym (or_assoc (p x) (list_any p xs) (list_any p ys))

any_map : {X A : Type 0} (p : X → Bool) (f : A → X) (xs : List A) → list_any p (map f xs) ≡ list_any (λ x. p (f x)) xs
any_map p f [] = refl
any_map p f (x ∷ xs) = ap (λ t. p (f x) || t) (any_map p f xs)

any_flat : {X A : Type 0} (p : X → Bool) (f : A → List X) (xs : List A) → list_any p (flat_map f xs) ≡ list_any (λ x. list_any p (f x)) xs
any_flat p f [] = refl
any_flat p f (x ∷ xs) = any_append p (f x) (flat_map f xs) ∙ ap (λ t. list_any p (f x) || t) (any_flat p f xs)

abbrev pub rows_strict : List RowTree → Bool
rows_strict rows = list_any (λ r. is_strict r.sign) rows

abbrev pub loc_rows : LocTree → List (List RowTree)
loc_rows l = rows_of l.init ++ rows_of l.inv ++ rows_of l.also

pub loc_strict : (l : LocTree) → has_strict (loc_rows l) ≡ ((has_strict (rows_of l.init) || has_strict (rows_of l.inv)) || has_strict (rows_of l.also))
loc_strict l =
    any_append rows_strict (rows_of l.init ++ rows_of l.inv) (rows_of l.also)
    ∙ ap (λ t. t || has_strict (rows_of l.also)) (any_append rows_strict (rows_of l.init) (rows_of l.inv))

pub needs_is : (t : Tree) →
    needs_second t ≡ ((has_obs t.obs || list_any (λ l. has_strict (loc_rows l)) t.locs) || list_any (λ e. rows_strict e.guard) t.trans)
needs_is t =
    ap (λ s. has_obs t.obs || s)
    (any_append rows_strict (flat_map loc_rows t.locs) (map (λ e. e.guard) t.trans)
    ∙ ap (λ s. s || list_any rows_strict (map (λ e. e.guard) t.trans)) (any_flat rows_strict loc_rows t.locs)
    ∙ ap (λ s. list_any (λ l. has_strict (loc_rows l)) t.locs || s) (any_map rows_strict (λ (e : TransTree). e.guard) t.trans))
    ∙ sym (or_assoc (has_obs t.obs) (list_any (λ l. has_strict (loc_rows l)) t.locs) (list_any (λ e. rows_strict e.guard) t.trans))
