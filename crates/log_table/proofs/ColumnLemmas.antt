-- The names of a header, and the numbers of their variables.
use Rattle.std.proofs.Common.{◌≡◌, inl, inr, ℕ, suc, ◌+◌, ◌<◌, ◌≤◌, List, [], ◌∷◌, ◌++◌, map, length, take, drop, get_or, Bool, true, false, ◌&&◌, ◌||◌, not, cond, Some, None, refl, sym, ap, ◌∙◌, arith, bytes_eq}
use Rattle.std.specs.Prelude.{All, nat_lt}
use Rattle.std.specs.List.{list_any, position, position_or_len}
use Rattle.std.proofs.lemmas.Bool.{ltb-false, and_parts, not-true, or_right, or_left}
use Rattle.std.proofs.lemmas.List.{at_drop_more, at_drop_all, map_push, take_more, take_all}
use Rattle.std.proofs.lemmas.List.Elements.{All-head, All-tail}
use Rattle.std.proofs.lemmas.List.Folds.{list_any_at}
use Rattle.std.proofs.lemmas.List.Quantifiers.{position-Some}
use Rattle.std.proofs.lemmas.Slice.Eq.{bytes_eq-Decides}
use Rattle.poly_specs.specs.Lists.{In}
use Rattle.run_specs.specs.Sessions.{AreColumns}
use Rattle.log_specs.specs.LogSessions.{is_among, are_columns}
use Rattle.log_table.specs.Tables.{name_at}
use Rattle.log_table.specs.Columns.{AreNumbersOf, IsNumberOf}

-- ---- one name

none_next : (b : Bool) (q n : ℕ) (any : Bool) → (n ≤ q → any ≡ false) → suc n ≤ cond (not b) (1 + q) 0 → (b || any) ≡ false
none_next true q n any k h = absurd (let h1 : suc n ≤ 0 = h in let b : ⊥ = omega (arith, h1) in b)
none_next false q n any k h = k (omega (arith, h))

none_before : {X : Type 0} (p : X → Bool) (xs : List X) → length xs ≤ position_or_len p xs → list_any p xs ≡ false
none_before p [] h = refl
none_before p (x ∷ xs) h = none_next (p x) (position_or_len p xs) (length xs) (list_any p xs) (none_before p xs) h

missed_by : (b : Bool) (q : ℕ) → cond b (Some q) None ≡ None → b ≡ false
missed_by true q e = absurd (let b : ⊥ = cc in b)
missed_by false q e = refl

-- a name at no place is no variable
pub unnamed : (variables : List (List ℕ)) (name : List ℕ) → position (bytes_eq name) variables ≡ None → is_among variables name ≡ false
unnamed variables name e =
    none_before (bytes_eq name) variables (ltb-false (position_or_len (bytes_eq name) variables) (length variables)
    (missed_by (nat_lt (position_or_len (bytes_eq name) variables) (length variables)) (position_or_len (bytes_eq name) variables) e))

-- the place of a name is the number of its variable
pub numbered : (variables : List (List ℕ)) (name : List ℕ) (c : ℕ) → position (bytes_eq name) variables ≡ Some c → IsNumberOf variables name c
numbered variables name c e =
    let at = position-Some (bytes_eq name) variables c [] e in
    record {
      within = at.0;
      named = sym ((bytes_eq-Decides name (name_at variables c)).0 at.1);
      among = list_any_at (bytes_eq name) variables c [] at.0 at.1;
    }

-- ---- the names from this one on

both : (a b c : Bool) → a ≡ true → b ≡ false → (a && not b && c) ≡ c
both true false c e f = refl
both true true c e f = absurd (let g : ⊥ = cc in g)
both false b c e f = absurd (let g : ⊥ = cc in g)

unnamed_first : (a b c : Bool) → a ≡ false → (a && not b && c) ≡ false
unnamed_first false b c e = refl
unnamed_first true b c e = absurd (let g : ⊥ = cc in g)

repeated_first : (a b c : Bool) → b ≡ true → (a && not b && c) ≡ false
repeated_first true true c e = refl
repeated_first false true c e = refl
repeated_first a false c e = absurd (let g : ⊥ = cc in g)

module _ (variables names : List (List ℕ)) (i : ℕ) (name : List ℕ) (within : i < length names) (is : name ≡ get_or names i name) where
  from_here : are_columns variables (drop i names) ≡ are_columns variables (name ∷ drop (i + 1) names)
  from_here = at_drop_more (are_columns variables) names i name within ∙ ap (λ n. are_columns variables (n ∷ drop (i + 1) names)) (sym is)

  -- it is a variable, and not among those after it
  pub next_name : is_among variables name ≡ true → is_among (drop (i + 1) names) name ≡ false → are_columns variables (drop i names) ≡ are_columns variables (drop (i + 1) names)
  next_name e f =
      from_here ∙ both (is_among variables name) (is_among (drop (i + 1) names) name) (are_columns variables (drop (i + 1) names)) e f

  pub no_variable : is_among variables name ≡ false → are_columns variables (drop i names) ≡ false
  no_variable e = from_here ∙ unnamed_first (is_among variables name) (is_among (drop (i + 1) names) name) (are_columns variables (drop (i + 1) names)) e

  pub repeats : is_among (drop (i + 1) names) name ≡ true → are_columns variables (drop i names) ≡ false
  repeats e = from_here ∙ repeated_first (is_among variables name) (is_among (drop (i + 1) names) name) (are_columns variables (drop (i + 1) names)) e

-- ---- all names

-- the name of a column is among the names of columns
named_among : (variables : List (List ℕ)) (c : ℕ) (columns : List ℕ) → In c columns → is_among (map (name_at variables) columns) (name_at variables c) ≡ true
named_among variables c [] h = absurd h
named_among variables c (d ∷ columns) (inl e) =
    or_left (bytes_eq (name_at variables c) (name_at variables d)) (is_among (map (name_at variables) columns) (name_at variables c))
    ((bytes_eq-Decides (name_at variables c) (name_at variables d)).1 (ap (name_at variables) e))
named_among variables c (d ∷ columns) (inr h) =
    or_right (bytes_eq (name_at variables c) (name_at variables d)) (is_among (map (name_at variables) columns) (name_at variables c))
    (named_among variables c columns h)

-- the numbers of distinct names are distinct
are_distinct : (variables : List (List ℕ)) (columns : List ℕ) → All (λ c. c < length variables) columns → are_columns variables (map (name_at variables) columns) ≡ true →
    AreColumns (length variables) columns
are_distinct variables [] within e = tt
are_distinct variables (c ∷ columns) within e =
    let name = name_at variables c in
    let names = map (name_at variables) columns in
    let parts = and_parts (is_among variables name && not (is_among names name)) (are_columns variables names) e in
    let alone = not-true (is_among names name) (and_parts (is_among variables name) (not (is_among names name)) parts.0).1 in (
      All-head (λ c. c < length variables) c columns within,
      (λ h. let there = named_among variables c columns h in let f : ⊥ = cc in f),
      are_distinct variables columns (All-tail (λ c. c < length variables) c columns within) parts.1,
    )

-- numbers of variables that have these names
are_numbers : (variables names : List (List ℕ)) (columns : List ℕ) → are_columns variables names ≡ true → map (name_at variables) columns ≡ names →
    All (λ c. c < length variables) columns → AreNumbersOf variables names columns
are_numbers variables names columns e same within = record {
  named = e;
  distinct = are_distinct variables columns within (ap (are_columns variables) same ∙ e);
  same = same;
}

-- one column more
pub one_more : (variables names : List (List ℕ)) (columns more : List ℕ) (i c : ℕ) (name : List ℕ) → i < length names → name ≡ get_or names i name →
    map (name_at variables) columns ≡ take i names → more ≡ columns ++ c ∷ [] → name_at variables c ≡ name → map (name_at variables) more ≡ take (i + 1) names
one_more variables names columns more i c name within is same grown named =
    ap (map (name_at variables)) grown ∙ map_push (name_at variables) columns c ∙ ap (λ zs. zs ++ name_at variables c ∷ []) same
    ∙ ap (λ n. take i names ++ n ∷ []) (named ∙ is) ∙ sym (take_more names i name within)

-- after the last name
pub all_named : (variables names : List (List ℕ)) (columns : List ℕ) (i : ℕ) → length names ≤ i → are_columns variables names ≡ are_columns variables (drop i names) →
    map (name_at variables) columns ≡ take i names → All (λ c. c < length variables) columns → AreNumbersOf variables names columns
all_named variables names columns i past rest same within =
    are_numbers variables names columns (rest ∙ at_drop_all (are_columns variables) names i past) (same ∙ take_all i names past) within
