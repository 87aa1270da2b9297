-- Sums of the parts of one place, and the numbers that they form.
use Rattle.std.proofs.Common.{◌≡◌, ◌⊎◌, inl, inr, ℕ, zero, suc, ◌+◌, ◌<◌, get_or, List, [], ◌∷◌, ◌++◌, map, length, length-append, take, drop, true, false, cond, Option, Some, refl, sym, ◌∙◌, ap, subst, append_assoc, ℤ, arith}
use Rattle.std.specs.Prelude.{SomeIff, filter, flat_map}
use Rattle.std.proofs.lemmas.Bool.{cases_eq}
use Rattle.std.proofs.lemmas.Grind.{flat_map-append}
use Rattle.std.proofs.lemmas.List.{map-append, append-nil, length-map, take-append-drop}
use Rattle.std.proofs.lemmas.List.Elements.{All-append, All-nil, All-cons, All-head, All-tail, filter-append}
use Rattle.poly_specs.specs.Arithmetic.{lowest, sum_numbers}
use Rattle.poly_specs.specs.Bits.{FitsBits, NonePasses}
use Rattle.poly_specs.specs.Fractions.{Fraction, zero_fraction, sum_of}
use Rattle.run_specs.specs.Stages.{below}
use Rattle.model_specs.specs.Parts.{Part, sums, total_from, total_numbers_from, column_values, constant_values}
use Rattle.model_rows.specs.Columns.{is_at, values_at}
use Rattle.model_rows.proofs.ListLemmas.{next, flat_below}

-- ---- one part

pub value_here : (place : Option ℕ) (p : Part) → is_at place p.column ≡ true → values_at place (p ∷ []) ≡ p.value ∷ []
value_here place p t = ap (λ b. map (λ (q : Part). q.value) (cond b (p ∷ []) [])) t

pub value_elsewhere : (place : Option ℕ) (p : Part) → is_at place p.column ≡ false → values_at place (p ∷ []) ≡ []
value_elsewhere place p t = ap (λ b. map (λ (q : Part). q.value) (cond b (p ∷ []) [])) t

pub summed_here : (place : Option ℕ) (p : Part) (sum v : Fraction) (o : Option Fraction) → is_at place p.column ≡ true → v ≡ p.value →
    SomeIff o (NonePasses (sum_numbers sum v)) (lowest (sum_of sum v)) →
    SomeIff o (NonePasses (total_numbers_from sum (values_at place (p ∷ [])))) (total_from sum (values_at place (p ∷ [])))
summed_here place p sum v o t e said =
    subst (λ vs. SomeIff o (NonePasses (total_numbers_from sum vs)) (total_from sum vs)) (ap (λ w. w ∷ []) e ∙ sym (value_here place p t)) said

pub summed_elsewhere : (place : Option ℕ) (p : Part) (sum : Fraction) → is_at place p.column ≡ false →
    SomeIff (Some sum) (NonePasses (total_numbers_from sum (values_at place (p ∷ [])))) (total_from sum (values_at place (p ∷ [])))
summed_elsewhere place p sum t =
    subst (λ vs. SomeIff (Some sum) (NonePasses (total_numbers_from sum vs)) (total_from sum vs)) (sym (value_elsewhere place p t)) (All-nil FitsBits, refl)

-- ---- one part more

values-append : (place : Option ℕ) (xs ys : List Part) → values_at place (xs ++ ys) ≡ values_at place xs ++ values_at place ys
values-append place xs ys =
    ap (map (λ (q : Part). q.value)) (filter-append (λ q. is_at place q.column) xs ys)
    ∙ map-append (λ (q : Part). q.value) (filter (λ q. is_at place q.column) xs) (filter (λ q. is_at place q.column) ys)

total-append : (x : Fraction) (ys zs : List Fraction) → total_from x (ys ++ zs) ≡ total_from (total_from x ys) zs
total-append x [] zs = refl
total-append x (y ∷ ys) zs = total-append (lowest (sum_of x y)) ys zs

numbers-append : (x : Fraction) (ys zs : List Fraction) → total_numbers_from x (ys ++ zs) ≡ total_numbers_from x ys ++ total_numbers_from (total_from x ys) zs
numbers-append x [] zs = refl
numbers-append x (y ∷ ys) zs =
    ap (λ ns. sum_numbers x y ++ ns) (numbers-append (lowest (sum_of x y)) ys zs)
    ∙ sym (append_assoc (sum_numbers x y) (total_numbers_from (lowest (sum_of x y)) ys) (total_numbers_from (total_from (lowest (sum_of x y)) ys) zs))

-- the sum of the parts of a place, and the numbers that it forms
abbrev pub total_at : Option ℕ → List Part → Fraction
total_at place parts = total_from zero_fraction (values_at place parts)

abbrev pub numbers_at : Option ℕ → List Part → List ℤ
numbers_at place parts = total_numbers_from zero_fraction (values_at place parts)

total_at-append : (place : Option ℕ) (xs ys : List Part) → total_at place (xs ++ ys) ≡ total_from (total_at place xs) (values_at place ys)
total_at-append place xs ys = ap (total_from zero_fraction) (values-append place xs ys) ∙ total-append zero_fraction (values_at place xs) (values_at place ys)

numbers_at-append : (place : Option ℕ) (xs ys : List Part) →
    numbers_at place (xs ++ ys) ≡ numbers_at place xs ++ total_numbers_from (total_at place xs) (values_at place ys)
numbers_at-append place xs ys =
    ap (total_numbers_from zero_fraction) (values-append place xs ys) ∙ numbers-append zero_fraction (values_at place xs) (values_at place ys)

pub total_more : (place : Option ℕ) (xs : List Part) (i : ℕ) (p : Part) (sum new : Fraction) → i < length xs → p ≡ get_or xs i p →
    sum ≡ total_at place (take i xs) → new ≡ total_from sum (values_at place (p ∷ [])) → new ≡ total_at place (take (i + 1) xs)
total_more place xs i p sum new h is e said =
    said ∙ ap (λ s. total_from s (values_at place (p ∷ []))) e ∙ sym (total_at-append place (take i xs) (p ∷ []))
    ∙ ap (total_at place) (sym (next xs i p h is))

pub numbers_more : (place : Option ℕ) (xs : List Part) (i : ℕ) (p : Part) (sum : Fraction) → i < length xs → p ≡ get_or xs i p →
    sum ≡ total_at place (take i xs) → NonePasses (numbers_at place (take i xs)) → NonePasses (total_numbers_from sum (values_at place (p ∷ []))) →
    NonePasses (numbers_at place (take (i + 1) xs))
numbers_more place xs i p sum h is e before now =
    subst NonePasses (sym (ap (numbers_at place) (next xs i p h is) ∙ numbers_at-append place (take i xs) (p ∷ [])))
    (All-append FitsBits (numbers_at place (take i xs)) (total_numbers_from (total_at place (take i xs)) (values_at place (p ∷ []))) before
    (subst (λ s. NonePasses (total_numbers_from s (values_at place (p ∷ [])))) e now))

-- ---- where one passes

pub fits_left : (xs ys : List ℤ) → NonePasses (xs ++ ys) → NonePasses xs
fits_left [] ys h = All-nil FitsBits
fits_left (x ∷ xs) ys h = All-cons FitsBits x xs (All-head FitsBits x (xs ++ ys) h) (fits_left xs ys (All-tail FitsBits x (xs ++ ys) h))

pub fits_right : (xs ys : List ℤ) → NonePasses (xs ++ ys) → NonePasses ys
fits_right [] ys h = h
fits_right (x ∷ xs) ys h = fits_right xs ys (All-tail FitsBits x (xs ++ ys) h)

pub passes_on : (place : Option ℕ) (xs : List Part) (i : ℕ) (p : Part) (sum : Fraction) → i < length xs → p ≡ get_or xs i p →
    sum ≡ total_at place (take i xs) → (NonePasses (total_numbers_from sum (values_at place (p ∷ []))) → ⊥) → NonePasses (numbers_at place xs) → ⊥
passes_on place xs i p sum h is e passes all =
    let parts : take (i + 1) xs ++ drop (i + 1) xs ≡ xs = take-append-drop (i + 1) xs in
    let first : NonePasses (numbers_at place (take (i + 1) xs)) =
    fits_left (numbers_at place (take (i + 1) xs)) (total_numbers_from (total_at place (take (i + 1) xs)) (values_at place (drop (i + 1) xs)))
    (subst NonePasses (ap (numbers_at place) (sym parts) ∙ numbers_at-append place (take (i + 1) xs) (drop (i + 1) xs)) all) in
    let last : NonePasses (total_numbers_from (total_at place (take i xs)) (values_at place (p ∷ []))) =
    fits_right (numbers_at place (take i xs)) (total_numbers_from (total_at place (take i xs)) (values_at place (p ∷ [])))
    (subst NonePasses (ap (numbers_at place) (next xs i p h is) ∙ numbers_at-append place (take i xs) (p ∷ [])) first) in
    passes (subst (λ s. NonePasses (total_numbers_from s (values_at place (p ∷ [])))) (sym e) last)

-- ---- all columns

-- the numbers that the sum of column j forms
abbrev pub column_numbers : List Part → ℕ → List ℤ
column_numbers parts j = total_numbers_from zero_fraction (column_values j parts)

pub fits_below : (parts : List Part) (j : ℕ) → NonePasses (flat_map (column_numbers parts) (below j)) → NonePasses (column_numbers parts j) →
    NonePasses (flat_map (column_numbers parts) (below (j + 1)))
fits_below parts j before now =
    subst NonePasses (sym (flat_below (column_numbers parts) j)) (All-append FitsBits (flat_map (column_numbers parts) (below j)) (column_numbers parts j) before now)

-- a column that passes is one of those before a greater one
pub passes_below : (f : ℕ → List ℤ) (n j : ℕ) → j < n → (NonePasses (f j) → ⊥) → NonePasses (flat_map f (below n)) → ⊥
passes_below f zero j h passes all = absurd (omega arith)
passes_below f (suc n) j h passes all =
    let both : NonePasses (flat_map f (below n) ++ f n) =
    subst NonePasses (flat_map-append f (below n) (n ∷ []) ∙ ap (λ ys. flat_map f (below n) ++ ys) (append-nil (f n))) all in
    either (cases_eq j n) (λ e. passes (subst (λ k. NonePasses (f k)) (sym e) (fits_right (flat_map f (below n)) (f n) both)))
    (λ ne. passes_below f n j (omega (arith, h, ne)) passes (fits_left (flat_map f (below n)) (f n) both))
  where
    either : {P Q : Type 0} → P ⊎ Q → (P → ⊥) → (Q → ⊥) → ⊥
    either (inl p) f g = f p
    either (inr q) f g = g q

-- ---- the sums of all places

abbrev pub column_total : List Part → ℕ → Fraction
column_total parts j = total_from zero_fraction (column_values j parts)

length-below : (n : ℕ) → length (below n) ≡ n
length-below zero = refl
length-below (suc n) = let e = length-append (below n) (n ∷ []) in omega (arith, e, length-below n)

pub length-sums : (n : ℕ) (parts : List Part) → length (sums n parts) ≡ n + 1
length-sums n parts =
    let e = length-append (map (column_total parts) (below n)) (total_from zero_fraction (constant_values parts) ∷ []) in
    let f = length-map (below n) (column_total parts) in
    omega (arith, e, f, length-below n)
