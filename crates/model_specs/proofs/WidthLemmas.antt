-- How wide rows are, and the rows of slopes have no constant and are not strict.
use Rattle.std.proofs.Common.{◌≡◌, ℕ, zero, suc, ◌+◌, Bool, false, List, [], ◌∷◌, ◌++◌, length, map, Option, Some, None, refl, sym, ap, ◌∙◌, subst, arith, ℤ, pos, neg_ℤ, ◌*ℤ◌}
use Rattle.std.specs.Prelude.{IsFalse, flat_map, int_div}
use Rattle.std.specs.List.{AllByRecursion}
use Rattle.std.proofs.lemmas.List.{length-map, length-append}
use Rattle.std.proofs.lemmas.Int.{ints}
use Rattle.poly_specs.proofs.IntLemmas.{same_cancel}
use Rattle.poly_specs.proofs.CombinationLemmas.{times-divided, divisor-pos}
use Rattle.poly_specs.proofs.EliminationLemmas.{length-divided}
use Rattle.poly_specs.specs.Fractions.{Fraction, zero_fraction}
use Rattle.poly_specs.specs.Arithmetic.{lowest}
use Rattle.poly_specs.specs.Denominators.{common_den, num_over, common_nums}
use Rattle.poly_specs.specs.Rows.{Row}
use Rattle.poly_specs.specs.Elimination.{gcd, divisor, divided}
use Rattle.poly_specs.specs.Systems.{negated}
use Rattle.run_specs.specs.Stages.{below}
use Rattle.lang_specs.specs.declared.Sign.{Sign}
use Rattle.lang_specs.specs.declared.Sign.TheVariants.{AtMost, AtLeast, Equal, Less, Greater}
use Rattle.lang_specs.specs.Trees.{RowTree}
use Rattle.lang_specs.specs.Expressions.{IsAllowed}
use Rattle.lang_specs.proofs.SplitLemmas.{apart}
use Rattle.model_specs.specs.Parts.{Part, in_column, negative, total_from, is_constant, column_values, constant_values, sums, all_but_last, last_of, row_over, row_of_parts}
use Rattle.model_specs.specs.Constraints.{parts_of, sides, is_strict, rows_by, Comparison, comparison_rows, with_time, slope_constraint}

-- ---- lists

pub each_append : {X : Type 0} (P : X → Type 0) (xs ys : List X) → AllByRecursion P xs → AllByRecursion P ys → AllByRecursion P (xs ++ ys)
each_append P [] ys h k = k
each_append P (x ∷ xs) ys h k = (h.0, each_append P xs ys h.1 k)

pub each_map : {X Y : Type 0} (P : Y → Type 0) (f : X → Y) → ((x : X) → P (f x)) → (xs : List X) → AllByRecursion P (map f xs)
each_map P f h [] = tt
each_map P f h (x ∷ xs) = (h x, each_map P f h xs)

pub each_flat : {X Y : Type 0} (P : Y → Type 0) (f : X → List Y) → ((x : X) → AllByRecursion P (f x)) → (xs : List X) → AllByRecursion P (flat_map f xs)
each_flat P f h [] = tt
each_flat P f h (x ∷ xs) = each_append P (f x) (flat_map f xs) (h x) (each_flat P f h xs)

pub length_below : (n : ℕ) → length (below n) ≡ n
length_below zero = refl
length_below (suc n) = let e = length_below n in length-append (below n) (n ∷ []) ∙ omega (arith, e)

-- ---- widths

length_before_last : (zs : List ℤ) (n : ℕ) → length zs ≡ n + 1 → length (all_but_last zs) ≡ n
length_before_last [] n e = absurd (omega (arith, e))
length_before_last (z ∷ []) n e = omega (arith, e)
length_before_last (z ∷ y ∷ zs) zero e = absurd (omega (arith, e))
length_before_last (z ∷ y ∷ zs) (suc n) e = ap suc (length_before_last (y ∷ zs) n (omega (arith, e)))

length_sums : (n : ℕ) (parts : List Part) → length (sums n parts) ≡ n + 1
length_sums n parts =
    length-append (map (λ j. total_from zero_fraction (column_values j parts)) (below n)) (total_from zero_fraction (constant_values parts) ∷ [])
    ∙ ap (λ k. k + 1) (length-map (below n) (λ j. total_from zero_fraction (column_values j parts)) ∙ length_below n)

pub row_wide : (n : ℕ) (strict : Bool) (parts : List Part) → length (row_of_parts n strict parts).coef ≡ n
row_wide n strict parts =
    length-divided (row_over strict (common_nums (sums n parts)))
    ∙ length_before_last (common_nums (sums n parts)) n (length-map (sums n parts) (num_over (common_den (sums n parts))) ∙ length_sums n parts)

rows_by_are : (P : Row → Type 0) (s : Sign) (r : Row) → P r → P (negated r) → AllByRecursion P (rows_by s r)
rows_by_are P Equal r h k = (h, (k, tt))
rows_by_are P AtMost r h k = (h, tt)
rows_by_are P AtLeast r h k = (h, tt)
rows_by_are P Less r h k = (h, tt)
rows_by_are P Greater r h k = (h, tt)

pub comparison_wide : (n : ℕ) (c : Comparison) → AllByRecursion (λ r. length r.coef ≡ n) (comparison_rows n c)
comparison_wide n c =
    let r = row_of_parts n (is_strict c.sign) (sides c.sign c.left c.right) in
    let wide : length r.coef ≡ n = row_wide n (is_strict c.sign) (sides c.sign c.left c.right) in
    rows_by_are (λ z. length z.coef ≡ n) c.sign r wide (length-map r.coef neg_ℤ ∙ wide)

-- ---- rows without a constant

-- the constant is 0, and the row is not strict
abbrev pub IsHomogeneous : Row → Type 0
IsHomogeneous r = (r.cst ≡ pos 0) × IsFalse r.strict

zero_times : (z : ℤ) → pos 0 *ℤ z ≡ pos 0
zero_times z = omega (arith, ints)

pub divided_homogeneous : (r : Row) → IsHomogeneous r → IsHomogeneous (divided r)
unfolding divided
divided_homogeneous r (e, f) =
    let product : pos (divisor r) *ℤ (divided r).cst ≡ pos 0 = ap (λ z. z.cst) (times-divided r) ∙ e in
    let some = divisor-pos r in
    (same_cancel (pos (divisor r)) (divided r).cst (pos 0) (omega (arith, ints, some)) (product ∙ omega (arith, ints)), f)

-- no part is added to the constant
abbrev AreInColumns : List Part → Type 0
AreInColumns parts = AllByRecursion (λ p. is_constant p.column ≡ false) parts

no_constants : (parts : List Part) → AreInColumns parts → constant_values parts ≡ []
no_constants [] h = refl
no_constants (p ∷ parts) h = rw h.0 (no_constants parts h.1)

negative_in_columns : (parts : List Part) → AreInColumns parts → AreInColumns (map negative parts)
negative_in_columns [] h = tt
negative_in_columns (p ∷ parts) h = (h.0, negative_in_columns parts h.1)

sides_in_columns : (s : Sign) (left right : List Part) → AreInColumns left → AreInColumns right → AreInColumns (sides s left right)
sides_in_columns AtMost left right h k = each_append _ left (map negative right) h (negative_in_columns right k)
sides_in_columns Less left right h k = each_append _ left (map negative right) h (negative_in_columns right k)
sides_in_columns Equal left right h k = each_append _ left (map negative right) h (negative_in_columns right k)
sides_in_columns AtLeast left right h k = each_append _ (map negative left) right (negative_in_columns left h) k
sides_in_columns Greater left right h k = each_append _ (map negative left) right (negative_in_columns left h) k

timed : (m : ℕ) (p : Part) (column : Option ℕ) → p.column ≡ column →
    is_constant (elim column as (λ c. Part) [ None ↦ in_column m p.value | Some j ↦ p ]).column ≡ false
timed m p None e = refl
timed m p (Some j) e = rw e refl

time_in_columns : (m : ℕ) (parts : List Part) → AreInColumns (map (with_time m) parts)
time_in_columns m parts = each_map (λ p. is_constant p.column ≡ false) (with_time m) (λ p. timed m p p.column refl) parts

last_of_map : (f : Fraction → ℤ) (xs : List Fraction) (x : Fraction) → last_of (map f (xs ++ x ∷ [])) ≡ f x
last_of_map f [] x = refl
last_of_map f (y ∷ []) x = refl
last_of_map f (y ∷ z ∷ xs) x = last_of_map f (z ∷ xs) x

zero_over : (d : ℕ) → num_over d zero_fraction ≡ pos 0
unfolding gcd
zero_over d = zero_times (int_div (pos d) (lowest zero_fraction).den)

row_homogeneous : (n : ℕ) (parts : List Part) → AreInColumns parts → IsHomogeneous (row_of_parts n false parts)
row_homogeneous n parts h =
    let fs = map (λ j. total_from zero_fraction (column_values j parts)) (below n) in
    let d = common_den (sums n parts) in
    let last : last_of (common_nums (sums n parts)) ≡ num_over d (total_from zero_fraction (constant_values parts)) =
    last_of_map (num_over d) fs (total_from zero_fraction (constant_values parts)) in
    divided_homogeneous (row_over false (common_nums (sums n parts)))
    (last ∙ ap (λ vs. num_over d (total_from zero_fraction vs)) (no_constants parts h) ∙ zero_over d, refl)

allowed_is : (s : Sign) → IsAllowed false s → is_strict s ≡ false
allowed_is AtMost h = refl
allowed_is AtLeast h = refl
allowed_is Equal h = refl
allowed_is Less h = apart (sym h)
allowed_is Greater h = apart (sym h)

pub slopes_homogeneous : (vars : List (List ℕ)) (x : RowTree) → IsAllowed false x.sign →
    AllByRecursion IsHomogeneous (comparison_rows (length vars + 1) (slope_constraint vars x))
slopes_homogeneous vars x h =
    let left = map (with_time (length vars)) (parts_of vars x.left) in
    let right = map (with_time (length vars)) (parts_of vars x.right) in
    let placed = sides_in_columns x.sign left right (time_in_columns (length vars) (parts_of vars x.left)) (time_in_columns (length vars) (parts_of vars x.right)) in
    let closed = row_homogeneous (length vars + 1) (sides x.sign left right) placed in
    let same : IsHomogeneous (row_of_parts (length vars + 1) (is_strict x.sign) (sides x.sign left right)) =
    subst (λ b. IsHomogeneous (row_of_parts (length vars + 1) b (sides x.sign left right))) (sym (allowed_is x.sign h)) closed in
    rows_by_are IsHomogeneous x.sign (row_of_parts (length vars + 1) (is_strict x.sign) (sides x.sign left right)) same (ap neg_ℤ same.0, same.1)
