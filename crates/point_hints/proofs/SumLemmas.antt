-- Non-negative multiples of rows: where the rows hold, their sum does.
use Rattle.std.proofs.Common.{◌≡◌, ◌||◌, ◌&&◌, Bool, true, false, ℕ, ◌+◌, ◌<◌, ◌≤◌, zero, suc, take, drop, ap₂, inl, inr, Option, None, Some, List, [], ◌∷◌, length, map, replicate, get_or, refl, sym, ◌∙◌, ap, subst, arith, ℤ, pos, negsuc, int_lt, ◌+ℤ◌, ◌*ℤ◌, ◌≤ℤ◌, ◌<ℤ◌}
use Rattle.std.specs.List.{AllByRecursion}
use Rattle.std.specs.Option.{option_eq}
use mathlib.Core.Bool.{beq}
use Rattle.std.proofs.lemmas.Int.{ints}
use Rattle.std.proofs.lemmas.Bool.{leb-true}
use Rattle.std.proofs.lemmas.List.{get_or-map, length-map, length-replicate, take_all, drop_all, drop_more}
use Rattle.std.proofs.lemmas.List.Elements.{All-from_recursion, recursion_from_All}
use Rattle.poly_specs.proofs.IntLemmas.{products, mul_le_pos, mul_add, add_mul}
use Rattle.poly_specs.proofs.LinearLemmas.{dot-scaled_row, dot-take_more, Allows-at_most, scaled_by, cancelled_by}
use Rattle.poly_specs.proofs.ProjectionLemmas.{dot-plus}
use Rattle.poly_specs.proofs.EliminationLemmas.{get_or-plus}
use Rattle.poly_specs.specs.Lists.{dot, plus}
use Rattle.poly_specs.specs.Rows.{Point, Row, row_value, coef_at, Allows, Holds, AllWide, HasPoint}
use Rattle.poly_specs.specs.Systems.{IsHeld}
use Rattle.point_hints.specs.Summing.{column_sum, constant_sum, is_strict_part, some_strict, IsRefuted}

-- ---- the sum's coefficients

abbrev summed : ℕ → List ℤ → List Row → List ℤ
summed w [] rows = replicate w (pos 0)
summed w (k ∷ ks) [] = replicate w (pos 0)
summed w (k ∷ ks) (r ∷ rows) = plus (map (λ c. k *ℤ c) r.coef) (summed w ks rows)

length-plus : (cs ds : List ℤ) → length cs ≡ length ds → length (plus cs ds) ≡ length cs
length-plus [] ds e = refl
length-plus (c ∷ cs) [] e = absurd (omega arith)
length-plus (c ∷ cs) (d ∷ ds) e = ap suc (length-plus cs ds (omega arith))

length-summed : (w : ℕ) (ks : List ℤ) (rows : List Row) → AllByRecursion (λ r. length r.coef ≡ w) rows → length (summed w ks rows) ≡ w
length-summed w [] rows h = length-replicate w (pos 0)
length-summed w (k ∷ ks) [] h = length-replicate w (pos 0)
length-summed w (k ∷ ks) (r ∷ rows) h =
    let l = length-map r.coef (λ c. k *ℤ c) in
    let rest = length-summed w ks rows h.1 in
    let wide = h.0 in
    length-plus (map (λ c. k *ℤ c) r.coef) (summed w ks rows) (l ∙ wide ∙ sym rest) ∙ l ∙ wide

number-zeros : (n x : ℕ) → get_or (replicate n (pos 0)) x (pos 0) ≡ pos 0
number-zeros zero x = refl
number-zeros (suc n) zero = refl
number-zeros (suc n) (suc x) = number-zeros n x

number-summed : (w : ℕ) (ks : List ℤ) (rows : List Row) (x : ℕ) → AllByRecursion (λ r. length r.coef ≡ w) rows → x < w →
    get_or (summed w ks rows) x (pos 0) ≡ column_sum x ks rows
number-summed w [] rows x h lt = number-zeros w x
number-summed w (k ∷ ks) [] x h lt = number-zeros w x
number-summed w (k ∷ ks) (r ∷ rows) x h lt =
    let l = length-map r.coef (λ c. k *ℤ c) in
    let rest = length-summed w ks rows h.1 in
    let wide : length r.coef ≡ w = h.0 in
    let here : get_or (map (λ c. k *ℤ c) r.coef) x (pos 0) ≡ k *ℤ coef_at x r = get_or-map (λ c. k *ℤ c) r.coef x (pos 0) (pos 0) (omega arith) in
    let more = number-summed w ks rows x h.1 lt in
    get_or-plus (map (λ c. k *ℤ c) r.coef) (summed w ks rows) x (l ∙ wide ∙ sym rest) ∙ cc

dot-none : (cs ns : List ℤ) → ((x : ℕ) → x < length cs → get_or cs x (pos 0) ≡ pos 0) → dot cs ns ≡ pos 0
dot-none [] ns z = refl
dot-none (c ∷ cs) [] z = refl
dot-none (c ∷ cs) (n ∷ ns) z =
    let here : c ≡ pos 0 = z 0 (omega arith) in
    let rest = dot-none cs ns (λ x h. z (suc x) (omega arith)) in
    rw here (omega (arith, ints, rest))

dot-zeros : (n : ℕ) (ns : List ℤ) → dot (replicate n (pos 0)) ns ≡ pos 0
dot-zeros zero ns = refl
dot-zeros (suc n) [] = refl
dot-zeros (suc n) (m ∷ ns) = omega (arith, ints, dot-zeros n ns)

-- ---- the sum's value

abbrev values : List ℤ → List Row → Point → ℤ
values ks rows p = dot ks (map (λ r. row_value r p) rows)

value-summed : (w : ℕ) (ks : List ℤ) (rows : List Row) (p : Point) → AllByRecursion (λ r. length r.coef ≡ w) rows →
    values ks rows p ≡ dot (summed w ks rows) p.num +ℤ constant_sum ks rows *ℤ p.den
value-summed w [] rows p h = let z = dot-zeros w p.num in omega (arith, ints, z)
value-summed w (k ∷ ks) [] p h = let z = dot-zeros w p.num in omega (arith, ints, z)
value-summed w (k ∷ ks) (r ∷ rows) p h =
    let l = length-map r.coef (λ c. k *ℤ c) in
    let rest = length-summed w ks rows h.1 in
    let wide : length r.coef ≡ w = h.0 in
    let split = dot-plus (map (λ c. k *ℤ c) r.coef) (summed w ks rows) p.num (l ∙ wide ∙ sym rest) in
    let row = dot-scaled_row k r.coef p.num in
    let more = value-summed w ks rows p h.1 in
    let spread = mul_add k (dot r.coef p.num) (r.cst *ℤ p.den) in
    let joined = add_mul (k *ℤ r.cst) (constant_sum ks rows) p.den in
    omega (arith, products, split, row, more, spread, joined)

-- ---- what the sum allows

not_above : (k : ℤ) (v : ℤ) → pos 0 ≤ℤ k → v ≤ℤ pos 0 → (k *ℤ v) ≤ℤ pos 0
not_above (pos k) v n h = let m = mul_le_pos k v (pos 0) h in omega (arith, ints, m)
not_above (negsuc k) v n h = absurd (omega (arith, ints))

Allows-factor : (b s : Bool) (k v : ℤ) → (b ≡ true → pos 0 <ℤ k) → pos 0 ≤ℤ k → Allows s v → Allows (b && s) (k *ℤ v)
Allows-factor true s k v above n h = scaled_by s k v (above refl) h
Allows-factor false s k v above n h = not_above k v n (Allows-at_most s v h)

above_zero : (k : ℤ) → int_lt (pos 0) k ≡ true → pos 0 <ℤ k
above_zero (pos n) e = let h = leb-true 1 n e in omega (arith, ints, h)
above_zero (negsuc n) e = absurd (let f : ⊥ = cc in f)

Allows-part : (k : ℤ) (r : Row) (v : ℤ) → pos 0 ≤ℤ k → Allows r.strict v → Allows (is_strict_part k r) (k *ℤ v)
Allows-part k r v n h = Allows-factor (int_lt (pos 0) k) r.strict k v (above_zero k) n h

Allows-both : (s t : Bool) (v w : ℤ) → Allows s v → Allows t w → Allows (s || t) (v +ℤ w)
Allows-both true t v w h g = let m = Allows-at_most t w g in omega (arith, ints, m)
Allows-both false true v w h g = omega (arith, ints)
Allows-both false false v w h g = omega (arith, ints)

Allows-values : (ks : List ℤ) (rows : List Row) (p : Point) → AllByRecursion (λ k. pos 0 ≤ℤ k) ks → AllByRecursion (λ r. Holds r p) rows →
    Allows (some_strict ks rows) (values ks rows p)
Allows-values [] rows p n h = omega (arith, ints)
Allows-values (k ∷ ks) [] p n h = omega (arith, ints)
Allows-values (k ∷ ks) (r ∷ rows) p n h =
    Allows-both (is_strict_part k r) (some_strict ks rows) (k *ℤ row_value r p) (values ks rows p) (Allows-part k r (row_value r p) n.0 h.0)
    (Allows-values ks rows p n.1 h.1)

-- refuted rows hold at no point
pub refuted_is_empty : (w : ℕ) (ks : List ℤ) (rows : List Row) → AllWide w rows → IsRefuted w ks rows → HasPoint w rows → ⊥
refuted_is_empty w ks rows wide refuted (p, positive, sized, holds) =
    let widths = recursion_from_All (λ r. length r.coef ≡ w) rows wide in
    let l = length-summed w ks rows widths in
    let none : dot (summed w ks rows) p.num ≡ pos 0 =
    dot-none (summed w ks rows) p.num (λ x h.
    (let lt : x < w = omega arith in number-summed w ks rows x widths lt ∙ refuted.no_coefficient x lt)) in
    let value = value-summed w ks rows p widths in
    let same : values ks rows p ≡ p.den *ℤ constant_sum ks rows = omega (arith, products, none, value) in
    let allowed = Allows-values ks rows p (recursion_from_All (λ k. pos 0 ≤ℤ k) ks refuted.non_negative)
    (recursion_from_All (λ r. Holds r p) rows holds) in
    refuted.not_allowed (cancelled_by (some_strict ks rows) p.den (constant_sum ks rows) positive (subst (Allows (some_strict ks rows)) same allowed))

-- ---- the loops over the rows

-- s is the sum of the first i products
pub sum_step : (f : Row → ℤ) (ks : List ℤ) (rows : List Row) (i : ℕ) (r : Row) (s t : ℤ) → i < length rows → length ks ≡ length rows → r ≡ get_or rows i r →
    s ≡ dot (take i ks) (take i (map f rows)) → t ≡ s +ℤ get_or ks i (pos 0) *ℤ f r → t ≡ dot (take (i + 1) ks) (take (i + 1) (map f rows))
sum_step f ks rows i r s t lt sized is so_far step =
    let l = length-map rows f in
    let here : get_or (map f rows) i (pos 0) ≡ f (get_or rows i r) = get_or-map f rows i r (pos 0) lt in
    let there : f (get_or rows i r) ≡ f r = ap f (sym is) in
    let more = dot-take_more ks (map f rows) i (omega arith) (omega arith) in
    let e : get_or (map f rows) i (pos 0) ≡ f r = here ∙ there in
    step ∙ ap (λ z. z +ℤ get_or ks i (pos 0) *ℤ f r) so_far ∙ ap (λ z. dot (take i ks) (take i (map f rows)) +ℤ get_or ks i (pos 0) *ℤ z) (sym e) ∙ sym more

pub sum_end : (f : Row → ℤ) (ks : List ℤ) (rows : List Row) (i : ℕ) (s : ℤ) → length rows ≤ i → length ks ≡ length rows →
    s ≡ dot (take i ks) (take i (map f rows)) → s ≡ dot ks (map f rows)
sum_end f ks rows i s le sized so_far =
    let l = length-map rows f in
    so_far ∙ ap₂ dot (take_all i ks (omega arith)) (take_all i (map f rows) (omega arith))

-- ---- the loop over the strict rows

pub strict_more : (ks : List ℤ) (rows : List Row) (i : ℕ) (r : Row) → i < length rows → length ks ≡ length rows → r ≡ get_or rows i r →
    some_strict (drop i ks) (drop i rows) ≡ is_strict_part (get_or ks i (pos 0)) r || some_strict (drop (i + 1) ks) (drop (i + 1) rows)
strict_more ks rows i r lt sized is =
    ap₂ some_strict (drop_more ks i (pos 0) (omega arith)) (drop_more rows i r lt)
    ∙ ap (λ (s : Row). is_strict_part (get_or ks i (pos 0)) s || some_strict (drop (i + 1) ks) (drop (i + 1) rows)) (sym is)

pub strict_end : (ks : List ℤ) (rows : List Row) (i : ℕ) → length rows ≤ i → length ks ≡ length rows → some_strict (drop i ks) (drop i rows) ≡ false
strict_end ks rows i le sized = ap₂ some_strict (drop_all i ks (omega arith)) (drop_all i rows le)

-- ---- a point

held : (rows : List Row) (p : Point) (answer : Option Bool) → answer ≡ Some true → IsHeld rows p answer → AllByRecursion (λ r. Holds r p) rows
held [] p answer e h = tt
held (r ∷ rows) p answer e (inl h) = absurd (let g = h.1 in let f : ⊥ = cc in f)
held (r ∷ rows) p answer e (inr (inl h)) = absurd (let g = h.2 in let f : ⊥ = cc in f)
held (r ∷ rows) p answer e (inr (inr h)) = (h.1, held rows p answer e h.2)

-- a system that is held at a point has one
pub held_has_point : (w : ℕ) (rows : List Row) (p : Point) (answer : Option Bool) → pos 0 <ℤ p.den → length p.num ≡ w → answer ≡ Some true →
    IsHeld rows p answer → HasPoint w rows
held_has_point w rows p answer positive sized e h = (p, positive, sized, All-from_recursion (λ r. Holds r p) rows (held rows p answer e h))

pub some_true : (answer : Option Bool) → option_eq beq answer (Some true) ≡ true → answer ≡ Some true
some_true None e = absurd (let f : ⊥ = cc in f)
some_true (Some true) e = refl
some_true (Some false) e = absurd (let f : ⊥ = cc in f)
