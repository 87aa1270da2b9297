-- Plain elimination of a column is projection, both ways.
use Rattle.std.proofs.Common.{Bool, ◌≡◌, ℕ, zero, suc, ◌*◌, ◌<◌, ◌≤◌, true, List, [], ◌∷◌, length, map, set, get_or, sum_by, refl, sym, ◌∙◌, ap, subst, arith, ℤ, pos, negsuc, ◌+ℤ◌, ◌-ℤ◌, ◌*ℤ◌, ◌≤ℤ◌, ◌<ℤ◌, neg_ℤ, unsigned_abs, ◌⊎◌, inl, inr}
use Rattle.std.specs.Prelude.{int_lt, int_div, ◌==◌}
use Rattle.std.proofs.Math.Nat.{mul-div_cancel', mul-le-mul_right}
use Rattle.std.specs.List.{flat_map, AllByRecursion}
use Rattle.std.proofs.lemmas.Int.{ints, by_lt_z}
use Rattle.std.proofs.lemmas.List.{length-map, get_or-map, length-set}
use Rattle.std.proofs.lemmas.List.Sums.{sum_by-cons}
use Rattle.std.proofs.lemmas.List.Elements.{All-from_recursion, recursion_from_All}
use Rattle.std.proofs.lemmas.Bool.{eqb-true, eq-eqb}
use Rattle.poly_specs.proofs.IntLemmas.{products, expand, mul_neg, mul_le_pos, mul_le_cancel, product_positive}
use Rattle.poly_specs.proofs.LinearLemmas.{Holds-same_point, Allows-below, Allows-more, Allows-left, Allows-right}
use Rattle.poly_specs.proofs.ProjectionLemmas.{dot-set, with_number, value-rest, rest, SameBut-with_number}
use Rattle.poly_specs.proofs.CombinationLemmas.{combination_sound, combination_rest, negative, positive, abs_lower, abs_upper, times-divided, divisor-pos, gcd-IsGcd}
use Rattle.poly_specs.proofs.InclusionLemmas.{in_left, in_right, in_either, in_filter, out_filter, in_flat_map}
use Rattle.poly_specs.specs.Elimination.{times, divided, divisor, raw_combination, combination, lower_factor, upper_factor, lowers, uppers, free_of, eliminated, gcd}
use Rattle.poly_specs.specs.Lists.{In, plus}
use Rattle.poly_specs.specs.Rows.{AllWide, Point, Row, row_value, Allows, Holds, AllHold, SameBut, without, SomeValueHolds, coef_at}

-- ---- membership

pub AllHold-from_in : (rows : List Row) (p : Point) → ((r : Row) → In r rows → Holds r p) → AllHold rows p
AllHold-from_in rows p f = All-from_recursion (λ r. Holds r p) rows (go rows f)
  where
    go : (rows : List Row) → ((r : Row) → In r rows → Holds r p) → AllByRecursion (λ r. Holds r p) rows
    go [] f = tt
    go (r ∷ rows) f = (f r (inl refl), go rows (λ s i. f s (inr i)))

pub AllHold-at_in : (rows : List Row) (p : Point) → AllHold rows p → (r : Row) → In r rows → Holds r p
AllHold-at_in rows p h = go rows (recursion_from_All (λ r. Holds r p) rows h)
  where
    go : (rows : List Row) → AllByRecursion (λ r. Holds r p) rows → (r : Row) → In r rows → Holds r p
    go [] h r i = absurd i
    go (s ∷ rows) h r (inl e) = subst (λ z. Holds z p) (sym e) h.0
    go (s ∷ rows) h r (inr i) = go rows h.1 r i

pub width_in : (w : ℕ) (rows : List Row) → AllWide w rows → (r : Row) → In r rows → length r.coef ≡ w
width_in w rows h = go rows (recursion_from_All (λ r. length r.coef ≡ w) rows h)
  where
    go : (rows : List Row) → AllByRecursion (λ r. length r.coef ≡ w) rows → (r : Row) → In r rows → length r.coef ≡ w
    go [] h r i = absurd i
    go (s ∷ rows) h r (inl e) = subst (λ z. length z.coef ≡ w) (sym e) h.0
    go (s ∷ rows) h r (inr i) = go rows h.1 r i

-- ---- a row without x holds at points that agree outside x

pub length-same_but : (x : ℕ) (p q : Point) → SameBut x p q → length p.num ≡ length q.num
length-same_but x p q e =
    let l = ap length e in
    let a = length-map (set p.num x (pos 0)) (λ n. n *ℤ q.den) in
    let b = length-map (set q.num x (pos 0)) (λ n. n *ℤ p.den) in
    omega (arith, a, b, l, length-set p.num x (pos 0), length-set q.num x (pos 0))

value-without : (x : ℕ) (r : Row) (p : Point) → x < length r.coef → x < length p.num → coef_at x r ≡ pos 0 → row_value r (without x p) ≡ row_value r p
value-without x r p h g z =
    let s = rw z at (dot-set r.coef p.num x (pos 0) h g) in
    omega (arith, ints, s)

pub Holds-same_but : (x : ℕ) (r : Row) (p q : Point) → x < length r.coef → length r.coef ≡ length p.num → coef_at x r ≡ pos 0 →
    pos 0 <ℤ p.den → pos 0 <ℤ q.den → SameBut x p q → Holds r p → Holds r q
Holds-same_but x r p q h l z hp hq e g =
    let lq = length-same_but x p q e in
    let a : Holds r (without x p) = subst (Allows r.strict) (sym (value-without x r p h (omega arith) z)) g in
    let b : Holds r (without x q) = Holds-same_point r (without x p) (without x q) hp hq e a in
    subst (Allows r.strict) (value-without x r q h (omega arith) z) b

-- ---- the combination is without x

pub get_or-plus : (cs ds : List ℤ) (x : ℕ) → length cs ≡ length ds → get_or (plus cs ds) x (pos 0) ≡ get_or cs x (pos 0) +ℤ get_or ds x (pos 0)
get_or-plus [] [] x e = refl
get_or-plus [] (d ∷ ds) x e = absurd (omega arith)
get_or-plus (c ∷ cs) [] x e = absurd (omega arith)
get_or-plus (c ∷ cs) (d ∷ ds) zero e = refl
get_or-plus (c ∷ cs) (d ∷ ds) (suc x) e = get_or-plus cs ds x (omega arith)

pub coef-times : (k : ℤ) (r : Row) (x : ℕ) → x < length r.coef → coef_at x (times k r) ≡ k *ℤ coef_at x r
coef-times k r x h = get_or-map (λ c. k *ℤ c) r.coef x (pos 0) (pos 0) h

factors_cancel : (a b g k m : ℕ) → g * m ≡ a → g * k ≡ b → pos k *ℤ neg_ℤ (pos a) +ℤ pos m *ℤ pos b ≡ pos 0
factors_cancel a b g k m ea eb = rw (← ea, ← eb) (omega (arith, products, mul_neg (pos k) (pos (g * m))))

raw_without : (x : ℕ) (lower upper : Row) → x < length lower.coef → length lower.coef ≡ length upper.coef →
    coef_at x lower <ℤ pos 0 → pos 0 <ℤ coef_at x upper → coef_at x (raw_combination x lower upper) ≡ pos 0
raw_without x lower upper h e l u =
    let a : ℕ = unsigned_abs (coef_at x lower) in
    let b : ℕ = unsigned_abs (coef_at x upper) in
    let k : ℕ = lower_factor x lower upper in
    let m : ℕ = upper_factor x lower upper in
    let g = gcd-IsGcd a b in
    let le : length (times (pos k) lower).coef ≡ length (times (pos m) upper).coef =
    length-map lower.coef (λ c. pos k *ℤ c) ∙ e ∙ sym (length-map upper.coef (λ c. pos m *ℤ c)) in
    get_or-plus (times (pos k) lower).coef (times (pos m) upper).coef x le
    ∙ (let c = coef-times (pos k) lower x h in let d = coef-times (pos m) upper x (omega arith) in
    let cl = negative (coef_at x lower) l in let cu = positive (coef_at x upper) u in
    let f : pos k *ℤ neg_ℤ (pos a) +ℤ pos m *ℤ pos b ≡ pos 0 =
    factors_cancel a b (gcd a b) k m (mul-div_cancel' (gcd a b) g.0) (mul-div_cancel' (gcd a b) g.1) in
    ap (λ z. z +ℤ coef_at x (times (pos m) upper)) (c ∙ ap (λ z. pos k *ℤ z) cl)
    ∙ ap (λ z. pos k *ℤ neg_ℤ (pos a) +ℤ z) (d ∙ ap (λ z. pos m *ℤ z) cu) ∙ f)

pub length-divided : (r : Row) → length (divided r).coef ≡ length r.coef
unfolding divided
length-divided r = length-map r.coef (λ c. int_div c (pos (divisor r)))

pub divided_without : (x : ℕ) (r : Row) → x < length r.coef → coef_at x r ≡ pos 0 → coef_at x (divided r) ≡ pos 0
divided_without x r h z =
    let e : pos (divisor r) *ℤ coef_at x (divided r) ≡ pos 0 =
    sym (coef-times (pos (divisor r)) (divided r) x (omega (arith, length-divided r))) ∙ ap (coef_at x) (times-divided r) ∙ z in
    let low : coef_at x (divided r) ≤ℤ pos 0 = mul_le_cancel (divisor r) (coef_at x (divided r)) (pos 0) (divisor-pos r) (omega (arith, ints, e)) in
    let high : pos 0 ≤ℤ coef_at x (divided r) = mul_le_cancel (divisor r) (pos 0) (coef_at x (divided r)) (divisor-pos r) (omega (arith, ints, e)) in
    omega (arith, ints)

length-plus : (cs ds : List ℤ) → length cs ≡ length ds → length (plus cs ds) ≡ length cs
length-plus [] ds e = refl
length-plus (c ∷ cs) [] e = absurd (omega arith)
length-plus (c ∷ cs) (d ∷ ds) e = ap suc (length-plus cs ds (omega arith))

pub length-raw : (x : ℕ) (lower upper : Row) → length lower.coef ≡ length upper.coef → length (raw_combination x lower upper).coef ≡ length lower.coef
length-raw x lower upper e =
    let a = length-map lower.coef (λ c. pos (lower_factor x lower upper) *ℤ c) in
    let b = length-map upper.coef (λ c. pos (upper_factor x lower upper) *ℤ c) in
    length-plus _ _ (a ∙ e ∙ sym b) ∙ a

pub length-combination : (x : ℕ) (lower upper : Row) → length lower.coef ≡ length upper.coef → length (combination x lower upper).coef ≡ length lower.coef
length-combination x lower upper e = length-divided (raw_combination x lower upper) ∙ length-raw x lower upper e

pub combination_without : (x : ℕ) (lower upper : Row) → x < length lower.coef → length lower.coef ≡ length upper.coef →
    coef_at x lower <ℤ pos 0 → pos 0 <ℤ coef_at x upper → coef_at x (combination x lower upper) ≡ pos 0
combination_without x lower upper h e l u =
    divided_without x (raw_combination x lower upper) (omega (arith, length-raw x lower upper e)) (raw_without x lower upper h e l u)

-- ---- the rows of the elimination

pub test_lower : (x : ℕ) (r : Row) → int_lt (coef_at x r) (pos 0) ≡ true → coef_at x r <ℤ pos 0
test_lower x r t = grind (arith, ints)

pub test_upper : (x : ℕ) (r : Row) → int_lt (pos 0) (coef_at x r) ≡ true → pos 0 <ℤ coef_at x r
test_upper x r t = grind (arith, ints)

pub test_free : (x : ℕ) (r : Row) → (unsigned_abs (coef_at x r) == 0) ≡ true → coef_at x r ≡ pos 0
test_free x r t = let e : unsigned_abs (coef_at x r) ≡ 0 = eqb-true _ _ t in omega (arith, ints)

pub out_flat_map : {A B : Type 0} (f : A → List B) (b : B) (ys : List A) → In b (flat_map f ys) → (y : A) × In y ys × In b (f y)
out_flat_map f b [] i = absurd i
out_flat_map f b (y ∷ ys) i = elim (in_either b (f y) (flat_map f ys) i) [
  | inl j ↦ (y, inl refl, j)
  | inr j ↦ (let r = out_flat_map f b ys j in (r.0, inr r.1, r.2))
]

pub out_map : {A B : Type 0} (f : A → B) (b : B) (ys : List A) → In b (map f ys) → (y : A) × In y ys × (b ≡ f y)
out_map f b [] i = absurd i
out_map f b (y ∷ ys) (inl e) = (y, inl refl, e)
out_map f b (y ∷ ys) (inr i) = let r = out_map f b ys i in (r.0, inr r.1, r.2)

pub in_map : {A B : Type 0} (f : A → B) (y : A) (ys : List A) → In y ys → In (f y) (map f ys)
in_map f y [] i = absurd i
in_map f y (z ∷ ys) (inl e) = inl (ap f e)
in_map f y (z ∷ ys) (inr i) = inr (in_map f y ys i)

-- ---- soundness

pub project_sound : (x w : ℕ) (rows : List Row) (p : Point) → x < w → ((r : Row) → In r rows → length r.coef ≡ w) → length p.num ≡ w →
    pos 0 <ℤ p.den → SomeValueHolds x rows p → AllHold (eliminated x rows) p
unfolding eliminated
project_sound x w rows p h widths lp hp (q, hq, same, all) = AllHold-from_in (eliminated x rows) p (λ r i.
    elim (in_either r (free_of x rows) _ i) [
      | inl j ↦ (let f = out_filter (λ r. unsigned_abs (coef_at x r) == 0) r rows j in let wr = widths r f.0 in
          Holds-same_but x r q p (omega arith) (wr ∙ sym lp ∙ length-same_but x p q same) (test_free x r f.1) hq hp (sym same) (AllHold-at_in rows q all r f.0))
      | inr j ↦ (
          let y = out_flat_map _ r (lowers x rows) j in
          let z = out_map (combination x y.0) r (uppers x rows) y.2 in
          let l = out_filter (λ r. int_lt (coef_at x r) (pos 0)) y.0 rows y.1 in
          let u = out_filter (λ r. int_lt (pos 0) (coef_at x r)) z.0 rows z.1 in
          let wl = widths y.0 l.0 in
          let wu = widths z.0 u.0 in
          let e : length y.0.coef ≡ length z.0.coef = wl ∙ sym wu in
          let c = combination_sound x y.0 z.0 q e (test_lower x y.0 l.1) (test_upper x z.0 u.1) (AllHold-at_in rows q all y.0 l.0) (AllHold-at_in rows q all z.0 u.0) in
          let lc = length-combination x y.0 z.0 e in
          let s = Holds-same_but x (combination x y.0 z.0) q p (omega arith) (lc ∙ wl ∙ sym lp ∙ length-same_but x p q same)
          (combination_without x y.0 z.0 (omega arith) e (test_lower x y.0 l.1) (test_upper x z.0 u.1)) hq hp (sym same) c in
          subst (λ t. Holds t p) (sym z.2) s)
    ])

-- ---- completeness

-- u/a ≤ v/b and v/b ≤ w/c give u/a ≤ w/c
cross_trans : (a b c : ℕ) (u v w : ℤ) → 0 < b → (pos b *ℤ u) ≤ℤ (pos a *ℤ v) → (pos c *ℤ v) ≤ℤ (pos b *ℤ w) → (pos c *ℤ u) ≤ℤ (pos a *ℤ w)
cross_trans a b c u v w hb h g =
    let m = mul_le_pos c (pos b *ℤ u) (pos a *ℤ v) h in
    let n = mul_le_pos a (pos c *ℤ v) (pos b *ℤ w) g in
    mul_le_cancel b (pos c *ℤ u) (pos a *ℤ w) hb (omega (arith, products, m, n))

IsGreatest : (Row → ℕ) → (Row → ℤ) → Row → List Row → Type 0
IsGreatest f b i rs = (j : Row) → In j rs → (pos (f i) *ℤ b j) ≤ℤ (pos (f j) *ℤ b i)

-- of finitely many fractions b/f one is greatest
greatest : (f : Row → ℕ) (b : Row → ℤ) (r : Row) (rs : List Row) → ((s : Row) → In s (r ∷ rs) → 0 < f s) →
    (i : Row) × In i (r ∷ rs) × IsGreatest f b i (r ∷ rs)
unfolding IsGreatest
greatest f b r [] pf = (r, inl refl, λ j m. elim m [ inl e ↦ (let fe = ap f e in let be = ap b e in rw (fe, be) (omega (arith, ints))) | inr n ↦ absurd n ])
greatest f b r (s ∷ rs) pf =
    let (i, m, best) = greatest f b s rs (λ t n. pf t (inr n)) in
    by_lt_z (pos (f r) *ℤ b i) (pos (f i) *ℤ b r)
    (λ lt. (
      r,
      inl refl,
      λ j n. elim n [
        | inl e ↦ (let fe = ap f e in let be = ap b e in rw (fe, be) (omega (arith, ints)))
        | inr k ↦ cross_trans (f j) (f i) (f r) (b j) (b i) (b r) (pf i (inr m)) (best j k) (omega (arith, ints, lt))
      ],
    ))
    (λ le. (
      i,
      inr m,
      λ j n. elim n [
        | inl e ↦ (let fe = ap f e in let be = ap b e in rw (fe, be) le)
        | inr k ↦ best j k
      ],
    ))

-- the three kinds of a row
kinds : (z : ℤ) → (z ≡ pos 0) ⊎ ((z <ℤ pos 0) ⊎ (pos 0 <ℤ z))
kinds (pos zero) = inl refl
kinds (pos (suc n)) = inr (inr (omega (arith, ints)))
kinds (negsuc n) = inr (inl (omega (arith, ints)))

lower_test : (x : ℕ) (r : Row) → coef_at x r <ℤ pos 0 → int_lt (coef_at x r) (pos 0) ≡ true
lower_test x r h = grind (arith, ints)

upper_test : (x : ℕ) (r : Row) → pos 0 <ℤ coef_at x r → int_lt (pos 0) (coef_at x r) ≡ true
upper_test x r h = grind (arith, ints)

free_test : (x : ℕ) (r : Row) → coef_at x r ≡ pos 0 → (unsigned_abs (coef_at x r) == 0) ≡ true
free_test x r h = eq-eqb _ _ (ap unsigned_abs h)

-- a far enough number makes an upper row hold, or a lower one
far_below : (b s : ℕ) (c v w : ℤ) → c ≡ pos b → 0 < b → unsigned_abs v < s → w ≡ pos 1 *ℤ v +ℤ c *ℤ neg_ℤ (pos s) → w <ℤ pos 0
far_below b s c v w ec hb h e =
    let f = simp expand at (rw ec at e) in
    let bs : 1 * s ≤ b * s = mul-le-mul_right s hb in
    omega (arith, products, f, h, bs)

far_above : (b s : ℕ) (c v w : ℤ) → c ≡ neg_ℤ (pos b) → 0 < b → unsigned_abs v < s → w ≡ pos 1 *ℤ v +ℤ c *ℤ pos s → w <ℤ pos 0
far_above b s c v w ec hb h e =
    let f = simp expand at (rw ec at e) in
    let bs : 1 * s ≤ b * s = mul-le-mul_right s hb in
    omega (arith, products, f, h, bs)

-- the middle of the greatest lower bound v/a and the least upper bound -u/b, over twice the product
abbrev middle : ℕ → ℕ → ℤ → ℤ → ℤ
middle a b v u = pos b *ℤ v -ℤ pos a *ℤ u

middle_lower : (s : Bool) (a b k : ℕ) (v u z c w : ℤ) → c ≡ neg_ℤ (pos k) → 0 < a → (pos a *ℤ z) ≤ℤ (pos k *ℤ v) → Allows s (pos b *ℤ z +ℤ pos k *ℤ u) →
    w ≡ pos (2 * (a * b)) *ℤ z +ℤ c *ℤ middle a b v u → Allows s w
middle_lower s a b k v u z c w ec ha le h e =
    let f : w ≡ pos b *ℤ (pos a *ℤ z -ℤ pos k *ℤ v) +ℤ pos a *ℤ (pos b *ℤ z +ℤ pos k *ℤ u) =
    e ∙ rw ec (simp expand (omega (arith, products))) in
    subst (Allows s) (sym f) (Allows-more s b a (pos a *ℤ z -ℤ pos k *ℤ v) (pos b *ℤ z +ℤ pos k *ℤ u) ha (omega (arith, ints)) h)

middle_upper : (s : Bool) (a b k : ℕ) (v u z c w : ℤ) → c ≡ pos k → 0 < b → (pos b *ℤ z) ≤ℤ (pos k *ℤ u) → Allows s (pos k *ℤ v +ℤ pos a *ℤ z) →
    w ≡ pos (2 * (a * b)) *ℤ z +ℤ c *ℤ middle a b v u → Allows s w
middle_upper s a b k v u z c w ec hb le h e =
    let f : w ≡ pos a *ℤ (pos b *ℤ z -ℤ pos k *ℤ u) +ℤ pos b *ℤ (pos k *ℤ v +ℤ pos a *ℤ z) =
    e ∙ rw ec (simp expand (omega (arith, products))) in
    subst (Allows s) (sym f) (Allows-more s a b (pos b *ℤ z -ℤ pos k *ℤ u) (pos k *ℤ v +ℤ pos a *ℤ z) hb (omega (arith, ints)) h)

pub den-with_number : (k : ℕ) (p : Point) (x : ℕ) (n : ℤ) → 0 < k → pos 0 <ℤ p.den → pos 0 <ℤ (with_number k p x n).den
unfolding with_number
den-with_number k p x n hk hp = product_positive (pos k) p.den (omega (arith, ints)) hp

sum_by-ge : (f : Row → ℕ) (r : Row) (rows : List Row) → In r rows → f r ≤ sum_by f rows
sum_by-ge f r [] i = absurd i
sum_by-ge f r (s ∷ rows) (inl e) = let fe = ap f e in omega (arith, sum_by-cons f s rows)
sum_by-ge f r (s ∷ rows) (inr i) = let rest = sum_by-ge f r rows i in omega (arith, sum_by-cons f s rows)

-- what the eliminated rows say at the point
record Projected (x w : ℕ) (rows : List Row) (p : Point) : Type 0 where
  column : x < w
  widths : (r : Row) → In r rows → length r.coef ≡ w
  sized : length p.num ≡ w
  positive : pos 0 <ℤ p.den
  free : (r : Row) → In r rows → coef_at x r ≡ pos 0 → Holds r p
  combined : (l u : Row) → In l rows → coef_at x l <ℤ pos 0 → In u rows → pos 0 <ℤ coef_at x u → Holds (combination x l u) p

abbrev size_at : ℕ → Row → ℕ
size_at x r = unsigned_abs (coef_at x r)

-- n over k in column x makes the rows hold, if it does so for those that have x
with_value : (x w : ℕ) (rows : List Row) (p : Point) (k : ℕ) (n : ℤ) → Projected x w rows p → 0 < k →
    ((r : Row) → In r rows → coef_at x r <ℤ pos 0 → Holds r (with_number k p x n)) →
    ((r : Row) → In r rows → pos 0 <ℤ coef_at x r → Holds r (with_number k p x n)) → SomeValueHolds x rows p
with_value x w rows p k n j hk low up =
    let hq : pos 0 <ℤ (with_number k p x n).den = den-with_number k p x n hk j.positive in (
      with_number k p x n,
      hq,
      SameBut-with_number k p x n,
      AllHold-from_in rows (with_number k p x n) (λ r i.
          let wr = j.widths r i in
          let hx = j.column in
          let lp = j.sized in
          elim (kinds (coef_at x r)) [
            | inl z ↦ Holds-same_but x r p (with_number k p x n) (omega arith) (wr ∙ sym lp) z j.positive hq (SameBut-with_number k p x n) (j.free r i z)
            | inr (inl neg) ↦ low r i neg
            | inr (inr po) ↦ up r i po
          ]),
    )

value_there : (x w : ℕ) (rows : List Row) (p : Point) (k : ℕ) (n : ℤ) → Projected x w rows p → (r : Row) → In r rows →
    row_value r (with_number k p x n) ≡ pos k *ℤ rest x r p +ℤ coef_at x r *ℤ n
value_there x w rows p k n j r i =
    let wr = j.widths r i in let hx = j.column in let lp = j.sized in value-rest k r p x n (omega arith) (omega arith)

-- past all bounds
abbrev past : ℕ → List Row → Point → ℕ
past x rows p = suc (sum_by (λ r. unsigned_abs (rest x r p)) rows)

within : (x : ℕ) (rows : List Row) (p : Point) (r : Row) → In r rows → unsigned_abs (rest x r p) < past x rows p
within x rows p r i = let h = sum_by-ge (λ r. unsigned_abs (rest x r p)) r rows i in omega (arith, h)

-- the witness: below all upper bounds, above all lower bounds, or the middle of the greatest lower and the least upper bound
witness : (x w : ℕ) (rows : List Row) (p : Point) → Projected x w rows p → (ls us : List Row) → lowers x rows ≡ ls → uppers x rows ≡ us → SomeValueHolds x rows p
unfolding IsGreatest
witness x w rows p j [] us none el =
    with_value x w rows p 1 (neg_ℤ (pos (past x rows p))) j (omega arith)
    (λ r i neg. absurd (subst (λ rs. In r rs) none (in_filter (λ r. int_lt (coef_at x r) (pos 0)) r rows i (lower_test x r neg))))
    (λ r i po. Allows-below r.strict _
    (far_below (size_at x r) (past x rows p) (coef_at x r) (rest x r p) _ (positive (coef_at x r) po) (abs_upper x r po) (within x rows p r i)
    (value_there x w rows p 1 (neg_ℤ (pos (past x rows p))) j r i)))
witness x w rows p j (l ∷ ls) [] some none =
    with_value x w rows p 1 (pos (past x rows p)) j (omega arith)
    (λ r i neg. Allows-below r.strict _
    (far_above (size_at x r) (past x rows p) (coef_at x r) (rest x r p) _ (negative (coef_at x r) neg) (abs_lower x r neg) (within x rows p r i)
    (value_there x w rows p 1 (pos (past x rows p)) j r i)))
    (λ r i po. absurd (subst (λ rs. In r rs) none (in_filter (λ r. int_lt (pos 0) (coef_at x r)) r rows i (upper_test x r po))))
witness x w rows p j (l ∷ ls) (u ∷ us) some more =
    let f : Row → ℕ = size_at x in
    let b : Row → ℤ = λ r. rest x r p in
    let is_lower : (r : Row) → In r (l ∷ ls) → In r rows × (int_lt (coef_at x r) (pos 0) ≡ true) =
    λ r i. out_filter (λ r. int_lt (coef_at x r) (pos 0)) r rows (subst (λ rs. In r rs) (sym some) i) in
    let is_upper : (r : Row) → In r (u ∷ us) → In r rows × (int_lt (pos 0) (coef_at x r) ≡ true) =
    λ r i. out_filter (λ r. int_lt (pos 0) (coef_at x r)) r rows (subst (λ rs. In r rs) (sym more) i) in
    let (g, mg, best) = greatest f b l ls (λ r i. abs_lower x r (test_lower x r (is_lower r i).1)) in
    let (h, mh, least) = greatest f b u us (λ r i. abs_upper x r (test_upper x r (is_upper r i).1)) in
    let ig = is_lower g mg in
    let ih = is_upper h mh in
    let ng = test_lower x g ig.1 in
    let ph = test_upper x h ih.1 in
    let fg : 0 < f g = abs_lower x g ng in
    let fh : 0 < f h = abs_upper x h ph in
    let k : ℕ = 2 * (f g * f h) in
    let hk : 0 < k = twice_positive (f g) (f h) fg fh in
    let n : ℤ = middle (f g) (f h) (b g) (b h) in
    with_value x w rows p k n j hk
    (λ r i neg. middle_lower r.strict (f g) (f h) (f r) (b g) (b h) (b r) (coef_at x r) _ (negative (coef_at x r) neg) fg
    (best r (subst (λ rs. In r rs) some (in_filter (λ r. int_lt (coef_at x r) (pos 0)) r rows i (lower_test x r neg))))
    (Allows-left r.strict h.strict _ (combination_rest x r h p (j.widths r i ∙ sym (j.widths h ih.0)) neg ph (j.combined r h i neg ih.0 ph)))
    (value_there x w rows p k n j r i))
    (λ r i po. middle_upper r.strict (f g) (f h) (f r) (b g) (b h) (b r) (coef_at x r) _ (positive (coef_at x r) po) fh
    (least r (subst (λ rs. In r rs) more (in_filter (λ r. int_lt (pos 0) (coef_at x r)) r rows i (upper_test x r po))))
    (Allows-right g.strict r.strict _ (combination_rest x g r p (j.widths g ig.0 ∙ sym (j.widths r i)) ng po (j.combined g r ig.0 ng i po)))
    (value_there x w rows p k n j r i))
  where
    twice_positive : (a b : ℕ) → 0 < a → 0 < b → 0 < 2 * (a * b)
    twice_positive a b h g = let m : 1 * b ≤ a * b = mul-le-mul_right b h in omega (arith, m)

pub project_complete : (x w : ℕ) (rows : List Row) (p : Point) → x < w → ((r : Row) → In r rows → length r.coef ≡ w) → length p.num ≡ w →
    pos 0 <ℤ p.den → AllHold (eliminated x rows) p → SomeValueHolds x rows p
unfolding eliminated
project_complete x w rows p hx widths lp hp all =
    witness x w rows p
    (record {
      column = hx;
      widths = widths;
      sized = lp;
      positive = hp;
      free = λ r i z. AllHold-at_in (eliminated x rows) p all r (in_left r (free_of x rows) _ (in_filter (λ r. unsigned_abs (coef_at x r) == 0) r rows i (free_test x r z)));
      combined = λ l u il nl iu pu. AllHold-at_in (eliminated x rows) p all (combination x l u) (in_right (combination x l u) (free_of x rows) _
          (in_flat_map (λ lower. map (combination x lower) (uppers x rows)) l (combination x l u) (lowers x rows)
          (in_filter (λ r. int_lt (coef_at x r) (pos 0)) l rows il (lower_test x l nl))
          (in_map (combination x l) u (uppers x rows) (in_filter (λ r. int_lt (pos 0) (coef_at x r)) u rows iu (upper_test x u pu)))));
    })
    (lowers x rows) (uppers x rows) refl refl
