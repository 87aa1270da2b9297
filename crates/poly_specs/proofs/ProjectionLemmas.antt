-- One pair of rows: their combination holds exactly where some value of the column makes both hold.
use Rattle.std.proofs.Common.{◌↔◌, ◌||◌, ◌-ℤ◌, ◌≡◌, ℕ, ◌<◌, List, [], ◌∷◌, length, set, get_or, zero, suc, refl, sym, ◌∙◌, ap, subst, arith, ℤ, pos, ◌+ℤ◌, ◌*ℤ◌}
use Rattle.std.proofs.lemmas.Int.{ints}
use Rattle.std.proofs.lemmas.List.{get_or-map, length-map, map-set, set-set}
use Rattle.poly_specs.proofs.IntLemmas.{products, expand, add_mul, mul_add}
use Rattle.poly_specs.proofs.LinearLemmas.{dot-scaled, dot-scaled_row, Allows-scaled, Allows-cancel, Allows-mix}
use Rattle.poly_specs.specs.Elimination.{times, added}
use Rattle.poly_specs.specs.Lists.{scaled, dot, plus}
use Rattle.poly_specs.specs.Rows.{Point, Row, row_value, Allows, Holds, SameBut, coef_at}

pub dot-plus : (cs ds ns : List ℤ) → length cs ≡ length ds → dot (plus cs ds) ns ≡ dot cs ns +ℤ dot ds ns
dot-plus [] [] ns e = omega (arith, ints)
dot-plus [] (d ∷ ds) ns e = absurd (omega arith)
dot-plus (c ∷ cs) [] ns e = absurd (omega arith)
dot-plus (c ∷ cs) (d ∷ ds) [] e = refl
dot-plus (c ∷ cs) (d ∷ ds) (n ∷ ns) e = rw (add_mul c d n) (omega (arith, ints, dot-plus cs ds ns (omega arith)))

pub value-times : (k : ℤ) (r : Row) (p : Point) → row_value (times k r) p ≡ k *ℤ row_value r p
value-times k r p = rw (mul_add k (dot r.coef p.num) (r.cst *ℤ p.den)) (omega (arith, products, dot-scaled_row k r.coef p.num))

pub value-added : (r s : Row) (p : Point) → length r.coef ≡ length s.coef → row_value (added r s) p ≡ row_value r p +ℤ row_value s p
value-added r s p e = rw (add_mul r.cst s.cst p.den) (omega (arith, ints, dot-plus r.coef s.coef p.num e))

length-times : (k : ℤ) (r : Row) → length (times k r).coef ≡ length r.coef
length-times k r = length-map r.coef (λ c. k *ℤ c)

-- the value of a combination with factors k and m
pub value-mix : (k m : ℕ) (r s : Row) (p : Point) → length r.coef ≡ length s.coef →
    row_value (added (times (pos k) r) (times (pos m) s)) p ≡ pos k *ℤ row_value r p +ℤ pos m *ℤ row_value s p
value-mix k m r s p e =
    value-added (times (pos k) r) (times (pos m) s) p (length-times (pos k) r ∙ e ∙ sym (length-times (pos m) s))
    ∙ (let a = value-times (pos k) r p in let b = value-times (pos m) s p in cc)

-- a row times a positive number holds alike
pub Holds-times : (k : ℕ) (r : Row) (p : Point) → 0 < k → Holds r p ↔ Holds (times (pos k) r) p
Holds-times k r p h = (
  λ g. subst (Allows r.strict) (sym (value-times (pos k) r p)) (Allows-scaled r.strict k (row_value r p) h g),
  λ g. Allows-cancel r.strict k (row_value r p) h (subst (Allows r.strict) (value-times (pos k) r p) g),
)

-- where both rows hold, so does their combination
pub Holds-mix : (k m : ℕ) (r s : Row) (p : Point) → length r.coef ≡ length s.coef → 0 < k → 0 < m → Holds r p → Holds s p → Holds (added (times (pos k) r) (times (pos m) s)) p
Holds-mix k m r s p e hk hm h g =
    subst (Allows (r.strict || s.strict)) (sym (value-mix k m r s p e))
    (Allows-mix r.strict s.strict k m (row_value r p) (row_value s p) hk hm h g)

-- another number in column x
pub dot-set : (cs ns : List ℤ) (x : ℕ) (n : ℤ) → x < length cs → x < length ns →
    dot cs (set ns x n) +ℤ get_or cs x (pos 0) *ℤ get_or ns x (pos 0) ≡ dot cs ns +ℤ get_or cs x (pos 0) *ℤ n
dot-set [] ns x n h g = absurd (omega arith)
dot-set (c ∷ cs) [] x n h g = absurd (omega arith)
dot-set (c ∷ cs) (m ∷ ns) zero n h g = omega (arith, ints)
dot-set (c ∷ cs) (m ∷ ns) (suc x) n h g = omega (arith, ints, dot-set cs ns x n (omega arith) (omega arith))

-- the point with its denominator times k, and n in column x
unfoldable pub with_number : ℕ → Point → ℕ → ℤ → Point
with_number k p x n = record { num = set (scaled (pos k) p.num) x n; den = pos k *ℤ p.den }

pub value-with_number : (k : ℕ) (r : Row) (p : Point) (x : ℕ) (n : ℤ) → x < length r.coef → x < length p.num →
    row_value r (with_number k p x n) +ℤ coef_at x r *ℤ (get_or p.num x (pos 0) *ℤ pos k) ≡ pos k *ℤ row_value r p +ℤ coef_at x r *ℤ n
unfolding with_number
value-with_number k r p x n h g =
    let l : x < length (scaled (pos k) p.num) = omega (arith, length-map p.num (λ m. m *ℤ pos k)) in
    let s = dot-set r.coef (scaled (pos k) p.num) x n h l in
    let at : get_or (scaled (pos k) p.num) x (pos 0) ≡ get_or p.num x (pos 0) *ℤ pos k = get_or-map (λ m. m *ℤ pos k) p.num x (pos 0) (pos 0) g in
    let t = dot-scaled (pos k) r.coef p.num in
    simp expand (omega (arith, products, rw at at s, t))

-- the row's value, with 0 in column x
abbrev pub rest : ℕ → Row → Point → ℤ
rest x r p = row_value r p -ℤ coef_at x r *ℤ get_or p.num x (pos 0)

with_rest : (k : ℕ) (c v m n w : ℤ) → w +ℤ c *ℤ (m *ℤ pos k) ≡ pos k *ℤ v +ℤ c *ℤ n → w ≡ pos k *ℤ (v -ℤ c *ℤ m) +ℤ c *ℤ n
with_rest k c v m n w e = simp expand (omega (arith, products, e))

-- the row's value with n in column x, over k times the denominator
pub value-rest : (k : ℕ) (r : Row) (p : Point) (x : ℕ) (n : ℤ) → x < length r.coef → x < length p.num →
    row_value r (with_number k p x n) ≡ pos k *ℤ rest x r p +ℤ coef_at x r *ℤ n
value-rest k r p x n h g =
    with_rest k (coef_at x r) (row_value r p) (get_or p.num x (pos 0)) n _ (value-with_number k r p x n h g)

scaled-set_zero : (d : ℤ) (ns : List ℤ) (x : ℕ) → scaled d (set ns x (pos 0)) ≡ set (scaled d ns) x (pos 0)
scaled-set_zero d ns x =
    let zero : pos 0 *ℤ d ≡ pos 0 = omega (arith, ints) in
    map-set (λ n. n *ℤ d) ns x (pos 0) ∙ ap (λ z. set (scaled d ns) x z) zero

pub scaled-scaled : (k d : ℤ) (ns : List ℤ) → scaled (k *ℤ d) ns ≡ scaled d (scaled k ns)
scaled-scaled k d [] = refl
scaled-scaled k d (n ∷ ns) = let a : n *ℤ (k *ℤ d) ≡ (n *ℤ k) *ℤ d = omega (arith, products) in let b = scaled-scaled k d ns in cc

pub SameBut-with_number : (k : ℕ) (p : Point) (x : ℕ) (n : ℤ) → SameBut x p (with_number k p x n)
unfolding with_number
SameBut-with_number k p x n =
    scaled-set_zero (pos k *ℤ p.den) p.num x
    ∙ ap (λ zs. set zs x (pos 0)) (scaled-scaled (pos k) p.den p.num)
    ∙ sym (scaled-set_zero p.den (scaled (pos k) p.num) x)
    ∙ sym (ap (scaled p.den) (set-set (scaled (pos k) p.num) x n (pos 0)))
