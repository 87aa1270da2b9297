-- Rows that are combined, moved to other columns, cut, or dominated.
use Rattle.std.proofs.Common.{◌≡◌, ◌≢◌, ◌↔◌, ◌⊎◌, inl, inr, ℕ, zero, suc, ◌<◌, List, [], ◌∷◌, length, map, take, drop, set, get_or, replicate, refl, sym, ◌∙◌, ap, subst, arith, ℤ, pos, negsuc, Bool, true, false, IsTrue, IsFalse, ◌+ℤ◌, ◌*ℤ◌, ◌<ℤ◌}
use Rattle.std.specs.Prelude.{All}
use Rattle.std.specs.List.{AllByRecursion}
use Rattle.std.proofs.lemmas.Int.{ints}
use Rattle.std.proofs.lemmas.Bool.{cases_lt}
use Rattle.std.proofs.lemmas.List.{length-set, length-replicate, get_or-set_other, get_or_past}
use Rattle.std.proofs.lemmas.List.Elements.{recursion_from_All}
use Rattle.poly_specs.proofs.IntLemmas.{mul_lt_pos}
use Rattle.poly_specs.proofs.LinearLemmas.{Allows-at_most, Allows-below}
use Rattle.poly_specs.proofs.EliminationLemmas.{combination_without}
use Rattle.poly_specs.specs.Columns.{AreDistinct, put_at, placed, at_columns, cut, IsDominated}
use Rattle.poly_specs.specs.Elimination.{combination}
use Rattle.poly_specs.specs.Lists.{number_at, dot, In}
use Rattle.poly_specs.specs.Rows.{Point, Row, over, row_value, Allows, Holds, coef_at}

-- ---- combined

-- a column with a number is one of the row's
within_row : (x : ℕ) (r : Row) → coef_at x r <ℤ pos 0 → x < length r.coef
within_row x r h = elim (cases_lt x (length r.coef)) [
  | inl lt ↦ lt
  | inr ge ↦ absurd (let e = get_or_past r.coef x (pos 0) ge in omega (arith, ints, e))
]

pub combination-free : (x : ℕ) (lower upper : Row) → length lower.coef ≡ length upper.coef → coef_at x lower <ℤ pos 0 → pos 0 <ℤ coef_at x upper →
    coef_at x (combination x lower upper) ≡ pos 0
combination-free x lower upper e l u = combination_without x lower upper (within_row x lower l) e l u

-- ---- moved

pub dot-set_coef : (cs ns : List ℤ) (x : ℕ) (c : ℤ) → x < length cs → x < length ns →
    dot (set cs x c) ns +ℤ get_or cs x (pos 0) *ℤ get_or ns x (pos 0) ≡ dot cs ns +ℤ c *ℤ get_or ns x (pos 0)
dot-set_coef [] ns x c h g = absurd (omega arith)
dot-set_coef (d ∷ cs) [] x c h g = absurd (omega arith)
dot-set_coef (d ∷ cs) (n ∷ ns) zero c h g = omega (arith, ints)
dot-set_coef (d ∷ cs) (n ∷ ns) (suc x) c h g = omega (arith, ints, dot-set_coef cs ns x c (omega arith) (omega arith))

dot-zeros : (n : ℕ) (ns : List ℤ) → dot (replicate n (pos 0)) ns ≡ pos 0
dot-zeros zero ns = refl
dot-zeros (suc n) [] = refl
dot-zeros (suc n) (m ∷ ns) = omega (arith, ints, dot-zeros n ns)

apart : (x y : ℕ) (to : List ℕ) → (In x to → ⊥) → In y to → y ≢ x
apart x y to none i e = none (subst (λ z. In z to) e i)

-- numbers put at places where 0 stood
dot-put : (to : List ℕ) (cs ms ns : List ℤ) → AreDistinct to → AllByRecursion (λ x. x < length ms) to → length to ≡ length cs → length ms ≡ length ns →
    ((x : ℕ) → In x to → get_or ms x (pos 0) ≡ pos 0) → dot (put_at to cs ms) ns ≡ dot ms ns +ℤ dot cs (map (λ x. number_at x ns) to)
dot-put [] [] ms ns d w s l z = omega (arith, ints)
dot-put [] (c ∷ cs) ms ns d w s l z = absurd (omega arith)
dot-put (x ∷ to) [] ms ns d w s l z = absurd (omega arith)
dot-put (x ∷ to) (c ∷ cs) ms ns d w s l z =
    let ls = length-set ms x c in
    let wider : AllByRecursion (λ y. y < length (set ms x c)) to = subst (λ k. AllByRecursion (λ y. y < k) to) (sym ls) w.1 in
    let rest = dot-put to cs (set ms x c) ns d.1 wider (omega arith) (ls ∙ l)
    (λ y i. get_or-set_other ms x y c (pos 0) (apart x y to d.0 i) ∙ z y (inr i)) in
    let here = w.0 in
    let put = rw (z x (inl refl)) at (dot-set_coef ms ns x c here (omega arith)) in
    omega (arith, ints, rest, put)

number-zeros : (n x : ℕ) → get_or (replicate n (pos 0)) x (pos 0) ≡ pos 0
number-zeros zero x = refl
number-zeros (suc n) zero = refl
number-zeros (suc n) (suc x) = number-zeros n x

pub value-placed : (to : List ℕ) (n : ℕ) (r : Row) (p : Point) → AreDistinct to → All (λ x. x < n) to → length to ≡ length r.coef → length p.num ≡ n →
    row_value (placed to n r) p ≡ row_value r (at_columns to p)
value-placed to n r p d w s l =
    let zs : List ℤ = replicate n (pos 0) in
    let lz : length zs ≡ n = length-replicate n (pos 0) in
    let inside : AllByRecursion (λ x. x < length zs) to = subst (λ k. AllByRecursion (λ x. x < k) to) (sym lz) (recursion_from_All (λ x. x < n) to w) in
    let put = dot-put to r.coef zs p.num d inside s (lz ∙ sym l) (λ x i. number-zeros n x) in
    let none = dot-zeros n p.num in
    omega (arith, ints, put, none)

pub Holds-placed : (to : List ℕ) (n : ℕ) (r : Row) (p : Point) → AreDistinct to → All (λ x. x < n) to → length to ≡ length r.coef → length p.num ≡ n →
    Holds (placed to n r) p ↔ Holds r (at_columns to p)
Holds-placed to n r p d w s l =
    let e = value-placed to n r p d w s l in
    (λ h. subst (Allows r.strict) e h, λ h. subst (Allows r.strict) (sym e) h)

-- ---- cut

dot-all_zero : (cs ns : List ℤ) → AllByRecursion (λ c. c ≡ pos 0) cs → dot cs ns ≡ pos 0
dot-all_zero [] ns z = refl
dot-all_zero (c ∷ cs) [] z = refl
dot-all_zero (c ∷ cs) (n ∷ ns) z = let here = z.0 in rw here (omega (arith, ints, dot-all_zero cs ns z.1))

dot-cut : (n : ℕ) (cs ns : List ℤ) → AllByRecursion (λ c. c ≡ pos 0) (drop n cs) → dot (take n cs) (take n ns) ≡ dot cs ns
dot-cut zero cs ns z = sym (dot-all_zero cs ns z)
dot-cut (suc n) [] ns z = refl
dot-cut (suc n) (c ∷ cs) [] z = refl
dot-cut (suc n) (c ∷ cs) (m ∷ ns) z = ap (λ v. c *ℤ m +ℤ v) (dot-cut n cs ns z)

pub Holds-cut : (n : ℕ) (r : Row) (p : Point) → All (λ c. c ≡ pos 0) (drop n r.coef) →
    Holds (cut n r) (over p.den (take n p.num)) ↔ Holds r p
Holds-cut n r p z =
    let e = ap (λ v. v +ℤ r.cst *ℤ p.den) (dot-cut n r.coef p.num (recursion_from_All (λ c. c ≡ pos 0) (drop n r.coef) z)) in
    (λ h. subst (Allows r.strict) e h, λ h. subst (Allows r.strict) (sym e) h)

-- ---- dominated

less_times : (a b d : ℤ) → pos 0 <ℤ d → a <ℤ b → (a *ℤ d) <ℤ (b *ℤ d)
less_times a b (pos d) h l = let m = mul_lt_pos d a b (omega (arith, ints)) l in omega (arith, ints, m)
less_times a b (negsuc d) h l = absurd (omega (arith, ints))

looser : (s t : Bool) (v : ℤ) → IsTrue t ⊎ IsFalse s → Allows t v → Allows s v
looser s true v m h = Allows-below s v h
looser false false v m h = h
looser true false v (inl m) h = absurd (let b : ⊥ = cc in b)
looser true false v (inr m) h = absurd (let b : ⊥ = cc in b)

pub Holds-dominated : (a b : Row) (p : Point) → IsDominated a b → pos 0 <ℤ p.den → Holds b p → Holds a p
Holds-dominated a b p d hp h = elim d.no_lower [
  | inl lt ↦ (
      let most = Allows-at_most b.strict (row_value b p) h in
      let less = less_times a.cst b.cst p.den hp lt in
      let same = ap (λ cs. dot cs p.num) d.same_sum in
      Allows-below a.strict (row_value a p) (omega (arith, ints, most, less, same)))
  | inr e ↦ (
      let same : row_value a p ≡ row_value b p = ap (λ cs. dot cs p.num +ℤ a.cst *ℤ p.den) d.same_sum ∙ ap (λ z. dot b.coef p.num +ℤ z *ℤ p.den) e.0 in
      looser a.strict b.strict (row_value a p) e.1 (subst (Allows b.strict) (sym same) h))
]
