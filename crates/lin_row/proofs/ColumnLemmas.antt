-- Rows whose columns are moved or cut: their numbers have the same divisor.
use Rattle.std.proofs.Common.{◌≡◌, inl, inr, ℕ, zero, suc, ◌<◌, ◌≤◌, max, List, [], ◌∷◌, length, take, drop, set, get_or, replicate, refl, sym, ◌∙◌, ap, ap₂, subst, arith, ℤ, pos, unsigned_abs}
use Rattle.std.specs.Prelude.{All}
use Rattle.std.specs.Int.{◌∣◌}
use Rattle.std.specs.List.{AllByRecursion}
use Rattle.std.proofs.lemmas.List.{length-set, length-replicate, length-take, get_or-set_same, get_or-set_other}
use Rattle.std.proofs.lemmas.List.Elements.{All-from_recursion, recursion_from_All, All-take}
use Rattle.std.proofs.lemmas.Nat.Gcd.{dvd_antisymm, dvd_refl, dvd_trans, dvd-zero}
use Rattle.poly_specs.proofs.CombinationLemmas.{gcd-IsGcd}
use Rattle.poly_specs.proofs.GcdLemmas.{gcd-zero}
use Rattle.poly_specs.specs.Bits.{FitsBits}
use Rattle.poly_specs.specs.Columns.{AreDistinct, put_at, placed, cut}
use Rattle.poly_specs.specs.Elimination.{gcd, divided, numbers}
use Rattle.poly_specs.specs.KeptRows.{IsKeptRow}
use Rattle.poly_specs.specs.Lists.{In}
use Rattle.poly_specs.specs.Rows.{Row}
use Rattle.lin_row.proofs.DivisorLemmas.{shared, shared-numbers, divisor-shared, divided-from_one, one_from_divided}

-- a row with the same shared divisor of its coefficients, and the same constant, is divided where the other is
same_divided : (r s : Row) → shared 0 s.coef ≡ shared 0 r.coef → s.cst ≡ r.cst → divided r ≡ r → divided s ≡ s
same_divided r s e f d =
    let whole : shared 0 (numbers s) ≡ shared 0 (numbers r) =
    shared-numbers s.coef s.cst ∙ ap₂ (λ g z. gcd g (unsigned_abs z)) e f ∙ sym (shared-numbers r.coef r.cst) in
    divided-from_one s (divisor-shared s ∙ ap (max 1) whole ∙ sym (divisor-shared r) ∙ one_from_divided r d)

-- ---- cut

shared-zeros : (g : ℕ) (cs : List ℤ) → AllByRecursion (λ c. c ≡ pos 0) cs → shared g cs ≡ g
shared-zeros g [] z = refl
shared-zeros g (c ∷ cs) z =
    let e : gcd g (unsigned_abs c) ≡ g = gcd-zero g (unsigned_abs c) (ap unsigned_abs z.0) in
    ap (λ h. shared h cs) e ∙ shared-zeros g cs z.1

shared-cut : (n g : ℕ) (cs : List ℤ) → AllByRecursion (λ c. c ≡ pos 0) (drop n cs) → shared g (take n cs) ≡ shared g cs
shared-cut zero g cs z = sym (shared-zeros g cs z)
shared-cut (suc n) g [] z = refl
shared-cut (suc n) g (c ∷ cs) z = shared-cut n (gcd g (unsigned_abs c)) cs z

pub cut-IsKept : (n : ℕ) (r : Row) → n ≤ length r.coef → All (λ c. c ≡ pos 0) (drop n r.coef) → IsKeptRow r → IsKeptRow (cut n r)
cut-IsKept n r le zeros kept = record {
  few = let few = kept.few in omega (arith, few, length-take n r.coef);
  lowest_terms = same_divided r (cut n r) (shared-cut n 0 r.coef (recursion_from_All (λ c. c ≡ pos 0) (drop n r.coef) zeros)) refl kept.lowest_terms;
  coef_fits = All-take FitsBits n r.coef kept.coef_fits;
  cst_fits = kept.cst_fits;
}

-- ---- moved

pub length-put : (to : List ℕ) (cs ms : List ℤ) → length (put_at to cs ms) ≡ length ms
length-put [] cs ms = refl
length-put (x ∷ to) [] ms = refl
length-put (x ∷ to) (c ∷ cs) ms = length-put to cs (set ms x c) ∙ length-set ms x c

module _ (P : ℤ → Type 0) where
  all_set : (ms : List ℤ) (x : ℕ) (c : ℤ) → P c → AllByRecursion P ms → AllByRecursion P (set ms x c)
  all_set [] x c p h = tt
  all_set (m ∷ ms) zero c p h = (p, h.1)
  all_set (m ∷ ms) (suc x) c p h = (h.0, all_set ms x c p h.1)

  all_get : (ms : List ℤ) (x : ℕ) (d : ℤ) → x < length ms → AllByRecursion P ms → P (get_or ms x d)
  all_get [] x d lt h = absurd (omega arith)
  all_get (m ∷ ms) zero d lt h = h.0
  all_get (m ∷ ms) (suc x) d lt h = all_get ms x d (omega arith) h.1

  all_replicate : (n : ℕ) (c : ℤ) → P c → AllByRecursion P (replicate n c)
  all_replicate zero c p = tt
  all_replicate (suc n) c p = (p, all_replicate n c p)

  -- what holds of the numbers and of those they are put among holds of the result
  put_in : (to : List ℕ) (cs ms : List ℤ) → AllByRecursion P cs → AllByRecursion P ms → AllByRecursion P (put_at to cs ms)
  put_in [] cs ms h g = g
  put_in (x ∷ to) [] ms h g = g
  put_in (x ∷ to) (c ∷ cs) ms h g = put_in to cs (set ms x c) h.1 (all_set ms x c h.0 g)

put_elsewhere : (to : List ℕ) (cs ms : List ℤ) (x : ℕ) (d : ℤ) → (In x to → ⊥) → get_or (put_at to cs ms) x d ≡ get_or ms x d
put_elsewhere [] cs ms x d none = refl
put_elsewhere (y ∷ to) [] ms x d none = refl
put_elsewhere (y ∷ to) (c ∷ cs) ms x d none =
    put_elsewhere to cs (set ms y c) x d (λ i. none (inr i)) ∙ get_or-set_other ms y x c d (λ e. none (inl e))

-- what holds of the result holds of each number that was put
put_out : (P : ℤ → Type 0) (to : List ℕ) (cs ms : List ℤ) → AreDistinct to → AllByRecursion (λ x. x < length ms) to → length to ≡ length cs →
    AllByRecursion P (put_at to cs ms) → AllByRecursion P cs
put_out P [] [] ms d w s h = tt
put_out P [] (c ∷ cs) ms d w s h = absurd (omega arith)
put_out P (x ∷ to) [] ms d w s h = tt
put_out P (x ∷ to) (c ∷ cs) ms d w s h =
    let l = length-set ms x c in
    let here = w.0 in
    let at : get_or (put_at to cs (set ms x c)) x (pos 0) ≡ c = put_elsewhere to cs (set ms x c) x (pos 0) d.0 ∙ get_or-set_same ms x c (pos 0) here in
    let inside : x < length (put_at to cs (set ms x c)) = let k = length-put to cs (set ms x c) in omega (arith, k, l, here) in
    let wider : AllByRecursion (λ y. y < length (set ms x c)) to = subst (λ k. AllByRecursion (λ y. y < k) to) (sym l) w.1 in
    (subst P at (all_get P (put_at to cs (set ms x c)) x (pos 0) inside h), put_out P to cs (set ms x c) d.1 wider (omega arith) h)

-- k divides g and all the numbers exactly where it divides what they share
abbrev Divides : ℕ → List ℤ → Type 0
Divides k zs = AllByRecursion (λ z. k ∣ unsigned_abs z) zs

divides_shared : (k g : ℕ) (zs : List ℤ) → k ∣ g → Divides k zs → k ∣ shared g zs
divides_shared k g [] h all = h
divides_shared k g (z ∷ zs) h all = divides_shared k (gcd g (unsigned_abs z)) zs ((gcd-IsGcd g (unsigned_abs z)).2 k h all.0) all.1

divides_all : (k g : ℕ) (zs : List ℤ) → k ∣ shared g zs → (k ∣ g) × Divides k zs
divides_all k g [] h = (h, tt)
divides_all k g (z ∷ zs) h =
    let rest = divides_all k (gcd g (unsigned_abs z)) zs h in
    let is = gcd-IsGcd g (unsigned_abs z) in
    (dvd_trans k rest.0 is.0, (dvd_trans k rest.0 is.1, rest.1))

same_shared : (xs ys : List ℤ) → ((k : ℕ) → Divides k xs → Divides k ys) → ((k : ℕ) → Divides k ys → Divides k xs) → shared 0 xs ≡ shared 0 ys
same_shared xs ys f g = dvd_antisymm (below xs ys f) (below ys xs g)
  where
    below : (xs ys : List ℤ) → ((k : ℕ) → Divides k xs → Divides k ys) → shared 0 xs ∣ shared 0 ys
    below xs ys f = divides_shared (shared 0 xs) 0 ys (dvd-zero (shared 0 xs)) (f (shared 0 xs) (divides_all (shared 0 xs) 0 xs (dvd_refl (shared 0 xs))).1)

pub placed-IsKept : (to : List ℕ) (n : ℕ) (r : Row) → AreDistinct to → All (λ x. x < n) to → length to ≡ length r.coef → n ≤ 14 → IsKeptRow r → IsKeptRow (placed to n r)
placed-IsKept to n r d w s le kept =
    let zs : List ℤ = replicate n (pos 0) in
    let lz : length zs ≡ n = length-replicate n (pos 0) in
    let lp = length-put to r.coef zs in
    let inside : AllByRecursion (λ x. x < length zs) to = subst (λ k. AllByRecursion (λ x. x < k) to) (sym lz) (recursion_from_All (λ x. x < n) to w) in
    let fit = recursion_from_All FitsBits r.coef kept.coef_fits in
    let same : shared 0 (put_at to r.coef zs) ≡ shared 0 r.coef =
    same_shared (put_at to r.coef zs) r.coef
    (λ k h. put_out (λ z. k ∣ unsigned_abs z) to r.coef zs d inside s h)
    (λ k h. put_in (λ z. k ∣ unsigned_abs z) to r.coef zs h (all_replicate (λ z. k ∣ unsigned_abs z) n (pos 0) (dvd-zero k))) in
    record {
      few = omega (arith, lp, lz);
      lowest_terms = same_divided r (placed to n r) same refl kept.lowest_terms;
      coef_fits = All-from_recursion FitsBits (put_at to r.coef zs) (put_in FitsBits to r.coef zs fit (all_replicate FitsBits n (pos 0) (omega arith)));
      cst_fits = kept.cst_fits;
    }

-- ---- the loop that puts them: ms has the first i numbers

pub record PutSoFar (to : List ℕ) (cs : List ℤ) (n i : ℕ) (ms : List ℤ) : Type 0 where
  pub width : length ms ≡ n
  pub put : put_at (drop i to) (drop i cs) ms ≡ put_at to cs (replicate n (pos 0))
