-- Rows whose numbers have the same greatest common divisor are divided alike.
use Rattle.std.proofs.Common.{◌≡◌, ℕ, max, List, [], ◌∷◌, sym, ◌∙◌, ap, ap₂, ℤ, unsigned_abs}
use Rattle.std.specs.Int.{◌∣◌}
use Rattle.std.specs.List.{AllByRecursion}
use Rattle.std.proofs.lemmas.Nat.Gcd.{dvd_antisymm, dvd_refl, dvd_trans, dvd-zero}
use Rattle.poly_specs.proofs.CombinationLemmas.{gcd-IsGcd}
use Rattle.poly_specs.specs.Elimination.{gcd, divided, numbers}
use Rattle.poly_specs.specs.Rows.{Row}
use Rattle.lin_row.proofs.DivisorLemmas.{shared, shared-numbers, divisor-shared, divided-from_one, one_from_divided}

-- a row with the same shared divisor of its coefficients, and the same constant, is divided where the other is
pub same_divided : (r s : Row) → shared 0 s.coef ≡ shared 0 r.coef → s.cst ≡ r.cst → divided r ≡ r → divided s ≡ s
same_divided r s e f d =
    let whole : shared 0 (numbers s) ≡ shared 0 (numbers r) =
    shared-numbers s.coef s.cst ∙ ap₂ (λ g z. gcd g (unsigned_abs z)) e f ∙ sym (shared-numbers r.coef r.cst) in
    divided-from_one s (divisor-shared s ∙ ap (max 1) whole ∙ sym (divisor-shared r) ∙ one_from_divided r d)

-- k divides all the numbers
abbrev pub Divides : ℕ → List ℤ → Type 0
Divides k zs = AllByRecursion (λ z. k ∣ unsigned_abs z) zs

divides_shared : (k g : ℕ) (zs : List ℤ) → k ∣ g → Divides k zs → k ∣ shared g zs
divides_shared k g [] h all = h
divides_shared k g (z ∷ zs) h all = divides_shared k (gcd g (unsigned_abs z)) zs ((gcd-IsGcd g (unsigned_abs z)).2 k h all.0) all.1

divides_all : (k g : ℕ) (zs : List ℤ) → k ∣ shared g zs → (k ∣ g) × Divides k zs
divides_all k g [] h = (h, tt)
divides_all k g (z ∷ zs) h =
    let rest = divides_all k (gcd g (unsigned_abs z)) zs h in
    let is = gcd-IsGcd g (unsigned_abs z) in
    (dvd_trans k rest.0 is.0, (dvd_trans k rest.0 is.1, rest.1))

-- lists that the same numbers divide share the same divisor
pub same_shared : (xs ys : List ℤ) → ((k : ℕ) → Divides k xs → Divides k ys) → ((k : ℕ) → Divides k ys → Divides k xs) → shared 0 xs ≡ shared 0 ys
same_shared xs ys f g = dvd_antisymm (below xs ys f) (below ys xs g)
  where
    below : (xs ys : List ℤ) → ((k : ℕ) → Divides k xs → Divides k ys) → shared 0 xs ∣ shared 0 ys
    below xs ys f = divides_shared (shared 0 xs) 0 ys (dvd-zero (shared 0 xs)) (f (shared 0 xs) (divides_all (shared 0 xs) 0 xs (dvd_refl (shared 0 xs))).1)
