-- A row and its positive multiples are alike once divided: a bound says the same in lowest terms.
use Rattle.std.proofs.Common.{zero-mul, ◌≡◌, ℕ, zero, suc, ◌*◌, ◌<◌, List, [], ◌∷◌, ◌++◌, length, map, fold, set, refl, sym, ◌∙◌, ap, ap₂, subst, arith, max, false, ℤ, pos, negsuc, ◌*ℤ◌, ◌<ℤ◌, neg_ℤ, unsigned_abs}
use Rattle.std.proofs.Math.Nat.{mul_comm}
use Rattle.std.proofs.lemmas.Int.{ints, unsigned_abs-mul}
use Rattle.std.proofs.lemmas.List.{length-set, get_or-set_same}
use Rattle.poly_specs.proofs.IntLemmas.{mul_neg, mul_assoc_int, same_cancel}
use Rattle.poly_specs.proofs.CombinationLemmas.{divisor-pos, times-divided}
use Rattle.poly_specs.proofs.GcdLemmas.{gcd-positive, gcd-scaled, gcd-swap}
use Rattle.poly_specs.proofs.LowestLemmas.{shared, shared-positive, lowest-num, lowest-den, lowest-IsFraction, size-positive}
use Rattle.run_specs.proofs.StageLemmas.{length-zeros}
use Rattle.poly_specs.specs.Lists.{number_at}
use Rattle.poly_specs.specs.Arithmetic.{lowest}
use Rattle.poly_specs.specs.Fractions.{Fraction, IsFraction}
use Rattle.poly_specs.specs.Rows.{Row}
use Rattle.poly_specs.specs.Elimination.{gcd, numbers, divisor, divided, times}
use Rattle.run_specs.specs.Stages.{zeros, row_of, at_most, at_least}

-- ---- the greatest common divisor of many numbers

abbrev common : ℕ → List ℤ → ℕ
common g zs = fold (λ h z. gcd h (unsigned_abs z)) g zs

common-scaled : (g k : ℕ) (zs : List ℤ) → 0 < k → common (g * k) (map (λ c. pos k *ℤ c) zs) ≡ common g zs * k
common-scaled g k [] hk = refl
common-scaled g k (z ∷ zs) hk =
    let size : unsigned_abs (pos k *ℤ z) ≡ unsigned_abs z * k = unsigned_abs-mul (pos k) z ∙ mul_comm k (unsigned_abs z) in
    let here : gcd (g * k) (unsigned_abs (pos k *ℤ z)) ≡ gcd g (unsigned_abs z) * k = ap (gcd (g * k)) size ∙ gcd-scaled g (unsigned_abs z) k hk in
    ap (λ h. common h (map (λ c. pos k *ℤ c) zs)) here ∙ common-scaled (gcd g (unsigned_abs z)) k zs hk

common-positive : (g : ℕ) (zs : List ℤ) → 0 < g → 0 < common g zs
common-positive g [] hg = hg
common-positive g (z ∷ zs) hg =
    common-positive (gcd g (unsigned_abs z)) zs (subst (λ h. 0 < h) (gcd-swap (unsigned_abs z) g) (gcd-positive (unsigned_abs z) g hg))

-- one number above 0 is enough
common-some : (g j : ℕ) (zs more : List ℤ) → j < length zs → 0 < unsigned_abs (number_at j zs) → 0 < common g (zs ++ more)
common-some g j [] more lt h = absurd (omega arith)
common-some g zero (z ∷ zs) more lt h = common-positive (gcd g (unsigned_abs z)) (zs ++ more) (gcd-positive g (unsigned_abs z) h)
common-some g (suc j) (z ∷ zs) more lt h = common-some (gcd g (unsigned_abs z)) j zs more (omega arith) h

-- ---- multiples of a row

map-numbers : (k : ℤ) (zs : List ℤ) (y : ℤ) → map (λ c. k *ℤ c) (zs ++ y ∷ []) ≡ map (λ c. k *ℤ c) zs ++ (k *ℤ y) ∷ []
map-numbers k [] y = refl
map-numbers k (z ∷ zs) y = ap (λ ys. (k *ℤ z) ∷ ys) (map-numbers k zs y)

at_least_one : (n : ℕ) → 0 < n → max 1 n ≡ n
at_least_one n h = omega arith

times-positive : (a b : ℕ) → 0 < a → 0 < b → 0 < a * b
times-positive zero b ha hb = absurd (omega arith)
times-positive (suc a) zero ha hb = absurd (omega arith)
times-positive (suc a) (suc b) ha hb = omega arith

divisor-times : (k : ℕ) (r : Row) → 0 < k → 0 < common 0 (numbers r) → divisor (times (pos k) r) ≡ divisor r * k
unfolding divisor
divisor-times k r hk some =
    let e : common 0 (map (λ c. pos k *ℤ c) r.coef ++ (pos k *ℤ r.cst) ∷ []) ≡ common 0 (numbers r) * k =
    ap (common 0) (sym (map-numbers (pos k) r.coef r.cst))
    ∙ ap (λ g. common g (map (λ c. pos k *ℤ c) (numbers r))) (sym (zero-mul k)) ∙ common-scaled 0 k (numbers r) hk in
    ap (max 1) e ∙ at_least_one (common 0 (numbers r) * k) (times-positive (common 0 (numbers r)) k some hk)
    ∙ ap (λ n. n * k) (sym (at_least_one (common 0 (numbers r)) some))

same_part : (k d : ℕ) (x y : ℤ) → pos 0 <ℤ pos (d * k) → pos (d * k) *ℤ x ≡ pos k *ℤ (pos d *ℤ y) → x ≡ y
same_part k d x y h e =
    let turned : pos k *ℤ (pos d *ℤ y) ≡ pos (d * k) *ℤ y = sym (mul_assoc_int (pos k) (pos d) y) ∙ ap (λ (n : ℕ). pos n *ℤ y) (mul_comm k d) in
    same_cancel (pos (d * k)) x y h (e ∙ turned)

-- k * d times these numbers are k times d times those
same_parts : (k d : ℕ) (xs ys : List ℤ) → pos 0 <ℤ pos (d * k) → map (λ c. pos (d * k) *ℤ c) xs ≡ map (λ c. pos k *ℤ c) (map (λ c. pos d *ℤ c) ys) → xs ≡ ys
same_parts k d [] [] h e = refl
same_parts k d [] (y ∷ ys) h e = absurd (let f : ⊥ = cc in f)
same_parts k d (x ∷ xs) [] h e = absurd (let f : ⊥ = cc in f)
same_parts k d (x ∷ xs) (y ∷ ys) h e =
    let head : pos (d * k) *ℤ x ≡ pos k *ℤ (pos d *ℤ y) = cc in
    let tail : map (λ c. pos (d * k) *ℤ c) xs ≡ map (λ c. pos k *ℤ c) (map (λ c. pos d *ℤ c) ys) = cc in
    let here : x ≡ y = same_part k d x y h head in
    let rest = same_parts k d xs ys h tail in cc

-- of a row that is not 0, a multiple divided is the row divided
divided-times : (k : ℕ) (r : Row) → 0 < k → 0 < common 0 (numbers r) → divided (times (pos k) r) ≡ divided r
unfolding divided
divided-times k r hk some =
    let d : ℕ = divisor r in
    let factor = divisor-times k r hk some in
    let hd : pos 0 <ℤ pos (d * k) = (let h = times-positive d k (divisor-pos r) hk in omega (arith, ints, h)) in
    let left : times (pos (d * k)) (divided (times (pos k) r)) ≡ times (pos k) r =
    ap (λ n. times (pos n) (divided (times (pos k) r))) (sym factor) ∙ times-divided (times (pos k) r) in
    let right : times (pos k) (times (pos d) (divided r)) ≡ times (pos k) r = ap (times (pos k)) (times-divided r) in
    let both : times (pos (d * k)) (divided (times (pos k) r)) ≡ times (pos k) (times (pos d) (divided r)) = left ∙ sym right in
    let coefs = same_parts k d (divided (times (pos k) r)).coef (divided r).coef hd (ap (λ (s : Row). s.coef) both) in
    let csts = same_part k d (divided (times (pos k) r)).cst (divided r).cst hd (ap (λ (s : Row). s.cst) both) in
    λ i. record { coef = coefs i; cst = csts i; strict = r.strict }

-- ---- rows of one column

scaled_zeros : (k c : ℤ) (n x : ℕ) → map (λ z. k *ℤ z) (set (zeros n) x c) ≡ set (zeros n) x (k *ℤ c)
scaled_zeros k c zero x = refl
scaled_zeros k c (suc n) zero = ap (λ zs. (k *ℤ c) ∷ zs) (all_zero n)
  where
    all_zero : (n : ℕ) → map (λ z. k *ℤ z) (zeros n) ≡ zeros n
    all_zero zero = refl
    all_zero (suc n) = let z : k *ℤ pos 0 ≡ pos 0 = omega (arith, ints) in let rest = all_zero n in cc
scaled_zeros k c (suc n) (suc x) = let z : k *ℤ pos 0 ≡ pos 0 = omega (arith, ints) in let rest = scaled_zeros k c n x in cc

row_of-scaled : (k : ℕ) (n x : ℕ) (c b : ℤ) → x < n → 0 < k → 0 < unsigned_abs c → divided (row_of n x (pos k *ℤ c) (pos k *ℤ b)) ≡ divided (row_of n x c b)
row_of-scaled k n x c b hx hk hc =
    let lt : x < length (zeros n) = omega (arith, length-zeros n) in
    let at : number_at x (set (zeros n) x c) ≡ c = get_or-set_same (zeros n) x c (pos 0) lt in
    let row : times (pos k) (row_of n x c b) ≡ row_of n x (pos k *ℤ c) (pos k *ℤ b) = ap (λ zs. record { coef = zs; cst = pos k *ℤ b; strict = false }) (scaled_zeros (pos k) c n x) in
    let some : 0 < common 0 (numbers (row_of n x c b)) =
    common-some 0 x (set (zeros n) x c) (b ∷ []) (omega (arith, length-set (zeros n) x c)) (subst (λ z. 0 < unsigned_abs z) (sym at) hc) in
    ap divided (sym row) ∙ divided-times k (row_of n x c b) hk some

size_negative : (z : ℤ) → pos 0 <ℤ z → 0 < unsigned_abs (neg_ℤ z)
size_negative (pos zero) h = absurd (omega (arith, ints))
size_negative (pos (suc n)) h = omega arith
size_negative (negsuc n) h = absurd (omega (arith, ints))

module _ (n x : ℕ) (v : Fraction) (hx : x < n) (hv : IsFraction v) where
  factor_positive : 0 < shared v
  factor_positive = let h = shared-positive v hv in omega (arith, ints, h)

  lowest_size : 0 < unsigned_abs (lowest v).den
  lowest_size = size-positive (lowest v).den (lowest-IsFraction v hv)

  pub at_most-lowest : at_most n x (lowest v) ≡ at_most n x v
  at_most-lowest =
      let num : pos (shared v) *ℤ neg_ℤ (lowest v).num ≡ neg_ℤ v.num = mul_neg (pos (shared v)) (lowest v).num ∙ ap neg_ℤ (lowest-num v) in
      sym (row_of-scaled (shared v) n x (lowest v).den (neg_ℤ (lowest v).num) hx factor_positive lowest_size)
      ∙ ap₂ (λ (c b : ℤ). divided (row_of n x c b)) (lowest-den v) num

  pub at_least-lowest : at_least n x (lowest v) ≡ at_least n x v
  at_least-lowest =
      let den : pos (shared v) *ℤ neg_ℤ (lowest v).den ≡ neg_ℤ v.den = mul_neg (pos (shared v)) (lowest v).den ∙ ap neg_ℤ (lowest-den v) in
      let size : 0 < unsigned_abs (neg_ℤ (lowest v).den) = (let h = lowest-IsFraction v hv in size_negative (lowest v).den h) in
      sym (row_of-scaled (shared v) n x (neg_ℤ (lowest v).den) (lowest v).num hx factor_positive size)
      ∙ ap₂ (λ (c b : ℤ). divided (row_of n x c b)) den (lowest-num v)
