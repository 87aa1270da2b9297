-- The combination of an equation's two rows always holds, so that both are dropped.
use Rattle.std.proofs.Common.{◌≡◌, ℕ, ◌+◌, ◌<◌, ◌≤◌, ◌/◌, Bool, true, false, not, ◌&&◌, ◌||◌, IsFalse, List, [], ◌∷◌, length, map, filter, refl, sym, ◌∙◌, ap, subst, arith, ℤ, pos, neg_ℤ, ◌+ℤ◌, ◌*ℤ◌, unsigned_abs}
use Rattle.std.specs.Prelude.{int_lt}
use Rattle.std.specs.List.{list_all}
use Rattle.std.proofs.lemmas.Int.{ints}
use Rattle.poly_specs.proofs.CombinationLemmas.{times-divided, divisor-pos}
use Rattle.poly_specs.proofs.IntLemmas.{mul_neg, zero_cancel}
use Rattle.poly_specs.specs.Elimination.{gcd, combination, divided, divisor, times, added, lower_factor, upper_factor}
use Rattle.poly_specs.specs.Lists.{plus}
use Rattle.poly_specs.specs.Rows.{Row, coef_at}
use Rattle.poly_specs.specs.Systems.{negated}
use Rattle.fm_eliminate.specs.Leaving.{IsPivot, is_zero, always_holds, is_needed, replaced}
use Rattle.fm_eliminate.proofs.CountLemmas.{two_less}
use Rattle.fm_eliminate.proofs.LeavingLemmas.{zero_is, both_true}
use Rattle.fm_eliminate.proofs.PivotLemmas.{coef-negated}
use Rattle.fm_eliminate.proofs.ProjectionLemmas.{free-is_zero, replaced_lower, replaced_upper}
use Rattle.fm_eliminate.proofs.SubstitutionLemmas.{above, abs-negated}

both_are : (a b : Bool) → a ≡ true → b ≡ true → (a && b) ≡ true
both_are a b e f = cc

-- the same multiples of a row and of its negation cancel
cancel : (k z : ℤ) → k *ℤ z +ℤ k *ℤ neg_ℤ z ≡ pos 0
cancel k z = omega (arith, ints, mul_neg k z)

cancel-all : (k : ℤ) (cs : List ℤ) → list_all is_zero (plus (map (λ c. k *ℤ c) cs) (map (λ c. k *ℤ c) (map neg_ℤ cs))) ≡ true
cancel-all k [] = refl
cancel-all k (c ∷ cs) = both_are (is_zero (k *ℤ c +ℤ k *ℤ neg_ℤ c)) _ (free-is_zero _ (cancel k c)) (cancel-all k cs)

-- a multiple is 0 only of 0
zero-times : (d : ℕ) (z : ℤ) → 0 < d → is_zero (pos d *ℤ z) ≡ true → is_zero z ≡ true
zero-times d z h e = free-is_zero z (zero_cancel (pos d) z (omega (arith, ints)) (zero_is (pos d *ℤ z) e))

zeros-times : (d : ℕ) (cs : List ℤ) → 0 < d → list_all is_zero (map (λ c. pos d *ℤ c) cs) ≡ true → list_all is_zero cs ≡ true
zeros-times d [] h e = refl
zeros-times d (c ∷ cs) h e =
    let b = both_true (is_zero (pos d *ℤ c)) _ e in
    both_are (is_zero c) (list_all is_zero cs) (zero-times d c h b.0) (zeros-times d cs h b.1)

zero-holds : (c : ℤ) (s : Bool) → is_zero c ≡ true → s ≡ false → (int_lt c (pos 0) || (is_zero c && not s)) ≡ true
zero-holds c s z e = let zero = zero_is c z in rw (zero, e) refl

divided-idle : (r : Row) → list_all is_zero r.coef ≡ true → r.cst ≡ pos 0 → r.strict ≡ false → always_holds (divided r) ≡ true
unfolding divided
divided-idle r zs z closed =
    let t = times-divided r in
    let h = divisor-pos r in
    let coef = zeros-times (divisor r) (divided r).coef h (ap (λ s. list_all is_zero s.coef) t ∙ zs) in
    let cst = zero-times (divisor r) (divided r).cst h (ap (λ s. is_zero s.cst) t ∙ free-is_zero r.cst z) in
    both_are (list_all is_zero (divided r).coef) _ coef (zero-holds (divided r).cst r.strict cst closed)

same_factors : (x : ℕ) (lower upper : Row) → unsigned_abs (coef_at x upper) ≡ unsigned_abs (coef_at x lower) → upper_factor x lower upper ≡ lower_factor x lower upper
same_factors x lower upper e = ap (λ n. n / gcd (unsigned_abs (coef_at x lower)) (unsigned_abs (coef_at x upper))) (sym e)

opposite-idle : (k m : ℕ) (lower upper : Row) → m ≡ k → upper ≡ negated lower → IsFalse lower.strict →
    always_holds (divided (added (times (pos k) lower) (times (pos m) upper))) ≡ true
opposite-idle k m lower upper e f closed =
    let open_neither : (lower.strict || lower.strict) ≡ false = cc in
    let here = divided-idle (added (times (pos k) lower) (times (pos k) (negated lower))) (cancel-all (pos k) lower.coef) (cancel (pos k) lower.cst) open_neither in
    let turned = subst (λ s. always_holds (divided (added (times (pos k) lower) (times (pos k) s))) ≡ true) (sym f) here in
    subst (λ n. always_holds (divided (added (times (pos k) lower) (times (pos n) upper))) ≡ true) (sym e) turned

pub equation-idle : (x : ℕ) (rows : List Row) (lower upper : Row) → x < length lower.coef → IsPivot x rows lower upper → always_holds (combination x lower upper) ≡ true
equation-idle x rows lower upper h pivot =
    let size : unsigned_abs (coef_at x upper) ≡ unsigned_abs (coef_at x lower) =
    ap (λ s. unsigned_abs (coef_at x s)) pivot.opposite ∙ ap unsigned_abs (coef-negated x lower h) ∙ abs-negated (coef_at x lower) in
    opposite-idle (lower_factor x lower upper) (upper_factor x lower upper) lower upper (same_factors x lower upper size) pivot.opposite pivot.closed

-- two rows fewer than there were
pub equation_count : (x : ℕ) (rows : List Row) (lower upper : Row) → x < length lower.coef → IsPivot x rows lower upper →
    length (filter is_needed (map (replaced x lower upper) rows)) + 2 ≤ length rows
equation_count x rows lower upper h pivot =
    let up = above x rows lower upper h pivot in
    let idle : is_needed (combination x lower upper) ≡ false = ap not (equation-idle x rows lower upper h pivot) in
    let below = pivot.below in
    two_less is_needed (replaced x lower upper) rows lower upper pivot.lower_in pivot.upper_in
    (λ e. let f : coef_at x lower ≡ coef_at x upper = ap (coef_at x) e in omega (arith, ints, f))
    (ap is_needed (replaced_lower x lower upper lower below) ∙ idle)
    (ap is_needed (replaced_upper x lower upper upper up) ∙ idle)
