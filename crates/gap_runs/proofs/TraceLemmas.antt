-- The numbers of a gap, one part after the other.
use Rattle.std.proofs.Common.{◌≡◌, ℕ, ◌+◌, ◌-◌, ◌<◌, ◌≤◌, List, [], ◌∷◌, length, length-append, drop, get_or, map, refl, sym, ◌∙◌, ap, subst, arith, pos, ◌<ℤ◌}
use Rattle.std.specs.Prelude.{All}
use Rattle.std.specs.Int.{◌∣◌}
use Rattle.std.specs.List.{AllByRecursion}
use Rattle.std.proofs.lemmas.Int.{ints}
use Rattle.std.proofs.lemmas.List.{length-map, length-drop, get_or_default}
use Rattle.std.proofs.lemmas.List.Elements.{recursion_from_All}
use Rattle.frac128.proofs.CommonLemmas.{den_of, each_divides, common_positive}
use Rattle.column_pick.proofs.CommonLemmas.{over_common}
use Rattle.column_pick.specs.Picked.{numbers_of, IsPickedPoint}
use Rattle.poly_specs.proofs.LowestLemmas.{same-lowest}
use Rattle.poly_specs.specs.Arithmetic.{lowest, sum_numbers, IsKept}
use Rattle.poly_specs.specs.Bits.{NonePasses, SomePasses}
use Rattle.fm_eliminate.proofs.HoldingLemmas.{some_passes}
use Rattle.poly_specs.specs.Denominators.{common_den, num_over}
use Rattle.poly_specs.specs.Fractions.{Fraction, IsFraction, fractions, opposite, zero_fraction}
use Rattle.poly_specs.specs.Rows.{Point}
use Rattle.poly_specs.specs.Systems.{System}
use Rattle.gap_runs.specs.Befores.{common_point}
use Rattle.gap_runs.specs.Traces.{BackValue, after_of, ArePickedAfter}
use Rattle.gap_runs.proofs.PartLemmas.{picked_numbers}

-- ---- fractions in lowest terms, over their least common denominator and back

back_again : (d : ℕ) (xs : List Fraction) → 0 < d → AllByRecursion IsKept xs → AllByRecursion (λ x. den_of x ∣ d) xs →
    map lowest (fractions (pos d) (map (num_over d) xs)) ≡ xs
back_again d [] hd kept each = refl
back_again d (x ∷ xs) hd kept each =
    let over : Fraction = record { num = num_over d x; den = pos d } in
    let h : pos 0 <ℤ pos d = omega (arith, ints, hd) in
    let first : lowest over ≡ x = same-lowest over x h kept.0.positive (over_common x d kept.0.positive hd each.0) ∙ kept.0.lowest_terms in
    ap (λ y. y ∷ map lowest (fractions (pos d) (map (num_over d) xs))) first ∙ ap (λ ys. x ∷ ys) (back_again d xs hd kept.1 each.1)

positives : (xs : List Fraction) → AllByRecursion IsKept xs → AllByRecursion IsFraction xs
positives [] h = tt
positives (x ∷ xs) h = (h.0.positive, positives xs h.1)

pub numbers_common : (xs : List Fraction) → All IsKept xs → numbers_of (common_point xs) ≡ xs
numbers_common xs kept =
    let each : AllByRecursion IsKept xs = recursion_from_All IsKept xs kept in
    back_again (common_den xs) xs (common_positive xs (positives xs each)) each (each_divides xs)

-- ---- the numbers of a picked point

pub picked_after : (s : System) (xs numbers : List Fraction) (after p : Point) → All IsKept xs → after ≡ common_point xs → IsPickedPoint s (numbers_of after) p → numbers ≡ numbers_of p →
    ArePickedAfter s xs numbers
picked_after s xs numbers after p kept e is f =
    let given : numbers_of after ≡ xs = ap (λ q. numbers_of q) e ∙ numbers_common xs kept in
    let is' : IsPickedPoint s xs p = subst (λ ys. IsPickedPoint s ys p) given is in
    subst (ArePickedAfter s xs) (sym (f ∙ picked_numbers s xs p is')) (record { point = p; lowest_terms = is'.lowest_terms; picked = is'.picked })

pub after_length : (m : ℕ) (b : BackValue) → m ≤ length b.numbers → length (common_point (after_of m b)).num ≡ m + 1
after_length m b h =
    length-map (after_of m b) (num_over (common_den (after_of m b)))
    ∙ omega (arith, length-append (drop (length b.numbers - m) b.numbers) (b.elapsed ∷ []), length-drop (length b.numbers - m) b.numbers, h)

-- ---- subtracting a length passes

pub minus_passes : (elapsed told : Fraction) (numbers : List Fraction) (m n : ℕ) (v : Fraction) → elapsed ≡ told → v ≡ get_or numbers (n + 1) v → n ≡ m → m + 1 < length numbers →
    (NonePasses (sum_numbers elapsed (opposite v)) → ⊥) → SomePasses (sum_numbers told (opposite (get_or numbers (m + 1) zero_fraction)))
minus_passes elapsed told numbers m n v e f g h none =
    let at : v ≡ get_or numbers (m + 1) zero_fraction = f ∙ ap (λ k. get_or numbers (k + 1) v) g ∙ get_or_default numbers (m + 1) v zero_fraction h in
    some_passes (sum_numbers told (opposite (get_or numbers (m + 1) zero_fraction)))
    (λ all. none (subst (λ w. NonePasses (sum_numbers elapsed (opposite w))) (sym at) (subst (λ w. NonePasses (sum_numbers w (opposite (get_or numbers (m + 1) zero_fraction)))) (sym e) all)))
