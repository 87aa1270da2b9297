-- The numbers that are picked, as those of the picked point.
use Rattle.std.proofs.Common.{◌≡◌, [], ◌∷◌, ◌++◌, take, ℕ, ◌+◌, ◌<◌, List, drop, map, length, get_or, sym, ◌∙◌, ap, subst, arith, pos}
use Rattle.std.proofs.lemmas.List.{ext_get_or, get_or-map, length-map, drop-map, take_more}
use Rattle.std.proofs.lemmas.List.Elements.{All-drop}
use Rattle.poly_specs.proofs.LowestLemmas.{same-lowest}
use Rattle.poly_specs.specs.Arithmetic.{lowest}
use Rattle.poly_specs.specs.Bits.{FitsBits, NonePasses}
use Rattle.poly_specs.specs.Denominators.{common_numbers}
use Rattle.poly_specs.specs.KeptRows.{IsKeptPoint}
use Rattle.gap_runs.proofs.LeastLemmas.{common_fits}
use Rattle.poly_specs.specs.Fractions.{Fraction, fractions, zero_fraction}
use Rattle.poly_specs.specs.LowestTerms.{IsLowest}
use Rattle.poly_specs.specs.Rows.{Point, Row, coordinate}
use Rattle.poly_specs.specs.Systems.{System}
use Rattle.column_pick.specs.Picked.{numbers_of, IsPickedPoint}
use Rattle.run_specs.specs.Automaton.{Automaton, width}
use Rattle.gap_runs.specs.Befores.{leg_columns, jump_columns, common_point, IsLegBefore, IsJumpBefore}

pub length-numbers : (p : Point) → length (numbers_of p) ≡ length p.num
length-numbers p = length-map (fractions p.den p.num) lowest ∙ length-map p.num (λ n. record { num = n; den = p.den })

pub number_is : (p : Point) (j : ℕ) → j < length p.num → get_or (numbers_of p) j zero_fraction ≡ lowest (coordinate j p)
number_is p j h =
    let len : length (fractions p.den p.num) ≡ length p.num = length-map p.num (λ n. record { num = n; den = p.den }) in
    get_or-map lowest (fractions p.den p.num) j zero_fraction zero_fraction (omega (arith, h, len))
    ∙ ap lowest (get_or-map (λ n. record { num = n; den = p.den }) p.num j (pos 0) zero_fraction h)

module _ (s : System) (given : List Fraction) (p : Point) (is : IsPickedPoint s given p) where
  pub picked_at : (j : ℕ) → j < s.width → lowest (coordinate j p) ≡ get_or is.numbers j zero_fraction
  picked_at j h =
      let there : j < length is.numbers = omega (arith, h, is.picked.sized) in
      let low : IsLowest (get_or is.numbers j zero_fraction) = is.lowest_terms j zero_fraction there in
      same-lowest (coordinate j p) (get_or is.numbers j zero_fraction) is.picked.point.positive low.positive (is.picked.agrees j h) ∙ low.lowest_terms

  pub picked_numbers : numbers_of p ≡ is.numbers
  picked_numbers = ext_get_or zero_fraction (numbers_of p) is.numbers (length-numbers p ∙ is.picked.point.sized ∙ sym is.picked.sized)
      (λ j h. let lt : j < length p.num = omega (arith, h, length-numbers p) in
      number_is p j lt ∙ picked_at j (omega (arith, lt, is.picked.point.sized)))

pub leg_part : (a : Automaton) (l : ℕ) (state : List Row) (after p : Point) (m : ℕ) (stay : Fraction) (start : Point) → m ≡ width a →
    IsPickedPoint (leg_columns a l state) (numbers_of after) p → stay ≡ lowest (coordinate (m + 1) p) → start ≡ common_point (drop (m + 2) (numbers_of p)) →
    IsLegBefore a l state after stay start
leg_part a l state after p m stay start e is f g = record {
  numbers = is.numbers;
  point = p;
  lowest_terms = is.lowest_terms;
  picked = is.picked;
  stay_is = f ∙ ap (λ n. lowest (coordinate (n + 1) p)) e ∙ picked_at (leg_columns a l state) (numbers_of after) p is (width a + 1) (omega arith);
  start_is = g ∙ ap (λ n. common_point (drop (n + 2) (numbers_of p))) e ∙ ap (λ xs. common_point (drop (width a + 2) xs)) (picked_numbers (leg_columns a l state) (numbers_of after) p is);
}

pub jump_part : (a : Automaton) (e : ℕ) (state : List Row) (after p : Point) (m : ℕ) (before : Point) → m ≡ width a →
    IsPickedPoint (jump_columns a e state) (numbers_of after) p → before ≡ common_point (drop (m + 1) (numbers_of p)) → IsJumpBefore a e state after before
jump_part a e state after p m before f is g = record {
  numbers = is.numbers;
  point = p;
  lowest_terms = is.lowest_terms;
  picked = is.picked;
  before_is = g ∙ ap (λ n. common_point (drop (n + 1) (numbers_of p))) f ∙ ap (λ xs. common_point (drop (width a + 1) xs)) (picked_numbers (jump_columns a e state) (numbers_of after) p is);
}

pub drop_numbers : (n : ℕ) (p : Point) → drop n (numbers_of p) ≡ map lowest (fractions p.den (drop n p.num))
drop_numbers n p = drop-map lowest n (fractions p.den p.num) ∙ ap (map lowest) (drop-map (λ z. record { num = z; den = p.den }) n p.num)

pub part_fits : (n : ℕ) (p : Point) → IsKeptPoint p → NonePasses (common_numbers (drop n (numbers_of p)))
part_fits n p kept =
    subst (λ xs. NonePasses (common_numbers xs)) (sym (drop_numbers n p)) (common_fits p.den kept.positive (drop n p.num) kept.den_fits (All-drop FitsBits n p.num kept.num_fits))

pub numbers_more : (p : Point) (i : ℕ) → i < length p.num → take (i + 1) (numbers_of p) ≡ take i (numbers_of p) ++ lowest (coordinate i p) ∷ []
numbers_more p i h =
    take_more (numbers_of p) i zero_fraction (omega (arith, h, length-numbers p)) ∙ ap (λ v. take i (numbers_of p) ++ v ∷ []) (number_is p i h)
