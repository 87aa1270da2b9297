-- The numbers of the given point, with which some point of the whole system begins.
use Rattle.std.proofs.Common.{◌≡◌, ℕ, ◌+◌, ◌-◌, ◌<◌, ◌≤◌, List, [], ◌∷◌, ◌++◌, length, length-append, take, replicate, get_or, sym, ◌∙◌, ap, subst, arith, ℤ, pos, ◌<ℤ◌}
use Rattle.std.specs.Prelude.{All}
use Rattle.std.proofs.Math.ListN.{get_or-append}
use Rattle.std.proofs.lemmas.List.{length-map, length-replicate, get_or-map, take_more}
use Rattle.poly_specs.proofs.FractionLemmas.{same-trans}
use Rattle.poly_specs.proofs.LowestLemmas.{lowest-IsFraction, lowest-same}
use Rattle.poly_specs.specs.Arithmetic.{lowest}
use Rattle.poly_specs.specs.Fractions.{Fraction, SameFraction, zero_fraction, fractions}
use Rattle.poly_specs.specs.LowestTerms.{IsLowest}
use Rattle.poly_specs.specs.Lists.{number_at}
use Rattle.poly_specs.specs.Rows.{Point, coordinate, AllHold, over}
use Rattle.poly_specs.specs.Systems.{System, Levels, AreLevels, IsLevel, no_system}
use Rattle.column_pick.proofs.GapLemmas.{lowest_is}
use Rattle.column_pick.proofs.NextLemmas.{before_coordinates}
use Rattle.column_pick.specs.Fixed.{padded}
use Rattle.column_pick.specs.Nexts.{whole_of, HasFirst}
use Rattle.column_pick.specs.Picked.{numbers_of}

-- a number of the point
abbrev pub at : Point → ℕ → Fraction
at p i = record { num = get_or p.num i (pos 0); den = p.den }

pub length-numbers : (p : Point) → length (numbers_of p) ≡ length p.num
length-numbers p = length-map (fractions p.den p.num) lowest ∙ length-map p.num (λ n. record { num = n; den = p.den })

number_is : (p : Point) (i : ℕ) (d : Fraction) → i < length p.num → get_or (numbers_of p) i d ≡ lowest (at p i)
number_is p i d h =
    let len : length (fractions p.den p.num) ≡ length p.num = length-map p.num (λ n. record { num = n; den = p.den }) in
    get_or-map lowest (fractions p.den p.num) i zero_fraction d (omega (arith, h, len))
    ∙ ap lowest (get_or-map (λ n. record { num = n; den = p.den }) p.num i (pos 0) zero_fraction h)

pub numbers_more : (p : Point) (i : ℕ) → i < length p.num → take (i + 1) (numbers_of p) ≡ take i (numbers_of p) ++ lowest (at p i) ∷ []
numbers_more p i h =
    take_more (numbers_of p) i zero_fraction (omega (arith, h, length-numbers p)) ∙ ap (λ v. take i (numbers_of p) ++ v ∷ []) (number_is p i zero_fraction h)

pub numbers_lowest : (p : Point) → pos 0 <ℤ p.den → All IsLowest (numbers_of p)
numbers_lowest p h k d lt =
    let l : k < length p.num = omega (arith, lt, length-numbers p) in
    subst IsLowest (sym (number_is p k d l)) (lowest_is (at p k) h)

-- where the first level holds, some point of the whole system begins so
pub start_point : (l : Levels) (p : Point) → AreLevels l.first (whole_of l) l → l.first ≤ (whole_of l).width → length p.num ≡ l.first → pos 0 <ℤ p.den →
    AllHold (get_or l.systems 0 no_system).rows (over p.den (padded (whole_of l).width p.num)) → (q : Point) × HasFirst (whole_of l) (numbers_of p) q
start_point l p are fits sized hp holds =
    let s : System = whole_of l in
    let n : ℕ = s.width in
    let base : Point = over p.den (padded n p.num) in
    let zeros : List ℤ = replicate (n - length p.num) (pos 0) in
    let first : l.first + 0 ≡ l.first = omega arith in
    let level : IsLevel n l.first s.rows (get_or l.systems 0 no_system).rows = subst (λ c. IsLevel n c s.rows (get_or l.systems 0 no_system).rows) first (are.each 0 (omega (arith, fits))) in
    let long : length base.num ≡ n = omega (arith, length-append p.num zeros, length-replicate (n - length p.num) (pos 0), fits, sized) in
    let (q, ext) = (level.same base hp long).0 holds in (
      q,
      record {
        point = record { positive = ext.positive; sized = ext.sized; holds = ext.holds };
        agrees = λ j h.
            let lt : j < length p.num = omega (arith, h, length-numbers p) in
            let there : number_at j base.num ≡ number_at j p.num = get_or-append p.num zeros (pos 0) j lt in
            let same : SameFraction (coordinate j base) (coordinate j q) = before_coordinates l.first j base q ext.same (omega (arith, lt, sized)) in
            let here : SameFraction (coordinate j q) (at p j) = subst (λ z. SameFraction (coordinate j q) (record { num = z; den = p.den })) there (sym same) in
            subst (SameFraction (coordinate j q)) (sym (number_is p j zero_fraction lt))
            (same-trans (coordinate j q) (at p j) (lowest (at p j)) ext.positive hp (lowest-IsFraction (at p j) hp) here (sym (lowest-same (at p j))));
      },
    )
