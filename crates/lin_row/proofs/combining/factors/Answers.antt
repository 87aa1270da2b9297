use Rattle.std.proofs.Common.{◌≡◌, ◌∙◌, ◌<◌, ℕ, ℤ, ap₂, arith, pos, ◌<ℤ◌, unsigned_abs}
use Rattle.std.proofs.lemmas.Int.{ints}
use Rattle.poly_specs.proofs.GcdLemmas.{gcd-positive}
use Rattle.poly_specs.proofs.LowestLemmas.{size-positive}
use Rattle.poly_specs.specs.Elimination.{gcd}
use Rattle.lin_row.proofs.combining.factors.Goals as goal

positive : (l u : ℤ) (a b g : ℕ) → a ≡ unsigned_abs l → b ≡ unsigned_abs u → g ≡ gcd a b → pos 0 <ℤ u → 0 < g
positive l u a b g left right is above =
    let e = is ∙ ap₂ gcd left right in let p = gcd-positive (unsigned_abs l) (unsigned_abs u) (size-positive u above) in omega (arith, e, p)

pub whole_part-requires : goal.whole_part-requires
whole_part-requires c =
    positive c.args.lower c.args.upper c.unsigned_abs-a.result c.unsigned_abs-b.result c.greatest_divisor-shared.result (omega (arith, ints)) (omega (arith, ints))
    c.greatest_divisor-shared.ensures c.requires.upper

pub whole_part-requires-2 : goal.whole_part-requires-2
whole_part-requires-2 c =
    positive c.args.lower c.args.upper c.unsigned_abs-a.result c.unsigned_abs-b.result c.greatest_divisor-shared.result (omega (arith, ints)) (omega (arith, ints))
    c.greatest_divisor-shared.ensures c.requires.upper
