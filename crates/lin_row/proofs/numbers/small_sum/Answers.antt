use Rattle.std.proofs.Common.{◌≡◌, ℤ, ap, ◌<◌, ◌^◌, ◌+ℤ◌, ◌*ℤ◌, unsigned_abs, arith, to_z, of_z, ap₂, ◌∙◌}
use Rattle.std.specs.Int.{w128}
use Rattle.std.proofs.lemmas.Int.{ints, to_z-of_z, fits_signed_from_abs}
use Rattle.lin_row.proofs.numbers.small_sum.Goals as goal

module _ (c : goal.After-small_product-2) where
  left : c.small_product.result ≡ c.args.p *ℤ c.args.a
  left = let p = c.ranges.p in let a = c.ranges.a in simp (to_z-of_z, p, a) at c.small_product.ensures.value

  right : c.small_product-2.result ≡ c.args.q *ℤ c.args.b
  right = let q = c.ranges.q in let b = c.ranges.b in simp (to_z-of_z, q, b) at c.small_product-2.ensures.value

  small_left : unsigned_abs (c.args.p *ℤ c.args.a) < 2 ^ 124
  small_left = let p = c.ranges.p in let a = c.ranges.a in simp (to_z-of_z, p, a) at c.small_product.ensures.size

  small_right : unsigned_abs (c.args.q *ℤ c.args.b) < 2 ^ 124
  small_right = let q = c.ranges.q in let b = c.ranges.b in simp (to_z-of_z, q, b) at c.small_product-2.ensures.size

  as_read : (z v : ℤ) → z ≡ v → unsigned_abs v < 2 ^ 124 → to_z w128 (of_z w128 z) ≡ v
  as_read z v e few = ap (λ x. to_z w128 (of_z w128 x)) e ∙ to_z-of_z w128 v (fits_signed_from_abs w128 v (omega (arith, few)))

pub returns-clause-value : goal.returns-clause-value
returns-clause-value c =
    let few = small_left c in
    let few_more = small_right c in
    let size : unsigned_abs (c.args.p *ℤ c.args.a +ℤ c.args.q *ℤ c.args.b) < 2 ^ 127 = omega (arith, ints, few, few_more) in
    ap₂ (λ x y. to_z w128 (of_z w128 (x +ℤ y))) (as_read c c.small_product.result (c.args.p *ℤ c.args.a) (left c) few) (as_read c c.small_product-2.result (c.args.q *ℤ c.args.b) (right c) few_more)
    ∙ to_z-of_z w128 (c.args.p *ℤ c.args.a +ℤ c.args.q *ℤ c.args.b) (fits_signed_from_abs w128 _ size)
