use Rattle.std.proofs.Common.{◌≡◌, ◌∙◌, ◌+◌, SFits, rules, pos, get_or, ◌+ℤ◌, ◌*ℤ◌}
use Rattle.std.specs.Int.{w128}
use Rattle.std.proofs.lemmas.Int.{to_z-of_z}
use Rattle.lin_row.proofs.MixLemmas.{MixSoFar, mixed_sums, mix_more, mix_all}
use Rattle.poly_specs.specs.Bits.{NonePasses}
use Rattle.lin_row.specs.Mixing.{MixFits, mixed_numbers}
use Rattle.lin_row.proofs.combining.small_mixed_coef.Goals as goal

pub loop-i-preserved : goal.loop-i-preserved
loop-i-preserved c =
    let a : SFits w128 (get_or c.args.lower.now c.loop-i.i (pos 0)) = search rules in
    let b : SFits w128 (get_or c.args.upper.now c.loop-i.i (pos 0)) = search rules in
    let s : SFits w128 c.narrow_sum.result = search rules in
    let p = c.ranges.p in
    let q = c.ranges.q in
    let so_far : MixSoFar c.args.p c.args.lower.now c.args.q c.args.upper.now c.loop-i.i c.loop-i.sums.items = simp (to_z-of_z, p, q) at c.loop-i.invariant.0 in
    let fits : MixFits c.args.p (get_or c.args.lower.now c.loop-i.i (pos 0)) c.args.q (get_or c.args.upper.now c.loop-i.i (pos 0)) =
    simp (to_z-of_z, a, b, p, q) at c.narrow_sum.ensures.fits in
    let value : c.narrow_sum.result ≡ c.args.p *ℤ get_or c.args.lower.now c.loop-i.i (pos 0) +ℤ c.args.q *ℤ get_or c.args.upper.now c.loop-i.i (pos 0) =
    simp (to_z-of_z, a, b, p, q) at c.narrow_sum.ensures.value in
    let more = mix_more c.args.p c.args.lower.now c.args.q c.args.upper.now c.loop-i.i c.loop-i.sums.items so_far c.loop-i-test.true c.requires.sized fits in
    let whole : MixSoFar c.args.p c.args.lower.now c.args.q c.args.upper.now (c.loop-i.i + 1) c.push_reserved.new.self.items =
    rw c.push_reserved.ensures.items (simp (to_z-of_z, s) (rw value more)) in
    (simp (to_z-of_z, p, q) whole, c.push_reserved.ensures.capacity ∙ c.loop-i.invariant.1)

module _ (c : goal.After-loop-i) where
  all : NonePasses (mixed_numbers c.args.p c.args.lower.now c.args.q c.args.upper.now) × (c.loop-i.sums.items ≡ mixed_sums c.args.p c.args.lower.now c.args.q c.args.upper.now)
  all =
      let p = c.ranges.p in
      let q = c.ranges.q in
      let so_far : MixSoFar c.args.p c.args.lower.now c.args.q c.args.upper.now c.loop-i.i c.loop-i.sums.items = simp (to_z-of_z, p, q) at c.loop-i.invariant.0 in
      mix_all c.args.p c.args.lower.now c.args.q c.args.upper.now c.loop-i.i c.loop-i.sums.items so_far c.loop-i-test.false c.requires.sized

pub returns-clause-fits : goal.returns-clause-fits
returns-clause-fits c = (all c).0

pub returns-clause-items : goal.returns-clause-items
returns-clause-items c = (all c).1
