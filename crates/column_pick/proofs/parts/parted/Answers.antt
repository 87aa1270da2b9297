use Rattle.std.proofs.Common.{◌≡◌, SFits, pos, rules}
use Rattle.std.specs.Int.{w128}
use Rattle.std.proofs.lemmas.Int.{to_z-of_z}
use Rattle.poly_specs.specs.Arithmetic.{lowest}
use Rattle.column_pick.proofs.PartedLemmas.{product_parted}
use Rattle.column_pick.proofs.parts.parted.Goals as goal

pub returns : goal.returns
returns c =
    let fits : SFits w128 c.args.parts = search rules in
    let made : c.make.result ≡ lowest (record { num = pos 1; den = c.args.parts }) = simp (to_z-of_z, fits) at c.make.ensures in
    product_parted c.mul.result c.args.x.now c.make.result c.args.parts c.see_kept.ensures.positive c.see_kept.ensures.lowest_terms c.requires made c.mul.ensures
