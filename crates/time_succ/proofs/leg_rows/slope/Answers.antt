use Rattle.std.proofs.Common.{rules, get_or, take, to_z, of_z, ◌∷◌, [], pos}
use Rattle.std.specs.Int.{w128}
use Rattle.time_succ.proofs.LegRowLemmas.{slope_kept}
use Rattle.time_succ.proofs.leg_rows.slope.Goals as goal

pub joined-requires : goal.joined-requires
joined-requires c = record {
  kept = slope_kept c.args.m c.args.row.now c.requires.few c.coef-coef.ensures.kept
      (take c.args.m c.coef-coef.result.now)
      (pos 0 ∷ to_z w128 (of_z w128 (get_or c.coef-coef.result.now c.args.m (pos 0))) ∷ [])
      c.as_slice.result.now
      c.requires.wide (search rules) (search rules) (search rules);
}
