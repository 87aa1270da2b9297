use Rattle.std.proofs.Common.{rules, get_or, take, to_z, of_z, ◌∷◌, [], pos}
use Rattle.std.specs.Int.{w128}
use Rattle.time_succ.proofs.LegRowLemmas.{inside_before_kept}
use Rattle.time_succ.proofs.leg_rows.inside_before.Goals as goal

pub joined-requires : goal.joined-requires
joined-requires c = record {
  kept = inside_before_kept c.args.m c.args.row.now c.requires.few c.coef.ensures.kept
      c.as_slice.result.now
      []
      c.coef.result.now
      c.requires.wide (search rules) (search rules) (search rules);
}
