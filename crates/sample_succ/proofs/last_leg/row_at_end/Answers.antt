use Rattle.std.proofs.Common.{rules, []}
use Rattle.sample_succ.proofs.LastLegLemmas.{end_kept}
use Rattle.sample_succ.proofs.last_leg.row_at_end.Goals as goal

pub joined-requires : goal.joined-requires
joined-requires c = record {
  kept = end_kept c.args.m c.args.row.now c.coef.result.now [] c.as_slice.result.now c.requires.few c.coef.ensures.kept
      c.requires.wide (search rules) (search rules) (search rules);
}
