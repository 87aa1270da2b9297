use Rattle.std.proofs.Common.{rules, take, ◌∷◌, [], pos}
use Rattle.sample_succ.proofs.GapStartLemmas.{timed_kept}
use Rattle.sample_succ.proofs.gap_starts.timed.Goals as goal

pub joined-requires : goal.joined-requires
joined-requires c = record {
  kept = timed_kept c.args.m c.args.row.now c.requires.few c.coef-coef.ensures.kept
      []
      (take c.args.m c.coef-coef.result.now)
      (pos 0 ∷ [])
      c.requires.wide (search rules) (search rules) (search rules);
}
