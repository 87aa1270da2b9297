use Rattle.std.proofs.Common.{rules, get_or, take, drop, to_z, of_z, ◌∷◌, [], pos}
use Rattle.std.specs.Int.{w128}
use Rattle.jump_succ.proofs.JumpRowLemmas.{before_kept}
use Rattle.jump_succ.proofs.jump_rows.before.Goals as goal

pub joined-requires : goal.joined-requires
joined-requires c = record {
  kept = before_kept c.args.m c.args.row.now c.requires.few c.coef-coef.ensures.kept
      c.as_slice.result.now
      (to_z w128 (of_z w128 (get_or c.coef-coef.result.now c.args.m (pos 0))) ∷ [])
      (take c.args.m c.coef-coef.result.now)
      c.requires.wide (search rules) (search rules) (search rules);
}
