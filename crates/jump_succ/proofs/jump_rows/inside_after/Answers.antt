use Rattle.std.proofs.Common.{rules, get_or, take, drop, to_z, of_z, ◌∷◌, [], pos}
use Rattle.std.specs.Int.{w128}
use Rattle.jump_succ.proofs.JumpRowLemmas.{inside_after_kept}
use Rattle.jump_succ.proofs.jump_rows.inside_after.Goals as goal

pub joined-requires : goal.joined-requires
joined-requires c = record {
  kept = inside_after_kept c.args.m c.args.row.now c.requires.few c.coef.ensures.kept
      c.coef.result.now
      []
      c.as_slice.result.now
      c.requires.wide (search rules) (search rules) (search rules);
}
