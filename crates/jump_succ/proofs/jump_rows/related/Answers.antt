use Rattle.std.proofs.Common.{rules, arith, length, ◌-◌, get_or, take, drop, to_z, of_z, ◌∷◌, [], pos}
use Rattle.std.specs.Int.{w128}
use Rattle.std.proofs.lemmas.Grind.{common_steps}
use Rattle.jump_succ.proofs.JumpRowLemmas.{related_kept}
use Rattle.jump_succ.proofs.jump_rows.related.Goals as goal

pub joined-requires : goal.joined-requires
joined-requires c = record {
  kept = related_kept c.args.m c.args.row.now c.requires.few c.coef-coef.ensures.kept
      (take (length c.coef-coef.result.now - c.args.m) (drop c.args.m c.coef-coef.result.now))
      (pos 0 ∷ [])
      (take c.args.m c.coef-coef.result.now)
      c.requires.wide (grind (arith, common_steps)) (search rules) (search rules);
}
