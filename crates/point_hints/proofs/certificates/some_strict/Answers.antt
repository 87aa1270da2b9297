use Rattle.std.proofs.Common.{◌≡◌, ◌∙◌, sym, true, false, SFits, rules, pos, get_or}
use Rattle.std.specs.Int.{w128}
use Rattle.std.proofs.lemmas.Int.{to_z-of_z}
use Rattle.point_hints.specs.Summing.{is_strict_part}
use Rattle.point_hints.proofs.SumLemmas.{strict_more, strict_end}
use Rattle.point_hints.proofs.certificates.some_strict.Goals as goal

pub returns-then-is_strict_part : goal.returns-then-is_strict_part
returns-then-is_strict_part c =
    let a : SFits w128 (get_or c.args.factors.now c.loop-at.at (pos 0)) = search rules in
    let told : true ≡ is_strict_part (get_or c.args.factors.now c.loop-at.at (pos 0)) c.index-rows-at.result =
    simp (to_z-of_z, a) at c.if-is_strict_part.ensures in
    let more = strict_more c.args.factors.now c.args.rows.now c.loop-at.at c.index-rows-at.result c.loop-at-test.true c.requires.sized c.index-rows-at.is in
    sym (c.loop-at.invariant ∙ rw (← told) at more)

pub loop-at-preserved : goal.loop-at-preserved
loop-at-preserved c =
    let a : SFits w128 (get_or c.args.factors.now c.loop-at.at (pos 0)) = search rules in
    let told : false ≡ is_strict_part (get_or c.args.factors.now c.loop-at.at (pos 0)) c.index-rows-at.result =
    simp (to_z-of_z, a) at c.if-is_strict_part.ensures in
    let more = strict_more c.args.factors.now c.args.rows.now c.loop-at.at c.index-rows-at.result c.loop-at-test.true c.requires.sized c.index-rows-at.is in
    c.loop-at.invariant ∙ rw (← told) at more

pub returns : goal.returns
returns c =
    sym (c.loop-at.invariant ∙ strict_end c.args.factors.now c.args.rows.now c.loop-at.at c.loop-at-test.false c.requires.sized)
