use Rattle.std.proofs.Common.{◌≡◌, ◌<◌, length, rules, SFits, arith, get_or, pos, refl}
use Rattle.std.specs.Int.{w128}
use Rattle.std.proofs.lemmas.Int.{to_z-of_z}
use Rattle.run_specs.specs.Automaton.{width}
use Rattle.run_specs.specs.Runs.{end_point}
use Rattle.run_check.proofs.NearLemmas.{value_there, near_more, near_stop}
use Rattle.run_check.proofs.ends.sample_holds.Goals as goal

pub returns-in_err-value_is_near : goal.returns-in_err-value_is_near
returns-in_err-value_is_near c =
    let same : c.from_residual.result ≡ c.value_is_near.result = search rules in
    let f1 : SFits w128 (get_or c.at_end-end.result.now c.loop-j.j (pos 0)) = search rules in
    let f2 : SFits w128 c.den.result = search rules in
    let said = simp (c.den.ensures, c.at_end-end.ensures, c.last.ensures) at (simp (to_z-of_z, f1, f2) at c.value_is_near.ensures) in
    let size : length c.at_end-end.result.now ≡ width c.args.a.now = rw (c.at_end-end.ensures, c.last.ensures) c.requires.in_range.last in
    let lt : c.loop-j.j < width c.args.a.now = omega (arith, size, c.loop-j-test.true) in
    let there =
    value_there c.args.a.now c.args.sample.now.cells (end_point c.args.gap.now) c.loop-j.j c.index-obs-j.result c.index-cells-j.result
    (get_or c.args.gap.now.last.at_end c.loop-j.j (pos 0)) c.value_is_near.result (omega (arith, lt, c.obs.ensures.kept.tolerances.0))
    (omega (arith, lt, c.requires.sized.sized)) (rw c.obs.ensures.value at c.index-obs-j.is) (rw c.cells.ensures at c.index-cells-j.is) refl said in
    near_stop c.args.a.now c.args.sample.now.cells (end_point c.args.gap.now) (width c.args.a.now) c.loop-j.j c.from_residual.result c.value_is_near.result
    c.in_err-value_is_near.field-0.0 lt c.loop-j.invariant c.in_err-value_is_near.was same there

pub loop-j-preserved : goal.loop-j-preserved
loop-j-preserved c =
    let f1 : SFits w128 (get_or c.at_end-end.result.now c.loop-j.j (pos 0)) = search rules in
    let f2 : SFits w128 c.den.result = search rules in
    let said = simp (c.den.ensures, c.at_end-end.ensures, c.last.ensures) at (simp (to_z-of_z, f1, f2) at c.value_is_near.ensures) in
    let size : length c.at_end-end.result.now ≡ width c.args.a.now = rw (c.at_end-end.ensures, c.last.ensures) c.requires.in_range.last in
    let lt : c.loop-j.j < width c.args.a.now = omega (arith, size, c.loop-j-test.true) in
    let there =
    value_there c.args.a.now c.args.sample.now.cells (end_point c.args.gap.now) c.loop-j.j c.index-obs-j.result c.index-cells-j.result
    (get_or c.args.gap.now.last.at_end c.loop-j.j (pos 0)) c.value_is_near.result (omega (arith, lt, c.obs.ensures.kept.tolerances.0))
    (omega (arith, lt, c.requires.sized.sized)) (rw c.obs.ensures.value at c.index-obs-j.is) (rw c.cells.ensures at c.index-cells-j.is) refl said in
    near_more c.args.a.now c.args.sample.now.cells (end_point c.args.gap.now) c.loop-j.j c.value_is_near.result c.loop-j.invariant
    c.in_ok-value_is_near.was there
