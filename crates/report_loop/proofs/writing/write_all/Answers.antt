use Rattle.std.proofs.Common.{rules, arith}
use Rattle.report_loop.proofs.WriteLemmas.{wrote_more}
use Rattle.report_loop.proofs.writing.write_all.Goals as goal

pub loop-at-preserved : goal.loop-at-preserved
loop-at-preserved g c =
    let i = c.loop-at.invariant in
    let k = c.in_ok-n.ensures in
    let before = i.later in
    let now = k.later in
    record {
      bound = search rules;
      written = wrote_more _ _ _ c.loop-at.at c.in_ok-n.n c.args.bytes.now i.written k.bytes;
      later = omega (arith, before, now);
    }
