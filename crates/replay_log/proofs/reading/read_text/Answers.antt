use Rattle.std.proofs.Common.{arith}
use Rattle.replay_log.proofs.ReadingLemmas.{read_nothing, read_more, is_whole, still_within}
use Rattle.replay_log.proofs.reading.read_text.Goals as goal

pub reads-init : goal.reads-init
reads-init g c = record { consumed = read_nothing _ _ c.new-text.ensures.items; later = omega arith }

pub returns-then-branch-eq0-clause-text : goal.returns-then-branch-eq0-clause-text
returns-then-branch-eq0-clause-text g c =
    is_whole _ _ c.gain.new.text.items (read_more _ _ _ c.reads.text.items c.gain.new.text.items _ c.reads.invariant.consumed c.in_ok-gain.ensures.gains)
    (c.in_ok-gain.ensures.end c.if-branch-eq0.true)
    (still_within _ _ c.reads.text.items c.gain.new.text.items _ 16777216 c.in_ok-gain.ensures.gains c.if-branch-eq0.true (let t = c.reads-test.true in let l = c.len.ensures in omega (arith, t, l)))

pub reads-preserved : goal.reads-preserved
reads-preserved g c = record {
  consumed = read_more _ _ _ c.reads.text.items c.gain.new.text.items _ c.reads.invariant.consumed c.in_ok-gain.ensures.gains;
  later = let before = c.reads.invariant.later in let now = c.in_ok-gain.ensures.later in omega (arith, before, now);
}
