use Rattle.std.proofs.Common.{◌+◌, length}
use Rattle.std.proofs.lemmas.List.{take_rest}
use Rattle.run_replay.proofs.PlusLemmas.{go_on, at_last, shorter_on}
use Rattle.run_replay.proofs.plus_signs.without_plus_signs.Goals as goal

pub loop-at-preserved : goal.loop-at-preserved
loop-at-preserved c =
    let at = c.in-Some.ensures.some in
    let after = take_rest c.loop-at.rest.now (c.in-Some.at + 1) in
    let line = c.in_ok-add_line.ensures in
    record {
      plain = go_on c.loop-at.plain.items c.add_line.new.plain.items c.args.text.now c.loop-at.rest.now _ c.in-Some.at c.loop-at.invariant.plain at.0 at.1 at.2 line.line after;
      shorter = shorter_on (length c.add_line.new.plain.items) (length c.loop-at.plain.items) (length c.args.text.now) c.loop-at.rest.now _ c.in-Some.at c.loop-at.invariant.shorter at.0
          line.shorter after;
    }

pub returns-clause-value : goal.returns-clause-value
returns-clause-value c =
    at_last c.loop-at.plain.items _ c.args.text.now c.loop-at.rest.now c.without_plus.result.now c.loop-at.invariant.plain c.in_default.ensures.none c.without_plus.ensures.value
    c.in_ok-extend_from_slice.ensures.items
