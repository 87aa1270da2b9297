use Rattle.std.proofs.Common.{◌∙◌}
use Rattle.log_reader.proofs.FeedLemmas.{no_feed_after, feed_after, where_none}
use Rattle.std.proofs.Common.{subst}
use Rattle.report_specs.specs.Lines.{HasNoFeed}
use Rattle.log_reader.proofs.held.feed_after.Goals as goal

pub returns-clause-some : goal.returns-clause-some
returns-clause-some c =
    feed_after c.args.bytes.now c.bytes_from.result.now c.args.searched c.in_ok-at.at
    c.bytes_from.ensures
    c.requires.place c.requires.before c.in_ok-at.ensures.some

pub returns-in_err-at-clause-none : goal.returns-in_err-at-clause-none
returns-in_err-at-clause-none c =
    where_none c.from_residual.result
    (no_feed_after c.args.bytes.now c.args.searched c.requires.before
    (subst HasNoFeed c.bytes_from.ensures c.in_err-at.ensures.none))
