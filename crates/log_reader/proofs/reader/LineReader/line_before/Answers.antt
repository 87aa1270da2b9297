use Rattle.std.proofs.Common.{◌+◌, subst, sym, ◌∙◌, ap, take}
use Rattle.report_specs.specs.Lines.{HasNoFeed, without_return}
use Rattle.log_reader.specs.Reading.{Stored}
use Rattle.log_reader.proofs.GivenFeedLemmas.{no_feed_return, no_feed_behind}
use Rattle.log_reader.proofs.MoveLemmas.{shown_no_feed}
use Rattle.log_reader.proofs.reader.LineReader.line_before.Goals as goal

pub returns-clause-no_feed : goal.returns-clause-no_feed
returns-clause-no_feed c =
    let here = c.bytes.ensures ∙ ap (λ (s : Stored). s.reading.held) c.self.view_is in
    let first = subst (λ bytes. HasNoFeed (take c.args.at bytes)) (sym here) c.requires.first in
    let text = c.without_return-text.ensures ∙ ap without_return c.unmarked.ensures in
    shown_no_feed c.shown.result (c.self.inside.given + 1) c.without_return-text.result.now
    (subst HasNoFeed (sym text) (no_feed_return _ (no_feed_behind c.self.inside.given (take c.args.at c.bytes.result.now) first))) c.shown.ensures
