use Rattle.std.proofs.Common.{◌+◌, subst, sym, ◌∙◌, ap}
use Rattle.report_specs.specs.Lines.{HasNoFeed}
use Rattle.log_reader.specs.Reading.{Stored}
use Rattle.log_reader.proofs.GivenFeedLemmas.{no_feed_behind}
use Rattle.log_reader.proofs.MoveLemmas.{shown_no_feed}
use Rattle.log_reader.proofs.reader.LineReader.last_line.Goals as goal

pub returns-clause-no_feed : goal.returns-clause-no_feed
returns-clause-no_feed c =
    let here = c.bytes.ensures ∙ ap (λ (s : Stored). s.reading.held) c.self.view_is in
    let first = subst HasNoFeed (sym here) c.requires.first in
    shown_no_feed c.shown.result (c.self.inside.given + 1) c.unmarked-text.result.now
    (subst HasNoFeed (sym c.unmarked-text.ensures) (no_feed_behind c.self.inside.given c.bytes.result.now first)) c.shown.ensures
