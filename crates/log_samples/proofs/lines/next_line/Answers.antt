use Rattle.std.proofs.Common.{◌+◌, length, refl, sym, ◌∙◌, subst}
use Rattle.std.proofs.lemmas.List.{take_rest}
use Rattle.report_specs.specs.Lines.{HasNoFeed}
use Rattle.log_reader.proofs.GivenFeedLemmas.{no_feed_return}
use Rattle.log_samples.proofs.LineLemmas.{first_line, whole_line, some_byte}
use Rattle.log_samples.proofs.lines.next_line.Goals as goal

pub returns-in-Some-clause-lines : goal.returns-in-Some-clause-lines
returns-in-Some-clause-lines c =
    let at = c.in-Some.ensures.some in
    first_line c.args.text.now c.without_return-line.result.now _ c.in-Some.at at.0 at.1 at.2 c.without_return-line.ensures (take_rest c.args.text.now (c.in-Some.at + 1))

pub returns-in-Some-clause-no_feed : goal.returns-in-Some-clause-no_feed
returns-in-Some-clause-no_feed c = subst HasNoFeed (sym c.without_return-line.ensures) (no_feed_return _ c.in-Some.ensures.some.2)

pub returns-clause-lines : goal.returns-clause-lines
returns-clause-lines c =
    whole_line c.args.text.now _ c.in_default.ensures.none (some_byte (length c.args.text.now) (sym c.is_empty.ensures ∙ c.if-is_empty.false)) refl
