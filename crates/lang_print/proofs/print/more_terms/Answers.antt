use Rattle.std.proofs.Common.{ap, ◌∙◌}
use Rattle.lang_specs.specs.Canonical.{more_term_tokens}
use Rattle.lang_print.specs.Pages.{with_tokens}
use Rattle.lang_print.proofs.PageLemmas.{tokens_more}
use Rattle.lang_print.proofs.print.more_terms.Goals as goal

pub loop-term-preserved : goal.loop-term-preserved
loop-term-preserved c =
    c.in_ok-more_term.ensures ∙ ap (λ z. with_tokens c.loop-term.page (more_term_tokens z)) c.term-item.is
    ∙ tokens_more more_term_tokens c.args.terms.now c.loop-term.term-index c.term-item.result c.args.page.now c.loop-term.page c.loop-term-test.true
    c.loop-term.invariant
