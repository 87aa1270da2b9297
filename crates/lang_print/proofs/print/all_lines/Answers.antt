use Rattle.std.proofs.Common.{ap, ◌∙◌}
use Rattle.lang_print.specs.Pages.{with_lines}
use Rattle.lang_print.proofs.PageLemmas.{lines_more}
use Rattle.lang_print.proofs.print.all_lines.Goals as goal

pub loop-item-preserved : goal.loop-item-preserved
loop-item-preserved g c =
    c.in_ok-print_lines.ensures ∙ ap (λ z. with_lines c.loop-item.page (g.T.PrintLines.lines z)) c.item-item.is
    ∙ lines_more g.T.PrintLines.lines c.args.items.now c.loop-item.item-index c.item-item.result c.args.page.now c.loop-item.page c.loop-item-test.true
    c.loop-item.invariant
