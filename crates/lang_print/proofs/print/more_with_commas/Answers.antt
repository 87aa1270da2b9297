use Rattle.std.proofs.Common.{◌∷◌, ap, ◌∙◌}
use Rattle.lang_specs.specs.declared.Kind.TheVariants.{Comma}
use Rattle.lang_specs.specs.Marks.{the}
use Rattle.lang_print.specs.Pages.{with_tokens}
use Rattle.lang_print.proofs.PageLemmas.{tokens_more}
use Rattle.lang_print.proofs.print.more_with_commas.Goals as goal

pub loop-item-preserved : goal.loop-item-preserved
loop-item-preserved g c =
    c.in_ok-print.ensures ∙ ap (λ z. with_tokens z (g.T.Print.tokens c.item-item.result)) c.in_ok-key.ensures
    ∙ ap (λ z. with_tokens c.loop-item.page (the Comma ∷ g.T.Print.tokens z)) c.item-item.is
    ∙ tokens_more (λ x. the Comma ∷ g.T.Print.tokens x) c.args.items.now c.loop-item.item-index c.item-item.result c.args.page.now c.loop-item.page
    c.loop-item-test.true c.loop-item.invariant
