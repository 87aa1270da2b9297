use Rattle.std.proofs.Common.{ap, ◌∙◌}
use Rattle.lang_specs.specs.Canonical.{canonical_lines}
use Rattle.lang_print.specs.Pages.{with_lines}
use Rattle.lang_print.proofs.PageLemmas.{text_bytes}
use Rattle.lang_print.proofs.print.print_models.Goals as goal

pub returns : goal.returns
returns c =
    let lines = canonical_lines c.args.trees.now in
    c.into_bytes.ensures ∙ text_bytes c.all_text.new.page lines (c.in_ok-all_text.ensures ∙ ap (λ p. with_lines p lines) c.new-page.ensures)
