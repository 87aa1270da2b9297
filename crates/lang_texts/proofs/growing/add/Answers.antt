use Rattle.std.proofs.Common.{◌≡◌, sym, ap, ◌∙◌}
use Rattle.lang_order.specs.Adding.{in_last, add_to_tree, add}
use Rattle.lang_lines.specs.Lines.{says}
use Rattle.lang_texts.specs.Growing.{trees_in}
use Rattle.lang_texts.proofs.GrowingLemmas.{adds_to_tree}
use Rattle.lang_texts.proofs.growing.add.Goals as goal

pub returns-in_ok-add-in-Some : goal.returns-in_ok-add-in-Some
returns-in_ok-add-in-Some c =
    let n = c.args.line in
    let what = c.args.what in
    let added : c.in_ok-add-in-Some.field-0 ≡ in_last (add_to_tree n (says what)) c.in-Some.trees = first_of (assumption (c.in_ok-add-in-Some.ensures), cc) in
    added ∙ adds_to_tree n what c.in-Some.trees c.in_default.not-Version c.in_default.not-Automaton c.in_default.not-End
    ∙ ap (λ t. add n (says what) (trees_in t)) (sym c.in-Some.is)
