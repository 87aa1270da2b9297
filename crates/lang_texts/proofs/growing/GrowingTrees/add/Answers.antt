use Rattle.std.proofs.Common.{◌∷◌, [], ◌++◌, sym, ap, ◌∙◌}
use Rattle.lang_order.specs.Adding.{in_last, add_to_tree}
use Rattle.lang_lines.specs.Lines.{says}
use Rattle.lang_texts.proofs.GrowingLemmas.{last_changed}
use Rattle.lang_texts.proofs.growing.GrowingTrees.add.Goals as goal

pub returns : goal.returns
returns c =
    let f = add_to_tree c.args.line (says c.args.what) in
    ap (λ t. c.self.inside.whole.items ++ t ∷ []) c.in_ok-add.ensures ∙ sym (last_changed f c.self.inside.whole.items c.self.inside.last) ∙ ap (in_last f) c.self.view_is
