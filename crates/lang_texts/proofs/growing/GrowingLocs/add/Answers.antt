use Rattle.std.proofs.Common.{◌∷◌, [], ◌++◌, sym, ap, ◌∙◌}
use Rattle.lang_order.specs.Adding.{in_last, add_to_loc}
use Rattle.lang_lines.specs.Lines.{says}
use Rattle.lang_texts.proofs.GrowingLemmas.{last_changed}
use Rattle.lang_texts.proofs.growing.GrowingLocs.add.Goals as goal

pub returns : goal.returns
returns c =
    let f = add_to_loc c.args.line (says c.args.what) in
    ap (λ l. c.self.inside.whole.items ++ l ∷ []) c.add.ensures ∙ sym (last_changed f c.self.inside.whole.items c.self.inside.last) ∙ ap (in_last f) c.self.view_is
