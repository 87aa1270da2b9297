use Rattle.std.proofs.Common.{◌≡◌, ap, ◌∙◌}
use Rattle.lang_specs.specs.Trees.{Tree}
use Rattle.lang_order.specs.Adding.{in_last, add_to_loc, add_to_tree}
use Rattle.lang_lines.specs.Lines.{says}
use Rattle.lang_texts.specs.Growing.{locs_in}
use Rattle.lang_texts.proofs.GrowingLemmas.{adds_to_loc}
use Rattle.lang_texts.proofs.growing.GrowingTree.add.Goals as goal

pub returns-in_default : goal.returns-in_default
returns-in_default c =
    let n = c.args.line in
    let what = c.args.what in
    let i = c.self-in_default.inside in
    let t : Tree = record { line = i.line; name = i.name; vars = i.vars.items; var_line = i.var_line; obs = i.obs; locs = locs_in i.locs; trans = i.trans.items } in
    let added : locs_in c.add_to_last.result ≡ in_last (add_to_loc n (says what)) (locs_in i.locs) = first_of (assumption (c.add_to_last.ensures), cc) in
    ap (λ ls. record t { locs = ls }) added
    ∙ adds_to_loc n what t c.in_default.not-Vars c.in_default.not-Obs c.in_default.not-Loc c.in_default.not-Trans
    ∙ ap (add_to_tree n (says what)) c.self-in_default.view_is
