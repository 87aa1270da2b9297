use Rattle.std.proofs.Common.{◌≡◌, ◌∙◌, ◌++◌, [], Option, length, ap, subst, arith}
use Rattle.std.specs.Prelude.{OnOk}
use Rattle.lang_specs.specs.Trees.{BoxTree}
use Rattle.model_specs.specs.Automata.{rows_of_box, box_of}
use Rattle.model_rows.proofs.FindLemmas.{get_or_same}
use Rattle.model_rows.proofs.slopes.push_box_of.Goals as goal

pub returns : goal.returns
returns c =
    let var = c.index-vars-j.is ∙ get_or_same c.args.vars.now c.args.j c.index-vars-j.result [] (omega arith) in
    subst (λ (o : Option BoxTree). OnOk c.push_any_box.result (c.push_any_box.new.rows.items ≡ c.args.rows.now.items ++ rows_of_box (length c.args.vars.now) c.args.j o))
    (c.box_of.ensures ∙ ap (box_of c.args.boxes.now) var) c.push_any_box.ensures
