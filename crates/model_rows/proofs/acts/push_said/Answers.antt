use Rattle.std.proofs.Common.{◌≡◌, ◌∙◌, ◌++◌, [], Option, ap, subst, arith, bytes_eq}
use Rattle.std.specs.List.{find}
use Rattle.std.specs.Prelude.{OnOk}
use Rattle.lang_specs.specs.Trees.{Act}
use Rattle.model_specs.specs.Automata.{act_name, said_of}
use Rattle.model_rows.proofs.FindLemmas.{get_or_same}
use Rattle.model_rows.proofs.acts.push_said.Goals as goal

pub returns : goal.returns
returns c =
    let var = c.index-vars-j.is ∙ get_or_same c.args.vars.now c.args.j c.index-vars-j.result [] (omega arith) in
    subst (λ (o : Option Act). OnOk c.push_any_act.result (c.push_any_act.new.said.items ≡ c.args.said.now.items ++ said_of c.args.vars.now c.args.j o))
    (c.first_act.ensures ∙ ap (λ n. find (λ a. bytes_eq (act_name a) n) c.args.acts.now) var) c.push_any_act.ensures
