use Rattle.std.proofs.Common.{◌∙◌, ap, sym, arith, bytes_eq}
use Rattle.model_specs.specs.Automata.{act_name}
use Rattle.model_rows.proofs.FindLemmas.{found, passed, not_found}
use Rattle.model_rows.proofs.acts.first_act.Goals as goal

pub returns-then-are_same : goal.returns-then-are_same
returns-then-are_same c =
    let same = ap (λ n. bytes_eq n c.args.var.now) (sym c.act_name.ensures) ∙ sym c.are_same.ensures ∙ c.if-are_same.true in
    sym (c.loop-act.invariant
    ∙ found (λ a. bytes_eq (act_name a) c.args.var.now) c.args.acts.now c.loop-act.act-index c.act-item.result (omega arith) c.act-item.is same)

pub loop-act-preserved : goal.loop-act-preserved
loop-act-preserved c =
    let other = ap (λ n. bytes_eq n c.args.var.now) (sym c.act_name.ensures) ∙ sym c.are_same.ensures ∙ c.if-are_same.false in
    c.loop-act.invariant
    ∙ passed (λ a. bytes_eq (act_name a) c.args.var.now) c.args.acts.now c.loop-act.act-index c.act-item.result (omega arith) c.act-item.is other

pub returns : goal.returns
returns c = sym (c.loop-act.invariant ∙ not_found (λ a. bytes_eq (act_name a) c.args.var.now) c.args.acts.now c.loop-act.act-index (omega arith))
