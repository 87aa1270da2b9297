use Rattle.std.proofs.Common.{◌∙◌, ap, sym, arith, bytes_eq}
use Rattle.model_rows.proofs.FindLemmas.{found, passed, not_found}
use Rattle.lang_specs.specs.Trees.{BoxTree}
use Rattle.model_rows.proofs.slopes.box_of.Goals as goal

pub returns-then-are_same : goal.returns-then-are_same
returns-then-are_same c =
    let same = ap (λ n. bytes_eq n c.args.var.now) (sym c.var.ensures) ∙ sym c.are_same.ensures ∙ c.if-are_same.true in
    sym (c.loop-bounds.invariant
    ∙ found (λ (b : BoxTree). bytes_eq b.var c.args.var.now) c.args.boxes.now c.loop-bounds.bounds-index c.bounds-item.result (omega arith) c.bounds-item.is same)

pub loop-bounds-preserved : goal.loop-bounds-preserved
loop-bounds-preserved c =
    let other = ap (λ n. bytes_eq n c.args.var.now) (sym c.var.ensures) ∙ sym c.are_same.ensures ∙ c.if-are_same.false in
    c.loop-bounds.invariant
    ∙ passed (λ (b : BoxTree). bytes_eq b.var c.args.var.now) c.args.boxes.now c.loop-bounds.bounds-index c.bounds-item.result (omega arith) c.bounds-item.is other

pub returns : goal.returns
returns c =
    sym (c.loop-bounds.invariant ∙ not_found (λ (b : BoxTree). bytes_eq b.var c.args.var.now) c.args.boxes.now c.loop-bounds.bounds-index (omega arith))
