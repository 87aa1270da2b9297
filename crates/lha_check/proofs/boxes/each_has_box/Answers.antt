use Rattle.std.proofs.Common.{◌≡◌, ◌+◌, true, false, Some, drop, sym, ap, ◌∙◌, arith}
use Rattle.model_specs.specs.Faults as faults
use Rattle.model_specs.specs.Faults.{missing_slope}
use Rattle.lha_check.proofs.ListLemmas.{from_one}
use Rattle.lha_check.proofs.RowLemmas.{one_alone}
use Rattle.lha_check.proofs.BoxLemmas.{missing_here, missing_past, not_true, not_false}
use Rattle.lha_check.proofs.boxes.each_has_box.Goals as goal

pub returns-then-not-has_box-clause-fault : goal.returns-then-not-has_box-clause-fault
returns-then-not-has_box-clause-fault c =
    let no_box : c.has_box.result ≡ false = first_of (assumption (c.if-not-has_box.true), search (c.if-not-has_box.true, not_true)) in
    one_alone (missing_slope c.args.line c.args.boxes.now c.args.vars.now) (faults.MissingSlope c.args.line c.var-item.result) _
    (c.loop-var.invariant ∙ ap (missing_slope c.args.line c.args.boxes.now) (from_one c.args.vars.now c.loop-var.var-index c.var-item.result (omega arith) c.var-item.is)
    ∙ missing_here c.args.line c.args.boxes.now c.var-item.result (drop (c.loop-var.var-index + 1) c.args.vars.now) (sym c.has_box.ensures ∙ no_box))
    (ap (λ n. Some (faults.MissingSlope c.args.line n)) c.copy.ensures)

pub loop-var-preserved : goal.loop-var-preserved
loop-var-preserved c =
    let a_box : c.has_box.result ≡ true = first_of (assumption (c.if-not-has_box.false), search (c.if-not-has_box.false, not_false)) in
    c.loop-var.invariant ∙ ap (missing_slope c.args.line c.args.boxes.now) (from_one c.args.vars.now c.loop-var.var-index c.var-item.result (omega arith) c.var-item.is)
    ∙ missing_past c.args.line c.args.boxes.now c.var-item.result (drop (c.loop-var.var-index + 1) c.args.vars.now) (sym c.has_box.ensures ∙ a_box)
