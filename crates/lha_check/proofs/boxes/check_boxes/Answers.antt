use Rattle.std.proofs.Common.{refl, arith}
use Rattle.lang_specs.specs.Trees.{BoxTree}
use Rattle.model_specs.specs.Faults.{boxes_faults}
use Rattle.lha_check.specs.Elements.{box_faults}
use Rattle.lha_check.proofs.FirstLemmas.{exits, fails_at, goes_on, has_ended}
use Rattle.lha_check.proofs.boxes.check_boxes.Goals as goal

pub returns-in_err-check_box-clause-fault : goal.returns-in_err-check_box-clause-fault
returns-in_err-check_box-clause-fault c =
    exits c.from_residual.result _ c.in_err-check_box.field-0.0 c.from_residual.ensures.1
    (fails_at (λ (b : BoxTree). b.var) (boxes_faults c.args.line c.args.vars.now) (box_faults c.args.line c.args.vars.now) (λ before x xs. refl)
    c.args.boxes.now c.loop-i.i c.index-boxes-i.result _ c.in_err-check_box.field-0.0 (omega arith) c.index-boxes-i.is c.loop-i.invariant c.in_err-check_box.ensures.fault)

pub loop-i-preserved : goal.loop-i-preserved
loop-i-preserved c =
    goes_on (λ (b : BoxTree). b.var) (boxes_faults c.args.line c.args.vars.now) (box_faults c.args.line c.args.vars.now) (λ before x xs. refl)
    c.args.boxes.now c.loop-i.i c.index-boxes-i.result _ (omega arith) c.index-boxes-i.is c.loop-i.invariant c.in_ok-check_box.ensures.none

pub returns-clause-none : goal.returns-clause-none
returns-clause-none c = has_ended (λ (b : BoxTree). b.var) (boxes_faults c.args.line c.args.vars.now) (λ before. refl) c.args.boxes.now c.loop-i.i _ (omega arith) c.loop-i.invariant
