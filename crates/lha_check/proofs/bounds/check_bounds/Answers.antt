use Rattle.std.proofs.Common.{refl, arith}
use Rattle.lang_specs.specs.Trees.{BoundTree}
use Rattle.model_specs.specs.Faults.{bounds_faults}
use Rattle.lha_check.specs.Elements.{bound_faults}
use Rattle.lha_check.proofs.FirstLemmas.{exits, fails_at, goes_on, has_ended}
use Rattle.lha_check.proofs.bounds.check_bounds.Goals as goal

pub returns-in_err-check_bound-clause-fault : goal.returns-in_err-check_bound-clause-fault
returns-in_err-check_bound-clause-fault c =
    exits c.from_residual.result _ c.in_err-check_bound.field-0.0 c.from_residual.ensures.1
    (fails_at (λ (b : BoundTree). b.var) (bounds_faults c.args.line c.args.vars.now) (bound_faults c.args.line c.args.vars.now) (λ before x xs. refl)
    c.args.bounds.now c.loop-i.i c.index-bounds-i.result _ c.in_err-check_bound.field-0.0 (omega arith) c.index-bounds-i.is c.loop-i.invariant c.in_err-check_bound.ensures.fault)

pub loop-i-preserved : goal.loop-i-preserved
loop-i-preserved c =
    goes_on (λ (b : BoundTree). b.var) (bounds_faults c.args.line c.args.vars.now) (bound_faults c.args.line c.args.vars.now) (λ before x xs. refl)
    c.args.bounds.now c.loop-i.i c.index-bounds-i.result _ (omega arith) c.index-bounds-i.is c.loop-i.invariant c.in_ok-check_bound.ensures.none

pub returns-clause-none : goal.returns-clause-none
returns-clause-none c = has_ended (λ (b : BoundTree). b.var) (bounds_faults c.args.line c.args.vars.now) (λ before. refl) c.args.bounds.now c.loop-i.i _ (omega arith) c.loop-i.invariant
