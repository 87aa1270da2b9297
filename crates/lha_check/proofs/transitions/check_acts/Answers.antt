use Rattle.std.proofs.Common.{refl, arith}
use Rattle.model_specs.specs.Automata.{act_name}
use Rattle.model_specs.specs.Faults.{acts_faults}
use Rattle.lha_check.specs.Elements.{act_faults}
use Rattle.lha_check.proofs.FirstLemmas.{exits, fails_at, goes_on, has_ended}
use Rattle.lha_check.proofs.transitions.check_acts.Goals as goal

pub returns-in_err-check_act-clause-fault : goal.returns-in_err-check_act-clause-fault
returns-in_err-check_act-clause-fault c =
    exits c.from_residual.result _ c.in_err-check_act.field-0.0 c.from_residual.ensures.1
    (fails_at act_name (acts_faults c.args.line c.args.vars.now) (act_faults c.args.line c.args.vars.now) (λ before x xs. refl)
    c.args.acts.now c.loop-i.i c.index-acts-i.result _ c.in_err-check_act.field-0.0 (omega arith) c.index-acts-i.is c.loop-i.invariant c.in_err-check_act.ensures.fault)

pub loop-i-preserved : goal.loop-i-preserved
loop-i-preserved c =
    goes_on act_name (acts_faults c.args.line c.args.vars.now) (act_faults c.args.line c.args.vars.now) (λ before x xs. refl)
    c.args.acts.now c.loop-i.i c.index-acts-i.result _ (omega arith) c.index-acts-i.is c.loop-i.invariant c.in_ok-check_act.ensures.none

pub returns-clause-none : goal.returns-clause-none
returns-clause-none c = has_ended act_name (acts_faults c.args.line c.args.vars.now) (λ before. refl) c.args.acts.now c.loop-i.i _ (omega arith) c.loop-i.invariant
