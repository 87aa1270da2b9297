use Rattle.std.proofs.Common.{ℕ, List, take, refl, sym, ◌∙◌, subst, arith}
use Rattle.model_specs.specs.Faults.{ModelFault, repeated, repeated_in}
use Rattle.lha_check.specs.Told.{IsFirst}
use Rattle.lha_check.proofs.FirstLemmas.{exits, fails_at, goes_on, has_ended}
use Rattle.lha_check.proofs.NameLemmas.{stood_is}
use Rattle.lha_check.proofs.names.each_once.Goals as goal

pub returns-in_err-once-clause-fault : goal.returns-in_err-once-clause-fault
returns-in_err-once-clause-fault c =
    exits c.from_residual.result _ c.in_err-once.field-0.0 c.from_residual.ensures.1
    (fails_at (λ (x : List ℕ). x) (repeated_in c.args.line) (repeated c.args.line) (λ before x xs. refl)
    c.args.names.now c.loop-i.i c.index-names-i.result _ c.in_err-once.field-0.0 (omega arith) c.index-names-i.is c.loop-i.invariant
    (subst (λ (zs : List ModelFault). IsFirst zs c.in_err-once.field-0.0) (stood_is (λ (x : List ℕ). x) (take c.loop-i.i c.args.names.now) c.index-names-i.result c.is_among.result c.args.line c.is_among.ensures) c.in_err-once.ensures.fault))

pub loop-i-preserved : goal.loop-i-preserved
loop-i-preserved c =
    goes_on (λ (x : List ℕ). x) (repeated_in c.args.line) (repeated c.args.line) (λ before x xs. refl)
    c.args.names.now c.loop-i.i c.index-names-i.result _ (omega arith) c.index-names-i.is c.loop-i.invariant
    (sym (stood_is (λ (x : List ℕ). x) (take c.loop-i.i c.args.names.now) c.index-names-i.result c.is_among.result c.args.line c.is_among.ensures) ∙ c.in_ok-once.ensures.none)

pub returns-clause-none : goal.returns-clause-none
returns-clause-none c = has_ended (λ (x : List ℕ). x) (repeated_in c.args.line) (λ before. refl) c.args.names.now c.loop-i.i _ (omega arith) c.loop-i.invariant
