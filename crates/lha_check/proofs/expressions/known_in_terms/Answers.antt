use Rattle.std.proofs.Common.{refl, arith}
use Rattle.model_specs.specs.Faults.{unknown_in}
use Rattle.lha_check.specs.Elements.{term_faults}
use Rattle.lha_check.proofs.FirstLemmas.{exits, flat_fails_at, flat_goes_on, flat_has_ended}
use Rattle.lha_check.proofs.RowLemmas.{terms_step}
use Rattle.lha_check.proofs.expressions.known_in_terms.Goals as goal

pub returns-in_err-known_in_term-clause-fault : goal.returns-in_err-known_in_term-clause-fault
returns-in_err-known_in_term-clause-fault c =
    exits c.from_residual.result _ c.in_err-known_in_term.field-0.0 c.from_residual.ensures.1
    (flat_fails_at (unknown_in c.args.line c.args.vars.now) (term_faults c.args.line c.args.vars.now) (terms_step c.args.line c.args.vars.now)
    c.args.terms.now c.loop-term.term-index c.term-item.result _ c.in_err-known_in_term.field-0.0 (omega arith) c.term-item.is c.loop-term.invariant c.in_err-known_in_term.ensures.fault)

pub loop-term-preserved : goal.loop-term-preserved
loop-term-preserved c =
    flat_goes_on (unknown_in c.args.line c.args.vars.now) (term_faults c.args.line c.args.vars.now) (terms_step c.args.line c.args.vars.now)
    c.args.terms.now c.loop-term.term-index c.term-item.result _ (omega arith) c.term-item.is c.loop-term.invariant c.in_ok-known_in_term.ensures.none

pub returns-clause-none : goal.returns-clause-none
returns-clause-none c =
    flat_has_ended (unknown_in c.args.line c.args.vars.now) refl c.args.terms.now c.loop-term.term-index _ (omega arith) c.loop-term.invariant
