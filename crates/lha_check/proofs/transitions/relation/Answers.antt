use Rattle.std.proofs.Common.{Err, ap, arith}
use Rattle.lha_check.proofs.RowLemmas.{passing, none_passes}
use Rattle.lha_check.proofs.transitions.relation.Goals as goal

pub transition_rows-requires : goal.transition_rows-requires
transition_rows-requires c = let few = c.requires.variables in rw c.vars.ensures (omega (arith, few))

pub returns-in-Ok-clause-value : goal.returns-in-Ok-clause-value
returns-in-Ok-clause-value c = rw (← c.vars.ensures) c.in-Ok.ensures.ok

pub returns-in-Ok-clause-none : goal.returns-in-Ok-clause-none
returns-in-Ok-clause-none c = none_passes _ _ (rw (← c.vars.ensures) c.in-Ok.ensures.kept)

pub returns-in-Err-clause-fault : goal.returns-in-Err-clause-fault
returns-in-Err-clause-fault c =
    rw (← c.vars.ensures, ← c.line.ensures, ← c.name.ensures, c.row_fault.ensures) (passing _ c.in-Err.fault _ _ (λ is. c.in-Err.ensures.passes (ap (λ z. Err z) is)))
