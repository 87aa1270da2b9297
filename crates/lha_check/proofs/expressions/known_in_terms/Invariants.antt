use Rattle.std.proofs.Common.{◌≡◌, drop}
use Rattle.model_specs.specs.Faults.{unknown_in}
use Rattle.lha_check.proofs.expressions.known_in_terms.Given as goal

abbrev pub invariant-loop-term : goal.invariant-loop-term
invariant-loop-term l = unknown_in l.line l.vars l.terms ≡ unknown_in l.line l.vars (drop l.term-index l.terms)
