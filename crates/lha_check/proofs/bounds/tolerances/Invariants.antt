use Rattle.std.proofs.Common.{◌≡◌, map, take, bytes_eq}
use Rattle.std.specs.List.{find}
use Rattle.model_specs.specs.Automata.{within_of}
use Rattle.lha_check.proofs.bounds.tolerances.Given as goal

abbrev pub invariant-loop-var : goal.invariant-loop-var
invariant-loop-var l = l.found.items ≡ map (λ var. within_of (find (λ b. bytes_eq b.var var) l.bounds)) (take l.var-index l.vars)
