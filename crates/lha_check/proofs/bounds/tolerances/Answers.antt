use Rattle.std.proofs.Common.{◌∷◌, [], ◌++◌, ap, ◌∙◌, List, ℕ, arith, bytes_eq}
use Rattle.std.specs.List.{find}
use Rattle.model_specs.specs.Automata.{within_of}
use Rattle.lha_check.proofs.ListLemmas.{mapped}
use Rattle.lha_check.proofs.bounds.tolerances.Goals as goal

pub loop-var-preserved : goal.loop-var-preserved
loop-var-preserved c =
    mapped (λ (var : List ℕ). within_of (find (λ b. bytes_eq b.var var) c.bounds_of-bounds.result.now)) c.vars-vars.result.now c.loop-var.var-index c.var-item.result
    c.loop-var.found.items c.push.new.items.items (omega arith) c.var-item.is c.loop-var.invariant (c.in_ok-push.ensures ∙ ap (λ v. c.loop-var.found.items ++ v ∷ []) c.tolerance.ensures)
