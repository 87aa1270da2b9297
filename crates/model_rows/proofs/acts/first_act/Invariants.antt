use Rattle.std.proofs.Common.{◌≡◌, drop, bytes_eq}
use Rattle.std.specs.List.{find}
use Rattle.model_specs.specs.Automata.{act_name}
use Rattle.model_rows.proofs.acts.first_act.Given as goal

abbrev pub invariant-loop-act : goal.invariant-loop-act
invariant-loop-act l = find (λ a. bytes_eq (act_name a) l.var) l.acts ≡ find (λ a. bytes_eq (act_name a) l.var) (drop l.act-index l.acts)
