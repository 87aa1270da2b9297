use Rattle.std.proofs.Common.{bytes_eq}
use Rattle.std.specs.List.{find}
use Rattle.model_specs.specs.Automata.{said_of, act_name, variable_at}
use Rattle.model_rows.proofs.ListLemmas.{gathered_below}
use Rattle.model_rows.proofs.acts.push_acts.Goals as goal

pub loop-j-preserved : goal.loop-j-preserved
loop-j-preserved c =
    gathered_below (λ j. said_of c.args.vars.now j (find (λ a. bytes_eq (act_name a) (variable_at c.args.vars.now j)) c.args.acts.now)) c.loop-j.j
    c.args.said.now.items c.loop-j.said.items c.push_said.new.said.items c.loop-j.invariant c.in_ok-push_said.ensures
