use Rattle.std.proofs.Common.{length}
use Rattle.model_specs.specs.Automata.{rows_of_box, box_of, variable_at}
use Rattle.model_rows.proofs.ListLemmas.{gathered_below}
use Rattle.model_rows.proofs.slopes.push_boxes.Goals as goal

pub loop-j-preserved : goal.loop-j-preserved
loop-j-preserved c =
    gathered_below (λ j. rows_of_box (length c.args.vars.now) j (box_of c.args.boxes.now (variable_at c.args.vars.now j))) c.loop-j.j c.args.rows.now.items
    c.loop-j.rows.items c.push_box_of.new.rows.items c.loop-j.invariant c.in_ok-push_box_of.ensures
