use Rattle.run_specs.proofs.HistoryEnds.{last_open}
use Rattle.run_specs.proofs.pickings.last_values_left_are_open.Goals as goal

pub returns : goal.returns
returns c a k log aim run init i v wf is aimed e h = last_open a k log aim run init i v wf is aimed e h
