use Rattle.run_specs.proofs.HistoryEnds.{history_exact}
use Rattle.run_specs.proofs.pickings.history_rows_are_exact.Goals as goal

pub returns : goal.returns
returns c a k log h init q wf is some many fit e hq lq = history_exact a k log h init q wf is some many fit e hq lq
