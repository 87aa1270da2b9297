use Rattle.std.proofs.Common.{length}
use Rattle.log_samples.proofs.rows.+cell_under.Given as goal

abbrev pub decreases-cell_under : goal.decreases-cell_under
decreases-cell_under l = length l.columns.now
