use Rattle.std.proofs.Common.{length}
use Rattle.number_cases.proofs.rows.+are_distinct.Given as goal

abbrev pub decreases-are_distinct : goal.decreases-are_distinct
decreases-are_distinct l = length l.to.now
