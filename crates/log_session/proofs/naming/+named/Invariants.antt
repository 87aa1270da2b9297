use Rattle.std.proofs.Common.{length}
use Rattle.log_session.proofs.naming.+named.Given as goal

abbrev pub decreases-named : goal.decreases-named
decreases-named l = length l.models.now
