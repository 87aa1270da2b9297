use Rattle.std.proofs.Common.{sym}
use Rattle.std.specs.Arc.{arc_value}
use Rattle.session_drive.proofs.FoundKeys.{found_key}
use Rattle.session_drive.proofs.local.entry_for.Goals as goal

pub returns-in-Hit-clause-key : goal.returns-in-Hit-clause-key
returns-in-Hit-clause-key g c =
    sym (found_key c.args.key.now c.args.memo.now.entries (arc_value c.in-Hit.entry) (sym (rw c.in-Hit.is at c.in_ok-entry.ensures.found)))
