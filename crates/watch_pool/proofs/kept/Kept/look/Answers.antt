use Rattle.std.proofs.Common.{sym}
use Rattle.std.specs.Arc.{arc_value}
use Rattle.session_drive.proofs.FoundKeys.{found_key}
use Rattle.watch_pool.proofs.kept.Kept.look.Goals as goal

pub returns-in-Hit-clause-key : goal.returns-in-Hit-clause-key
returns-in-Hit-clause-key g c =
    sym (found_key c.args.key.now c.args.self.now.memo.entries (arc_value c.in-Hit.entry) (sym (rw c.in-Hit.is at c.in_ok-look.ensures.found)))
