use Rattle.decision_cases.proofs.HoldingLemmas.{held_all}
use Rattle.decision_cases.proofs.points.is_inside.Goals as goal

pub returns-in-Some : goal.returns-in-Some
returns-in-Some c e = held_all c.args.level.now.rows c.args.start.now c.in-Some.held e c.in-Some.ensures
