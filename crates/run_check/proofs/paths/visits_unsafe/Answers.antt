use Rattle.std.proofs.Common.{refl}
use Rattle.run_check.proofs.paths.visits_unsafe.Goals as goal

pub loop-m-init : goal.loop-m-init
loop-m-init c = rw (c.start_loc-loc.ensures, c.moves-m-items.ensures) (refl, c.requires.start_loc)
