use Rattle.std.proofs.Common.{refl}
use Rattle.run_specs.specs.Runs.{end_loc, path_of}
use Rattle.run_check.proofs.PathLemmas.{end_more, end_last}
use Rattle.run_check.proofs.paths.end_location.Goals as goal

pub loop-m-init : goal.loop-m-init
loop-m-init c = rw (c.start_loc-loc.ensures, c.moves-m-items.ensures) refl

pub loop-m-preserved : goal.loop-m-preserved
loop-m-preserved c =
    rw (c.to-loc.ensures, c.transition.ensures.value, c.trans.ensures)
    (end_more c.args.a.now c.loop-m.loc c.moves-m-items.result.now c.loop-m.m-index c.m-item.result c.loop-m-test.true c.m-item.is
    (end_loc c.args.a.now c.args.gap.now.start_loc (path_of c.args.gap.now)) c.loop-m.invariant)

pub returns : goal.returns
returns c =
    end_last c.args.a.now c.loop-m.loc c.moves-m-items.result.now c.loop-m.m-index
    (end_loc c.args.a.now c.args.gap.now.start_loc (path_of c.args.gap.now)) c.loop-m-test.false c.loop-m.invariant
