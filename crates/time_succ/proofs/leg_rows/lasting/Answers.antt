use Rattle.std.proofs.Common.{rules}
use Rattle.time_succ.proofs.LegRowLemmas.{lasting_row}
use Rattle.time_succ.proofs.leg_rows.lasting.Goals as goal

pub returns : goal.returns
returns c = lasting_row c.args.m c.as_slice.result.now c.make.result c.requires (search rules) c.make.ensures
