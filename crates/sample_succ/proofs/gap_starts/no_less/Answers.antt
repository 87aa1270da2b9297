use Rattle.std.proofs.Common.{rules}
use Rattle.sample_succ.proofs.GapStartLemmas.{no_less_row}
use Rattle.sample_succ.proofs.gap_starts.no_less.Goals as goal

pub returns : goal.returns
returns c = no_less_row c.args.m c.as_slice.result.now c.make.result c.requires (search rules) c.make.ensures
