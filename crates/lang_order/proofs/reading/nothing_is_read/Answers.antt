use Rattle.lang_order.proofs.ReadLines.{none_read}
use Rattle.lang_order.proofs.reading.nothing_is_read.Goals as goal

pub returns : goal.returns
returns c = none_read
