use Rattle.lang_order.proofs.ReadLines.{more_read}
use Rattle.lang_order.proofs.reading.one_more_line_is_read.Goals as goal

pub returns : goal.returns
returns c = more_read
