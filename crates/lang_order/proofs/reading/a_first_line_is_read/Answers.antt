use Rattle.lang_order.proofs.ReadLines.{first_read}
use Rattle.lang_order.proofs.reading.a_first_line_is_read.Goals as goal

pub returns : goal.returns
returns c = first_read
