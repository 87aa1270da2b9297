use Rattle.lang_order.proofs.AddLemmas.{one_more_line}
use Rattle.lang_order.proofs.reading.one_more_line_adds.Goals as goal

pub returns : goal.returns
returns c = one_more_line
