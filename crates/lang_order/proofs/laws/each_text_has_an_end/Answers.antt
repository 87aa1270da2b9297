use Rattle.lang_order.proofs.TextEnds.{some_end}
use Rattle.lang_order.proofs.laws.each_text_has_an_end.Goals as goal

pub returns : goal.returns
returns c = some_end
