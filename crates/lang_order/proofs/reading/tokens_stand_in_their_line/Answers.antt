use Rattle.lang_order.proofs.LineTokens.{line_is}
use Rattle.lang_order.proofs.reading.tokens_stand_in_their_line.Goals as goal

pub returns : goal.returns
returns c = line_is
