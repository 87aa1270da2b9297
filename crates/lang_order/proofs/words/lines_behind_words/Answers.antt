use Rattle.lang_order.proofs.BodyLemmas.{word_off}
use Rattle.lang_order.proofs.words.lines_behind_words.Goals as goal

pub returns : goal.returns
returns c = word_off
