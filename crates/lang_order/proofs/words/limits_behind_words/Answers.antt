use Rattle.lang_order.proofs.BodyLemmas.{word_off_kept}
use Rattle.lang_order.proofs.words.limits_behind_words.Goals as goal

pub returns : goal.returns
returns c = word_off_kept
