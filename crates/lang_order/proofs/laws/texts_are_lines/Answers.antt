use Rattle.lang_order.proofs.FromGrammar.{by_lines}
use Rattle.lang_order.proofs.ToGrammar.{by_grammar}
use Rattle.lang_order.proofs.laws.texts_are_lines.Goals as goal

pub returns : goal.returns
returns c = λ ls trees. (by_lines ls trees, by_grammar ls trees)
