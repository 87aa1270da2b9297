use Rattle.lang_specs.proofs.TextSplits.{one_tree_list}
use Rattle.lang_specs.proofs.laws.one_spelling.Goals as goal

pub returns : goal.returns
returns c = one_tree_list
