use Rattle.text_specs.proofs.TextLemmas.{one_list}
use Rattle.text_specs.proofs.one_list_of_automata.Goals as goal

pub returns : goal.returns
returns c = one_list
