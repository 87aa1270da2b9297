use Rattle.text_specs.proofs.TextLemmas.{none_beside_automata}
use Rattle.text_specs.proofs.no_fault_beside_automata.Goals as goal

pub returns : goal.returns
returns c = none_beside_automata
