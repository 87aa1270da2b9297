use Rattle.lang_specs.specs.declared.Kind.TheVariants as kinds
use Rattle.lang_specs.specs.Expressions.{IsName}
use Rattle.lang_order.specs.Statements.{Automaton}
use Rattle.lang_order.proofs.Things.{fault_in, automaton_says}
use Rattle.lang_order.proofs.lines.lines_of_automata.Goals as goal

pub returns : goal.returns
returns c = λ second. fault_in second kinds.Automaton IsName Automaton (automaton_says second)
