use Rattle.std.proofs.Common.{map, take}
use Rattle.lang_tokens.specs.Machines.{AllValues}
use Rattle.lang_transitions.specs.ActMachine.{IsActValue}
use Rattle.lang_transitions.specs.ActViews.{act_of}
use Rattle.lang_transitions.proofs.acts.act_trees.Given as goal

abbrev pub invariant-loop-text : goal.invariant-loop-text
invariant-loop-text l = AllValues IsActValue (map act_of (take l.text-index l.texts)) l.trees.items
