use Rattle.std.proofs.Common.{map, take}
use Rattle.lang_tokens.specs.Machines.{AllValues}
use Rattle.lang_lists.specs.BoundMachine.{IsBoundValue}
use Rattle.lang_lists.specs.BoundViews.{bound_of}
use Rattle.lang_lists.proofs.bounds.trees.Given as goal

abbrev pub invariant-loop-text : goal.invariant-loop-text
invariant-loop-text l = AllValues IsBoundValue (map bound_of (take l.text-index l.texts)) l.trees.items
