use Rattle.std.proofs.Common.{map, take}
use Rattle.lang_tokens.specs.Machines.{AllValues}
use Rattle.lang_lists.specs.BoxMachine.{IsBoxValue}
use Rattle.lang_lists.specs.Views.{box_of}
use Rattle.lang_lists.proofs.boxes.trees.Given as goal

abbrev pub invariant-loop-text : goal.invariant-loop-text
invariant-loop-text l = AllValues IsBoxValue (map box_of (take l.text-index l.texts)) l.trees.items
