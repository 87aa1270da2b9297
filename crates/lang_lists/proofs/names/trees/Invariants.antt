use Rattle.std.proofs.Common.{map, take}
use Rattle.lang_tokens.specs.Machines.{AllValues}
use Rattle.lang_lists.proofs.NameLaws.{SameName}
use Rattle.lang_lists.proofs.names.trees.Given as goal

abbrev pub invariant-loop-text : goal.invariant-loop-text
invariant-loop-text l = AllValues SameName (map (λ x. x.now) (take l.text-index l.texts)) l.names.items
