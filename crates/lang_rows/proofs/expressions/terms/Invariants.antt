use Rattle.std.proofs.Common.{map, take}
use Rattle.lang_tokens.specs.Machines.{AllValues}
use Rattle.lang_rows.specs.Texts.{IsTermValue}
use Rattle.lang_rows.specs.Views.{term_of}
use Rattle.lang_rows.proofs.expressions.terms.Given as goal

abbrev pub invariant-loop-text : goal.invariant-loop-text
invariant-loop-text l = AllValues IsTermValue (map term_of (take l.text-index l.texts)) l.trees.items
