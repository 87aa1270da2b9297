use Rattle.std.proofs.Common.{◌≡◌, ◌∷◌, take}
use Rattle.std.specs.List.{flat_map}
use Rattle.lang_specs.specs.declared.Kind.TheVariants.{Comma}
use Rattle.lang_specs.specs.Marks.{the}
use Rattle.lang_print.specs.Pages.{with_tokens}
use Rattle.lang_print.proofs.print.more_with_commas.Given as goal

abbrev pub invariant-loop-item : goal.invariant-loop-item
invariant-loop-item g l = l.page ≡ with_tokens l.fn.page (flat_map (λ x. the Comma ∷ g.T.Print.tokens x) (take l.item-index l.items))
