use Rattle.std.proofs.Common.{◌≡◌, take}
use Rattle.std.specs.List.{flat_map}
use Rattle.lang_specs.specs.Canonical.{more_term_tokens}
use Rattle.lang_print.specs.Pages.{with_tokens}
use Rattle.lang_print.proofs.print.more_terms.Given as goal

abbrev pub invariant-loop-term : goal.invariant-loop-term
invariant-loop-term l = l.page ≡ with_tokens l.fn.page (flat_map more_term_tokens (take l.term-index l.terms))
