use Rattle.std.proofs.Common.{map, sym, ap, ◌∙◌, subst}
use Rattle.lang_tokens.specs.Places.{placed_of}
use Rattle.lang_tokens.specs.LineFaults.{marks, AreLiterals}
use Rattle.lang_tokens.proofs.LiteralTokens.{line_literals}
use Rattle.lang_transitions.proofs.transitions.transition_of_line.Goals as goal

pub line_transition-requires : goal.line_transition-requires
line_transition-requires c =
    let whole = ap (map (placed_of c.args.line)) c.deref.ensures.value ∙ c.in_ok-found.ensures in
    subst (λ ts. AreLiterals (marks ts)) (sym whole) (line_literals c.args.line c.args.text.now)
