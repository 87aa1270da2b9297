use Rattle.std.proofs.Common.{map, sym, ap, ◌∙◌, subst}
use Rattle.std.specs.Prelude.{IfErr}
use Rattle.lang_specs.specs.Expressions.{AreJoined, IsName}
use Rattle.lang_tokens.specs.Places.{placed_of}
use Rattle.lang_tokens.specs.LineFaults.{marks, AreLiterals, IsLineFault}
use Rattle.lang_tokens.proofs.LiteralTokens.{line_literals}
use Rattle.lang_lists.specs.SixAtMost.{six_at_most}
use Rattle.lang_lists.proofs.names.names_of_line.Goals as goal

pub line_names-requires : goal.line_names-requires
line_names-requires c =
    let whole = ap (map (placed_of c.args.line)) c.deref.ensures.value ∙ c.in_ok-found.ensures in
    subst (λ ts. AreLiterals (marks ts)) (sym whole) (line_literals c.args.line c.args.text.now)

pub returns-clause-fault : goal.returns-clause-fault
returns-clause-fault c =
    let whole = ap (map (placed_of c.args.line)) c.deref.ensures.value ∙ c.in_ok-found.ensures in
    subst (λ ts. IfErr c.line_names.result (IsLineFault (AreJoined IsName) six_at_most ts)) whole c.line_names.ensures.fault
