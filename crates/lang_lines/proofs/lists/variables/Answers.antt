use Rattle.std.proofs.Common.{map}
use Rattle.std.proofs.lemmas.Result.{err_from_is_err_and}
use Rattle.lang_specs.specs.declared.Kind.TheVariants as kinds
use Rattle.lang_specs.specs.Expressions.{AreJoined, IsName}
use Rattle.lang_order.specs.Statements.{Vars}
use Rattle.lang_order.proofs.Things.{var_says}
use Rattle.lang_lists.specs.SixAtMost.{six_at_most}
use Rattle.lang_lines.proofs.Agreements.{names_alike}
use Rattle.lang_tokens.specs.Places.{placed_of}
use Rattle.lang_tokens.specs.LineFaults.{marks}
use Rattle.lang_lines.proofs.Readings.{stand, is_read, body_fault}
use Rattle.lang_lines.proofs.lists.variables.Goals as goal

pub returns-in_err-names-clause-fault : goal.returns-in_err-names-clause-fault
returns-in_err-names-clause-fault c =
    let p = err_from_is_err_and c.from_residual.result c.from_residual.ensures.1 in
    let ts = map (placed_of c.args.line) c.args.tokens.now in
    rw (p.1, p.2) (λ second. body_fault (AreJoined IsName) six_at_most Vars names_alike second kinds.Var (var_says second) c.args.line ts _ (stand c.args.line c.args.tokens.now) c.in_err-names.ensures.fault)

pub returns-clause-ok : goal.returns-clause-ok
returns-clause-ok c =
    let ts = map (placed_of c.args.line) c.args.tokens.now in
    λ second. is_read (AreJoined IsName) six_at_most Vars names_alike second kinds.Var (var_says second) (marks ts) _ c.in_ok-names.ensures.ok
