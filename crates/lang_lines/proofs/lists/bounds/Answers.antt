use Rattle.std.proofs.Common.{map}
use Rattle.std.proofs.lemmas.Result.{err_from_is_err_and}
use Rattle.lang_specs.specs.declared.Kind.TheVariants as kinds
use Rattle.lang_specs.specs.Expressions.{AreJoined, IsBound}
use Rattle.lang_order.specs.Statements.{Obs}
use Rattle.lang_order.proofs.Things.{obs_says}
use Rattle.lang_lists.specs.SixAtMost.{six_at_most}
use Rattle.lang_lines.proofs.Agreements.{bounds_alike}
use Rattle.lang_tokens.specs.Places.{placed_of}
use Rattle.lang_tokens.specs.LineFaults.{marks}
use Rattle.lang_lines.proofs.Readings.{stand, is_read, body_fault}
use Rattle.lang_lines.proofs.lists.bounds.Goals as goal

pub returns-in_err-bounds-clause-fault : goal.returns-in_err-bounds-clause-fault
returns-in_err-bounds-clause-fault c =
    let p = err_from_is_err_and c.from_residual.result c.from_residual.ensures.1 in
    let ts = map (placed_of c.args.line) c.args.tokens.now in
    rw (p.1, p.2) (λ second so. body_fault (AreJoined IsBound) six_at_most Obs bounds_alike second kinds.Obs (obs_says second so) c.args.line ts _ (stand c.args.line c.args.tokens.now) c.in_err-bounds.ensures.fault)

pub returns-clause-ok : goal.returns-clause-ok
returns-clause-ok c =
    let ts = map (placed_of c.args.line) c.args.tokens.now in
    λ second so. is_read (AreJoined IsBound) six_at_most Obs bounds_alike second kinds.Obs (obs_says second so) (marks ts) _ c.in_ok-bounds.ensures.ok
