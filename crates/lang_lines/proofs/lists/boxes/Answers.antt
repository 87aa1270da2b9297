use Rattle.std.proofs.Common.{map}
use Rattle.std.proofs.lemmas.Result.{err_from_is_err_and}
use Rattle.lang_specs.specs.declared.Kind.TheVariants as kinds
use Rattle.lang_specs.specs.Expressions.{AreJoined, IsBox}
use Rattle.lang_order.specs.Statements.{Flow}
use Rattle.lang_order.proofs.Things.{flow_says}
use Rattle.lang_lists.specs.BoxMachine.{no_limits}
use Rattle.lang_lines.proofs.Agreements.{boxes_alike}
use Rattle.lang_tokens.specs.Places.{placed_of}
use Rattle.lang_tokens.specs.LineFaults.{marks}
use Rattle.lang_lines.proofs.Readings.{stand, is_read, body_fault}
use Rattle.lang_lines.proofs.lists.boxes.Goals as goal

pub returns-in_err-boxes-clause-fault : goal.returns-in_err-boxes-clause-fault
returns-in_err-boxes-clause-fault c =
    let p = err_from_is_err_and c.from_residual.result c.from_residual.ensures.1 in
    let ts = map (placed_of c.args.line) c.args.tokens.now in
    rw (p.1, p.2) (λ second. body_fault (AreJoined IsBox) no_limits Flow boxes_alike second kinds.Flow (flow_says second) c.args.line ts _ (stand c.args.line c.args.tokens.now) c.in_err-boxes.ensures.fault)

pub returns-clause-ok : goal.returns-clause-ok
returns-clause-ok c =
    let ts = map (placed_of c.args.line) c.args.tokens.now in
    λ second. is_read (AreJoined IsBox) no_limits Flow boxes_alike second kinds.Flow (flow_says second) (marks ts) _ c.in_ok-boxes.ensures.ok
