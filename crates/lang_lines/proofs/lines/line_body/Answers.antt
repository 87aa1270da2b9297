use Rattle.std.proofs.Common.{map}
use Rattle.std.specs.Prelude.{Bool, IsTrue}
use Rattle.lang_specs.specs.declared.Kind.TheVariants as kinds
use Rattle.lang_tokens.specs.Places.{placed_of}
use Rattle.lang_tokens.specs.LineFaults.{marks}
use Rattle.lang_tokens.proofs.JoinedLaws.{if_ok}
use Rattle.lang_lines.specs.Lines.{says, IsRead}
use Rattle.lang_lines.proofs.lines.line_body.Goals as goal

pub returns-in-Var-clause-ok : goal.returns-in-Var-clause-ok
returns-in-Var-clause-ok c =
    let ms = marks (map (placed_of c.args.line) c.args.tokens.now) in
    rw (c.in-Var.is) (if_ok (λ s. (second : Bool) → IsRead second kinds.Var ms (says s)) (λ s. IsRead c.args.second kinds.Var ms (says s)) c.variables.result (λ s h. h c.args.second) c.variables.ensures.ok)

pub returns-in-Obs-clause-ok : goal.returns-in-Obs-clause-ok
returns-in-Obs-clause-ok c =
    let ms = marks (map (placed_of c.args.line) c.args.tokens.now) in
    rw (c.in-Obs.is) (if_ok (λ s. (second : Bool) → IsTrue second → IsRead second kinds.Obs ms (says s)) (λ s. IsRead c.args.second kinds.Obs ms (says s)) c.bounds.result (λ s h. h c.args.second (c.requires.version c.in-Obs.is)) c.bounds.ensures.ok)

pub returns-in-Flow-clause-ok : goal.returns-in-Flow-clause-ok
returns-in-Flow-clause-ok c =
    let ms = marks (map (placed_of c.args.line) c.args.tokens.now) in
    rw (c.in-Flow.is) (if_ok (λ s. (second : Bool) → IsRead second kinds.Flow ms (says s)) (λ s. IsRead c.args.second kinds.Flow ms (says s)) c.boxes.result (λ s h. h c.args.second) c.boxes.ensures.ok)

pub returns-in-Also-clause-ok : goal.returns-in-Also-clause-ok
returns-in-Also-clause-ok c =
    let ms = marks (map (placed_of c.args.line) c.args.tokens.now) in
    rw (c.in-Also.is) (if_ok (λ s. (second : Bool) → IsRead second kinds.Also ms (says s)) (λ s. IsRead c.args.second kinds.Also ms (says s)) c.slopes.result (λ s h. h c.args.second) c.slopes.ensures.ok)
