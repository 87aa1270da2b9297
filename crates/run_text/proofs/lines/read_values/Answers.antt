use Rattle.run_text.proofs.LineLemmas.{collected}
use Rattle.run_text.proofs.lines.read_values.Goals as goal

pub returns-clause-ok : goal.returns-clause-ok
returns-clause-ok c =
    let text = c.in-Some.ensures.some in
    collected (λ v. v.items) c.args.line.now c.in-Some.rest.now c.collect.result text.2 text.1 c.collect.ensures.ok
