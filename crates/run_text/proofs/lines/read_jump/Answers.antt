use Rattle.std.proofs.Common.{arith, pos}
use Rattle.std.specs.Prelude.{codes}
use Rattle.run_text.proofs.LineLemmas.{integer_line}
use Rattle.run_text.proofs.lines.read_jump.Goals as goal

pub returns-in-Some-kept_code-clause-ok : goal.returns-in-Some-kept_code-clause-ok
returns-in-Some-kept_code-clause-ok c =
    let text = c.in-Some.ensures.some in
    let value = c.in-Some-kept_code.ensures in
    (integer_line (codes "jump ") c.args.line.now c.in-Some.text.now (pos c.in-Some-kept_code.transition) text.1 text.0 value.0 (omega (arith, value.1)), value.1)
