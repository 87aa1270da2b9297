use Rattle.std.proofs.Common.{sym, arith, pos}
use Rattle.std.specs.Prelude.{codes}
use Rattle.run_text.proofs.LineLemmas.{integer_line, positive_count}
use Rattle.run_text.proofs.lines.read_count.Goals as goal

pub returns-in-Some-kept_count-clause-ok : goal.returns-in-Some-kept_count-clause-ok
returns-in-Some-kept_count-clause-ok c =
    let text = c.in-Some.ensures.some in
    let value = c.in-Some-kept_count.ensures in (
      integer_line (codes "run ") c.args.line.now c.in-Some.text.now (pos c.in-Some-kept_count.count) text.1 text.0 value.0 (omega (arith, value.1)),
      positive_count _ c.in-Some-kept_count.count (sym c.if-not-is_positive.ensures) value.0,
      value.1,
    )
