use Rattle.std.proofs.Common.{rules}
use Rattle.run_text.proofs.LineLemmas.{no_single, one_single}
use Rattle.run_text.proofs.lines.single.Goals as goal

pub returns-then-not-is_integer-clause-none : goal.returns-then-not-is_integer-clause-none
returns-then-not-is_integer-clause-none c = no_single c.args.word.now c.args.line.now c.in_ok-text.text.now c.in_ok-text.ensures.value (search rules)

pub returns-clause-some : goal.returns-clause-some
returns-clause-some c = (
  search rules,
  c.in_ok-text.ensures.whole,
  one_single c.args.word.now c.args.line.now c.in_ok-text.text.now c.in_ok-text.ensures.value (search rules),
)
