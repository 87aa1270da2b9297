use Rattle.std.proofs.Common.{arith}
use Rattle.run_text.proofs.LineLemmas.{at_of_other, at_of_many}
use Rattle.run_text.proofs.lines.values_text.Goals as goal

pub returns-in_err-count_integers-clause-none : goal.returns-in_err-count_integers-clause-none
returns-in_err-count_integers-clause-none c =
    rw c.from_residual-in_err-count_integers.ensures
    (λ next. at_of_other next c.args.line.now c.in_ok-rest.rest.now c.in_ok-rest.ensures.value c.in_err-count_integers.ensures)

pub returns-then-branch-gt-MOST_VALUES-clause-none : goal.returns-then-branch-gt-MOST_VALUES-clause-none
returns-then-branch-gt-MOST_VALUES-clause-none c next =
    at_of_many next c.args.line.now c.in_ok-rest.rest.now c.in_ok-rest.ensures.value c.in_ok-count_integers.ensures.0 (omega (arith, c.in_ok-count_integers.ensures.1))
