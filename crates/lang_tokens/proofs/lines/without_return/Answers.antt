use Rattle.std.proofs.Common.{◌≡◌, ◌-◌, length, get_or, arith, subst}
use Rattle.lang_tokens.proofs.FirstLine.{return_cut, no_return}
use Rattle.lang_tokens.proofs.lines.without_return.Goals as goal
use Rattle.lang_tokens.proofs.lines.without_return.Goals.{else-n-gt0-via-then-n-gt0+else-line-n-eq13, else-n-gt0-via-else-n-gt0}

pub returns-then-line-n-eq13-clause-value : goal.returns-then-line-n-eq13-clause-value
returns-then-line-n-eq13-clause-value c = return_cut c.args.line.now (length c.args.line.now - 1) (let some = c.if-n-gt0.true in omega arith) c.if-line-n-eq13.true

pub returns-else-n-gt0-clause-value : goal.returns-else-n-gt0-clause-value
returns-else-n-gt0-clause-value c =
    no_return c.args.line.now (λ k lt e.
    let last : k ≡ length c.args.line.now - 1 = omega arith in
    elim c.else-n-gt0.branch [
      | else-n-gt0-via-then-n-gt0+else-line-n-eq13 w ↦ w.if-line-n-eq13.false (subst (λ i. get_or c.args.line.now i 0 ≡ 13) last e)
      | else-n-gt0-via-else-n-gt0 w ↦ absurd (omega arith)
    ])
