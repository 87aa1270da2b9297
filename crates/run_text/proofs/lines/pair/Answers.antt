use Rattle.std.proofs.Common.{sym, ◌∙◌, ap, ◌++◌}
use Rattle.std.specs.Prelude.{codes}
use Rattle.run_text.proofs.LineLemmas.{gap_of_other, gap_of_more, gap_below, gap_pair}
use Rattle.run_text.proofs.lines.pair.Goals as goal

pub returns-then-not-is_integer-clause-none : goal.returns-then-not-is_integer-clause-none
returns-then-not-is_integer-clause-none c n =
    gap_of_other n c.args.line.now c.in_ok-behind.field-0.now c.in_ok-halves.halves.before.now c.in_ok-halves.halves.after.now c.in_ok-behind.ensures.value c.in_ok-halves.ensures.pieces (sym c.if-not-is_integer.ensures)

pub returns-then-not-is_integer-2-clause-none : goal.returns-then-not-is_integer-2-clause-none
returns-then-not-is_integer-2-clause-none c n =
    gap_of_more n c.args.line.now c.in_ok-behind.field-0.now c.in_ok-halves.halves.before.now c.in_ok-halves.halves.after.now c.in_ok-behind.ensures.value c.in_ok-halves.ensures.pieces (sym c.if-not-is_integer-2.ensures)

pub returns-then-not-is_positive-clause-none : goal.returns-then-not-is_positive-clause-none
returns-then-not-is_positive-clause-none c n =
    gap_below n c.args.line.now _ _
    (gap_pair c.args.line.now c.in_ok-behind.field-0.now c.in_ok-halves.halves.before.now c.in_ok-halves.halves.after.now c.in_ok-behind.ensures.value c.in_ok-halves.ensures.pieces
    (sym c.if-not-is_integer.ensures) (sym c.if-not-is_integer-2.ensures))
    (sym c.if-not-is_positive.ensures)

pub returns-clause-some : goal.returns-clause-some
returns-clause-some c = (
  sym c.if-not-is_integer.ensures,
  sym c.if-not-is_integer-2.ensures,
  sym c.if-not-is_positive.ensures,
  c.in_ok-behind.ensures.whole ∙ ap (λ t. codes "gap " ++ t) c.in_ok-halves.ensures.whole,
  gap_pair c.args.line.now c.in_ok-behind.field-0.now c.in_ok-halves.halves.before.now c.in_ok-halves.halves.after.now c.in_ok-behind.ensures.value c.in_ok-halves.ensures.pieces
      (sym c.if-not-is_integer.ensures) (sym c.if-not-is_integer-2.ensures),
)
