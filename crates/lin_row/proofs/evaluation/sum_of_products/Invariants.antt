use Rattle.lin_row.proofs.EvaluationLemmas.{SumSoFar}
use Rattle.lin_row.proofs.evaluation.sum_of_products.Given as goal

abbrev pub invariant-loop-i : goal.invariant-loop-i
invariant-loop-i l = SumSoFar l.sum l.i l.coef l.num
