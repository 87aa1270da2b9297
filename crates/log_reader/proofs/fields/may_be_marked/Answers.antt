use Rattle.std.proofs.Common.{arith}
use Rattle.std.proofs.lemmas.Bool.{eqb-false}
use Rattle.log_reader.proofs.CommaLemmas.{not_marked, nothing_marked}
use Rattle.log_reader.proofs.fields.may_be_marked.Goals as goal

pub returns-then-not-is_empty : goal.returns-then-not-is_empty
returns-then-not-is_empty c = λ e. not_marked c.args.line.now (eqb-false _ _ e)

pub returns-else-not-is_empty : goal.returns-else-not-is_empty
returns-else-not-is_empty c = λ e. nothing_marked c.args.line.now (grind (arith, c.is_empty.ensures, c.if-not-is_empty.false))
