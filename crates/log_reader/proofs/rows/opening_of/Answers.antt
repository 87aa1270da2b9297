use Rattle.std.proofs.Common.{arith}
use Rattle.log_reader.proofs.RowLemmas.{short_opening}
use Rattle.log_reader.proofs.rows.opening_of.Goals as goal

pub returns-in-len1-clause-refusal : goal.returns-in-len1-clause-refusal
returns-in-len1-clause-refusal c = short_opening c.args.fields.now (omega (arith, c.in-len1.len_below))
