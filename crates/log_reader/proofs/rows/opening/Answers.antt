use Rattle.std.proofs.Common.{map}
use Rattle.log_reader.proofs.RowLemmas.{no_automaton}
use Rattle.log_reader.proofs.rows.opening.Goals as goal

pub returns-in_default-clause-refusal : goal.returns-in_default-clause-refusal
returns-in_default-clause-refusal c = no_automaton c.args.session.now c.args.automaton.now (map (λ f. f.now) c.args.columns.now) c.in_default.ensures
