use Rattle.run_text.proofs.ReadingLemmas.{read_back}
use Rattle.run_text.proofs.read.read_run.Goals as goal

pub returns-clause-found : goal.returns-clause-found
returns-clause-found c = read_back c.args.text.now c.read_lines.result c.read_lines.ensures.ok c.read_lines.ensures.fault
