use Rattle.std.proofs.Common.{arith}
use Rattle.run_specs.proofs.HistoryLogLemmas.{history_has_log, log_length}
use Rattle.run_specs.proofs.ReplyLemmas.{history_all_lawful}
use Rattle.run_specs.specs.HistoryLogs.{log_of}
use Rattle.run_specs.proofs.history_logs.histories_tell_lawful_verdicts.Goals as goal

pub returns : goal.returns
returns c h i v is l e = history_all_lawful h (log_of h) i v (history_has_log h is) (let n = log_length h in omega (arith, n, l)) e
