use Rattle.replay_reports.proofs.SampleLemmas.{accepted_are_log}
use Rattle.replay_reports.proofs.accepted_samples_are_a_log.Goals as goal

pub returns : goal.returns
returns c = accepted_are_log
