use Rattle.log_specs.proofs.ReportLemmas.{all_keep}
use Rattle.log_specs.proofs.accepted_samples_are_a_log.Goals as goal

pub returns : goal.returns
returns c = all_keep
