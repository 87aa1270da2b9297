use Rattle.log_specs.proofs.ReportLemmas.{report_unique}
use Rattle.log_specs.proofs.one_report.Goals as goal

pub returns : goal.returns
returns c = report_unique
