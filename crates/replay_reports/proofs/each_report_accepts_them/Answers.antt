use Rattle.replay_reports.proofs.SampleLemmas.{report_accepts}
use Rattle.replay_reports.proofs.each_report_accepts_them.Goals as goal

pub returns : goal.returns
returns c = report_accepts
