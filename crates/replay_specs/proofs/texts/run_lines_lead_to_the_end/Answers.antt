use Rattle.replay_specs.proofs.RunTextLines.{run_lines_lead}
use Rattle.replay_specs.proofs.texts.run_lines_lead_to_the_end.Goals as goal

pub returns : goal.returns
returns c = run_lines_lead
