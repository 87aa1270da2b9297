use Rattle.replay_specs.proofs.RunTextLines.{run_text_has_none}
use Rattle.replay_specs.proofs.texts.run_texts_have_no_fault.Goals as goal

pub returns : goal.returns
returns c = run_text_has_none
