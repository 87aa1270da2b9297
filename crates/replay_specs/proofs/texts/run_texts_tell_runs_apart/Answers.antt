use Rattle.replay_specs.proofs.RunTextsApart.{texts_tell_apart}
use Rattle.replay_specs.proofs.texts.run_texts_tell_runs_apart.Goals as goal

pub returns : goal.returns
returns c = texts_tell_apart
