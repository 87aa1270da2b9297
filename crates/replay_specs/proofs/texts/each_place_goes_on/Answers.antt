use Rattle.replay_specs.proofs.RunTextGoesOn.{goes_on}
use Rattle.replay_specs.proofs.texts.each_place_goes_on.Goals as goal

pub returns : goal.returns
returns c = goes_on
