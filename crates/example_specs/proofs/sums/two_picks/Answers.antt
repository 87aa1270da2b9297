use Rattle.example_specs.proofs.PickExamples.{pick_inside, pick_up_to_third}
use Rattle.example_specs.proofs.sums.two_picks.Goals as goal

pub returns : goal.returns
returns c = (pick_inside, pick_up_to_third)
