use Rattle.example_specs.proofs.ShutterThird.{third_is_first, third_is_no_alarm}
use Rattle.example_specs.proofs.shutter_first_run_to_a_third.Goals as goal

pub returns : goal.returns
returns c = record { to_third = third_is_first; to_no_alarm = λ first. third_is_no_alarm first }
