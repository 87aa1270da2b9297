use Rattle.example_specs.proofs.Runs.{rising_is, rising_visits}
use Rattle.example_specs.proofs.high_at_the_last_sample.Goals as goal

pub returns : goal.returns
returns c = (rising_is, rising_visits, (_, rising_is, rising_visits))
