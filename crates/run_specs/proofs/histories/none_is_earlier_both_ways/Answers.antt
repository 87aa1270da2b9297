use Rattle.run_specs.proofs.HistoryLemmas.{not_both}
use Rattle.run_specs.proofs.histories.none_is_earlier_both_ways.Goals as goal

pub returns : goal.returns
returns c h k e f = not_both h k e f
