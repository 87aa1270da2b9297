use Rattle.run_text.proofs.StateLemmas.{first_goes}
use Rattle.run_text.proofs.states.first_line.Goals as goal

pub returns : goal.returns
returns c = let count = c.in_ok-count.ensures.ok in first_goes _ c.args.line.now c.new-gaps.ensures.items count.0 count.1 count.2
