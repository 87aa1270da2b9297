use Rattle.run_text.proofs.StateLemmas.{start_goes}
use Rattle.run_text.proofs.states.start_line.Goals as goal

pub returns : goal.returns
returns c =
    let start = c.in_ok-start.ensures.ok in
    start_goes _ c.args.line.now c.requires.whole c.requires.gap start.1 c.new-moves.ensures.items start.0
