use Rattle.std.proofs.Common.{ap, ◌∙◌, ◌++◌, ◌∷◌, []}
use Rattle.run_text.proofs.StateLemmas.{after_goes}
use Rattle.run_text.proofs.states.after_line.Goals as goal

pub returns : goal.returns
returns c =
    let values = c.in_ok-after.ensures.ok in
    let next = c.in_ok-next.ensures.ok in
    after_goes c.args.part c.in_ok-next.next c.args.leg c.args.trans c.in_ok-after.after.items c.args.line.now c.requires.part c.requires.leg c.requires.trans values.1 values.0
    next.0 next.1 next.2 (next.3 ∙ ap (λ s. c.args.part.moves.items ++ s ∷ []) c.new.ensures)
