use Rattle.run_text.proofs.PieceLemmas.{one_piece, place_splits, place_cuts}
use Rattle.run_text.proofs.pieces.first_piece.Goals as goal

pub returns-in_err-at-clause-pieces : goal.returns-in_err-at-clause-pieces
returns-in_err-at-clause-pieces c = rw c.from_residual.ensures (one_piece c.args.byte c.args.text.now c.in_err-at.ensures.none)

pub returns-clause-pieces : goal.returns-clause-pieces
returns-clause-pieces c = let at = c.in_ok-at.ensures.some in place_splits c.args.byte c.in_ok-at.at c.args.text.now at.0 at.1 at.2

pub returns-clause-whole : goal.returns-clause-whole
returns-clause-whole c = let at = c.in_ok-at.ensures.some in place_cuts c.args.byte c.in_ok-at.at c.args.text.now at.0 at.1
