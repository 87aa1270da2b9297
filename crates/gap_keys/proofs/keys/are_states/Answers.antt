use Rattle.gap_keys.proofs.StateLemmas.{both_of, each_of}
use Rattle.gap_keys.proofs.keys.are_states.Goals as goal

pub returns : goal.returns
returns c = (λ h. both_of c.args.a.now c.args.states.now (c.is_each_state.ensures.0 h), λ h. c.is_each_state.ensures.1 (each_of c.args.a.now c.args.states.now h.0 h.1))
