use Rattle.std.proofs.Common.{◌≡◌, map, drop}
use Rattle.lang_tokens.specs.Places.{placed_of}
use Rattle.lang_tokens.specs.Machines.{run}
use Rattle.lang_transitions.specs.TransitionMachine.{at_from}
use Rattle.lang_transitions.specs.Views.{transition, state_of, Knows}
use Rattle.lang_transitions.proofs.transitions.read_transition.Given as goal

abbrev pub invariant-loop-token : goal.invariant-loop-token
invariant-loop-token l = record {
  few : Knows l.reader;
  so_far : run (transition l.strict) (state_of l.reader) (map (placed_of l.line) (drop l.token-index l.tokens)) ≡ run (transition l.strict) at_from (map (placed_of l.line) l.tokens);
}
