use Rattle.std.proofs.Common.{◌≡◌, length, drop}
use Rattle.std.specs.Cmp.Lexicographic.{pointwise}
use Rattle.gap_keys.specs.Views.{states_of}
use Rattle.gap_keys.proofs.KeyEquality.{state_eq}
use Rattle.gap_keys.proofs.key_equality.are_alike.Given as goal

abbrev pub invariant-loop-i : goal.invariant-loop-i
invariant-loop-i l = record {
  long : length l.states ≡ length l.others;
  rest : pointwise state_eq (states_of l.states) (states_of l.others) ≡ pointwise state_eq (states_of (drop l.i l.states)) (states_of (drop l.i l.others));
}
