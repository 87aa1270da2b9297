use Rattle.std.proofs.Common.{◌≡◌, ◌≢◌, ℕ, ◌<◌, pos}
use Rattle.poly_specs.specs.Lists.{number_at}
use Rattle.lha_model.proofs.boxes.is_zero_but.Given as goal

abbrev pub invariant-loop-i : goal.invariant-loop-i
invariant-loop-i l = (i : ℕ) → i < l.i → i ≢ l.j → number_at i l.numbers ≡ pos 0
