use Rattle.std.proofs.Common.{◌≡◌, map, neg_ℤ, take}
use Rattle.std.specs.Prelude.{All}
use Rattle.poly_specs.specs.Bits.{FitsBits}
use Rattle.poly_decide.proofs.sums.opposites.Given as goal

abbrev pub invariant-loop-number : goal.invariant-loop-number
invariant-loop-number l = record {
  items : l.negated.items ≡ map neg_ℤ (take l.number-index l.numbers);
  fit : All FitsBits l.negated.items;
  inline : l.negated.capacity ≡ 14;
}
