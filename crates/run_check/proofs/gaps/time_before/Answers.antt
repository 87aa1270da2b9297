use Rattle.std.proofs.Common.{◌≡◌, ◌-◌, ◌<◌, ◌∙◌, ◌^◌, length, rules, sym, subst, arith, one-mul}
use Rattle.std.proofs.Math.Nat.{dvd-mul_right}
use Rattle.std.specs.Int.{◌∣◌}
use Rattle.poly_specs.specs.Fractions.{zero_fraction}
use Rattle.number_specs.specs.LogNumbers.{IsLogNumber}
use Rattle.run_specs.specs.Logs.{Sample}
use Rattle.run_check.proofs.gaps.time_before.Goals as goal

pub returns-then-i-eq0-clause-in_range : goal.returns-then-i-eq0-clause-in_range
returns-then-i-eq0-clause-in_range c =
    let e : c.make.result ≡ zero_fraction = search rules in
    rw e (record {
      lowest_terms = record { positive = record { lt = tt }; lowest_terms = sym c.make.ensures ∙ e };
      small = omega arith;
      few_decimals = subst (λ k. 1 ∣ k) (one-mul (10 ^ 18)) (dvd-mul_right 1 (10 ^ 18));
    })

pub returns-else-i-eq0-clause-in_range : goal.returns-else-i-eq0-clause-in_range
returns-else-i-eq0-clause-in_range c =
    let lt : c.args.i - 1 < length c.args.log.now = omega (arith, c.requires.inside, c.if-i-eq0.false) in
    let is = rw c.samples.ensures at c.index-samples-i.is in
    rw c.time.ensures
    (subst (λ (s : Sample). IsLogNumber s.time) (sym is) (c.requires.times (c.args.i - 1) c.index-samples-i.result lt))
