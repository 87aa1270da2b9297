use Rattle.std.proofs.Common.{◌≡◌, ◌+◌, ◌*◌, ◌-◌, sym, ◌∙◌, ap, subst, arith}
use Rattle.std.proofs.lemmas.Bool.{le-leb}
use Rattle.frac128.proofs.DecimalLemmas.{keeps_digit, keeps_long, more_after}
use Rattle.frac128.specs.Readings.{KeepsStripped}
use Rattle.frac128.proofs.read.Digits.with_nonzero.Goals as goal
use Rattle.frac128.proofs.read.Digits.with_nonzero.Goals.{in-Some, in-None}

pub returns-clause-value : goal.returns-clause-value
returns-clause-value c d h =
    let digit : 48 + c.args.digit - 48 ≡ c.args.digit = omega arith in
    record {
      number = subst (λ n. KeepsStripped (d.value * 10 + n) c.match-self.kept 0) (sym digit) (elim c.match-self.branch [
        | in-Some w ↦ subst (λ k. KeepsStripped (d.value * 10 + c.args.digit) k 0) (sym w.kept-is)
            (keeps_digit d.value w.in-Some.kept c.args.self.zeros c.args.digit w.extended-kept.result c.requires.digit.0 c.requires.digit.1
            (subst (λ k. KeepsStripped d.value k c.args.self.zeros) w.in-Some.is h.number) w.extended-kept.ensures)
        | in-None w ↦ subst (λ k. KeepsStripped (d.value * 10 + c.args.digit) k 0) (sym w.kept-is)
            (keeps_long d.value c.args.digit c.args.self.zeros c.requires.digit.0 c.requires.digit.1
            (subst (λ k. KeepsStripped d.value k c.args.self.zeros) w.in-None.is h.number))
      ]);
      some = sym (le-leb 1 (d.count + 1) (omega arith));
      point = h.point;
      after_point = ap (λ n. c.args.self.after_point + n) c.from.ensures ∙ more_after c.args.self.has_point d.has_point c.args.self.after_point d.after_point h.point h.after_point;
    }
