use Rattle.std.proofs.Common.{◌+◌, sym, ◌∙◌, ap, arith}
use Rattle.std.proofs.lemmas.Bool.{le-leb}
use Rattle.frac128.proofs.DecimalLemmas.{keeps_zero, more_after}
use Rattle.frac128.proofs.read.Digits.with_zero.Goals as goal

pub returns-clause-value : goal.returns-clause-value
returns-clause-value c d h = record {
  number = keeps_zero d.value c.args.self.kept c.args.self.zeros h.number;
  some = sym (le-leb 1 (d.count + 1) (omega arith));
  point = h.point;
  after_point = ap (λ n. c.args.self.after_point + n) c.from.ensures ∙ more_after c.args.self.has_point d.has_point c.args.self.after_point d.after_point h.point h.after_point;
}
