use Rattle.std.proofs.Common.{◌≡◌, false, sym, ◌∙◌}
use Rattle.lang_specs.proofs.SplitLemmas.{apart}
use Rattle.lang_texts.proofs.ReadingLemmas.{end_fails, end_spells}
use Rattle.lang_texts.proofs.texts.finish.Goals as goal

pub returns-in_ok-trees_of-clause-ok : goal.returns-in_ok-trees_of-clause-ok
returns-in_ok-trees_of-clause-ok c = λ text h.
    rw c.in_ok-trees_of.ensures (end_spells c.args.state c.args.line (c.may_end.ensures.0 c.if-may_end.true) text h)

pub returns-else-may_end : goal.returns-else-may_end
returns-else-may_end c =
    record { ok = tt; fault = end_fails c.args.state c.args.line (λ e. apart (sym (c.may_end.ensures.1 e) ∙ c.if-may_end.false)) }
