use Rattle.std.proofs.Common.{sym, ◌∙◌}
use Rattle.log_reader.proofs.BlankLemmas.{dropped_by, kept_by}
use Rattle.log_reader.proofs.fields.up_to_blanks.Goals as goal

pub returns-then-not-is_blank : goal.returns-then-not-is_blank
returns-then-not-is_blank c =
    kept_by c.in-Some.rest.now c.loop-last.left.now c.in-Some.last.now c.in-Some.ensures.cases.0 (sym c.is_blank.ensures ∙ c.if-not-is_blank.true) ∙ c.loop-last.invariant

pub loop-last-preserved : goal.loop-last-preserved
loop-last-preserved c =
    dropped_by c.in-Some.rest.now c.loop-last.left.now c.in-Some.last.now c.in-Some.ensures.cases.0 (sym c.is_blank.ensures ∙ c.if-not-is_blank.false) ∙ c.loop-last.invariant
