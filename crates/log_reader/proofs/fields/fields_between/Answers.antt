use Rattle.std.proofs.Common.{◌++◌, ◌∙◌, ap, map}
use Rattle.log_reader.specs.Commas.{between_commas, trimmed}
use Rattle.log_reader.proofs.CommaLemmas.{grown_by, one_more, last_more}
use Rattle.log_reader.proofs.fields.fields_between.Goals as goal

pub loop-at-preserved : goal.loop-at-preserved
loop-at-preserved c =
    let some = c.in-Some.ensures.some in
    ap (λ rest. map (λ f. f.now) c.push.new.self.items ++ trimmed (between_commas rest)) c.behind-rest.ensures
    ∙ one_more _ _ _ _ c.loop-at.rest.now c.in-Some.at some.0 some.1 some.2 c.without_blanks.ensures (grown_by _ _ _ c.in_ok-push.ensures.items) c.loop-at.invariant

pub returns : goal.returns
returns c = last_more _ _ _ _ c.loop-at.rest.now c.in_default.ensures.none c.without_blanks-2.ensures (grown_by _ _ _ c.in_ok-push-2.ensures.items) c.loop-at.invariant
