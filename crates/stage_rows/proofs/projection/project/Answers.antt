use Rattle.std.proofs.Common.{◌∙◌, sym}
use Rattle.poly_decide.proofs.PruneLemmas.{sublist_among}
use Rattle.poly_decide.proofs.ThinningLemmas.{pruned_same}
use Rattle.stage_rows.proofs.projection.project.Goals as goal

pub returns-clause-wide : goal.returns-clause-wide
returns-clause-wide c = c.in_ok-few.ensures.pruned.same_width ∙ c.in_ok-left.ensures.wide

pub returns-clause-same : goal.returns-clause-same
returns-clause-same c p h l =
    let few = pruned_same c.in_ok-left.left c.in_ok-few.few p c.in_ok-few.ensures.pruned h (l ∙ sym c.in_ok-left.ensures.wide) in
    let all = c.in_ok-left.ensures.same p h l in
    (λ g. all.0 (few.0 g), λ g. few.1 (all.1 g))

pub returns-clause-plain : goal.returns-clause-plain
returns-clause-plain c r i =
    c.in_ok-left.ensures.plain r (sublist_among c.in_ok-few.few.rows c.in_ok-left.left.rows c.in_ok-few.ensures.pruned.thinned.some r i)
