use Rattle.std.proofs.Common.{◌≡◌, ◌<◌, ◌∙◌, ap, subst, length, get_or, take, List, rules}
use Rattle.std.specs.Prelude.{All, MatchBool}
use Rattle.std.proofs.lemmas.List.Elements.{All-more}
use Rattle.std.proofs.lemmas.List.{take_all}
use Rattle.poly_specs.specs.Bits.{SomePasses}
use Rattle.poly_specs.specs.Bounds.{IsPoint, Entails, bound_numbers}
use Rattle.poly_specs.specs.Rows.{Row, Point, Holds}
use Rattle.poly_decide.proofs.InclusionLemmas.{row_passes, each_entailed}
use Rattle.poly_decide.proofs.inclusion.includes.Goals as goal

pub returns-in_err-entails-clause-passes : goal.returns-in_err-entails-clause-passes
returns-in_err-entails-clause-passes c e =
    let passes : SomePasses (bound_numbers c.args.small.now.width c.args.small.now.rows c.row-item.result) = search rules in
    let within : c.loop-row.row-index < length c.args.big.now.rows = subst (λ (rs : List Row). c.loop-row.row-index < length rs) c.rows-row-items.ensures.value c.loop-row-test.true in
    let at = c.row-item.is ∙ ap (λ (rs : List Row). get_or rs c.loop-row.row-index c.row-item.result) c.rows-row-items.ensures.value in
    row_passes c.args.small.now.width c.args.big.now.rows c.args.small.now.rows c.loop-row.row-index c.row-item.result within at passes

pub loop-row-preserved : goal.loop-row-preserved
loop-row-preserved c =
    let n = c.args.small.now.width in
    let rows = c.args.small.now.rows in
    let entailed : Entails n rows c.row-item.result =
    subst (λ b. MatchBool b (Entails n rows c.row-item.result) ((p : Point) × IsPoint n rows p × (Holds c.row-item.result p → ⊥))) c.if-not-branch.false c.in_ok-entails.ensures.ok in
    All-more (Entails n rows) c.rows-row-items.result.now c.loop-row.row-index c.row-item.result c.loop-row-test.true c.loop-row.invariant
    (subst (Entails n rows) c.row-item.is entailed)

pub returns-clause-ok : goal.returns-clause-ok
returns-clause-ok c =
    let i = c.loop-row.row-index in
    let n = c.args.small.now.width in
    let rows = c.args.small.now.rows in
    let all : take i c.rows-row-items.result.now ≡ c.rows-row-items.result.now = take_all i c.rows-row-items.result.now c.loop-row-test.false in
    each_entailed n c.args.big.now.rows rows
    (subst (All (Entails n rows)) (all ∙ c.rows-row-items.ensures.value) c.loop-row.invariant)
