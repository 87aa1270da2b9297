use Rattle.std.proofs.Common.{◌≡◌, ◌∙◌, true, false, ap, arith, sym}
use Rattle.std.proofs.lemmas.List.{length-map}
use Rattle.gap_keys.specs.Views.{ItemView, StateView}
use Rattle.alarm_run.proofs.MarkLemmas.{contradicted, first_is, none_more}
use Rattle.alarm_run.proofs.entries.first_marked.Goals as goal

pub returns-then-seen_unsafe : goal.returns-then-seen_unsafe
returns-then-seen_unsafe c =
    let v : ItemView = c.index-items-number.result in
    let marked : v.item.state.seen_unsafe ≡ true = sym (c.seen_unsafe.ensures ∙ ap (λ (s : StateView). s.state.seen_unsafe) c.state.ensures) ∙ c.if-seen_unsafe.true in
    first_is c.args.items.now c.loop-number.number v c.loop-number.invariant c.index-items-number.is c.loop-number-test.true marked

pub loop-number-preserved : goal.loop-number-preserved
loop-number-preserved c =
    let v : ItemView = c.index-items-number.result in
    let unmarked : v.item.state.seen_unsafe ≡ false = sym (c.seen_unsafe.ensures ∙ ap (λ (s : StateView). s.state.seen_unsafe) c.state.ensures) ∙ c.if-seen_unsafe.false in
    none_more c.args.items.now c.loop-number.number v c.loop-number.invariant c.index-items-number.is c.loop-number-test.true unmarked

pub returns : goal.returns
returns c =
    absurd (contradicted c.args.items.now c.loop-number.number c.loop-number.invariant
    (let h = c.loop-number-test.false in omega (arith, h, length-map c.args.items.now (λ (x : ItemView). x.item))) c.requires)
