use Rattle.std.proofs.Common.{◌≡◌, Err, length, ap, rules, sym, subst}
use Rattle.std.specs.Prelude.{All}
use Rattle.fm_eliminate.specs.declared.RowFault.TheVariants.{Passes}
use Rattle.gap_runs.specs.Befores.{common_point}
use Rattle.gap_runs.specs.Gaps.{GapValue, IsGapBack}
use Rattle.gap_runs.specs.contracts.gaps.GapBack.{the_view as back_view}
use Rattle.live_session.specs.Entries.{entry_of}
use Rattle.poly_specs.specs.Fractions.{IsFraction}
use Rattle.poly_specs.specs.Rows.{AllHold}
use Rattle.replay_specs.specs.RunTexts.{IsWritableGap}
use Rattle.run_specs.specs.Automaton.{width}
use Rattle.run_specs.specs.Keys.{parent_at}
use Rattle.alarm_run.proofs.StepLemmas.{has_items, index_below, code_may, code_reached, code_sized, code_place, code_walked, code_passes}
use Rattle.alarm_run.specs.contracts.walking.Walk.{the_view}
use Rattle.alarm_run.proofs.walking.step_back.Goals as goal

pub items_in-requires : goal.items_in-requires
items_in-requires c = has_items c.args.history.now c.entry_at-entry.ensures.kept c.args.i c.requires.known c.args.walk c.requires.place (entry_of c.entry_at-entry.result.now) c.entry_at-entry.ensures.value

pub item_at-item-requires : goal.item_at-item-requires
item_at-item-requires c =
    index_below c.args.history.now c.entry_at-entry.ensures.kept c.args.i c.requires.known c.args.walk (the_view c.walk.inside) c.walk.view_is c.requires.place c.entry_at-entry.result.now
    c.entry_at-entry.ensures.value c.items_in.result.now c.items_in.ensures.value

pub gap_back-requires-clause-may_take : goal.gap_back-requires-clause-may_take
gap_back-requires-clause-may_take c =
    code_may c.args.history.now c.entry_at-entry.ensures.kept c.args.i c.requires.known c.args.walk (the_view c.walk.inside) c.walk.view_is c.requires.place c.entry_at-entry.result.now
    c.entry_at-entry.ensures.value c.items_in.result.now c.items_in.ensures.value c.item_at-item.result.now c.item_at-item.ensures c.key.result.now c.key.ensures.value
    c.parent.result c.parent.ensures c.path.result.now c.path.ensures c.as_slice.result.now c.as_slice.ensures.value

pub gap_back-requires-clause-sized : goal.gap_back-requires-clause-sized
gap_back-requires-clause-sized c =
    code_sized c.args.history.now c.entry_at-entry.ensures.kept c.args.i c.requires.known c.args.walk (the_view c.walk.inside) c.walk.view_is c.requires.place c.entry_at-entry.result.now
    c.entry_at-entry.ensures.value c.items_in.result.now c.items_in.ensures.value c.item_at-item.result.now c.item_at-item.ensures c.key.result.now c.key.ensures.value
    c.parent.result c.parent.ensures c.path.result.now c.path.ensures c.as_slice.result.now c.as_slice.ensures.value

pub gap_back-requires-clause-reached : goal.gap_back-requires-clause-reached
gap_back-requires-clause-reached c =
    code_reached c.args.history.now c.entry_at-entry.ensures.kept c.args.i c.requires.known c.args.walk (the_view c.walk.inside) c.walk.view_is c.requires.place c.entry_at-entry.result.now
    c.entry_at-entry.ensures.value c.items_in.result.now c.items_in.ensures.value c.item_at-item.result.now c.item_at-item.ensures c.key.result.now c.key.ensures.value
    c.parent.result c.parent.ensures c.path.result.now c.path.ensures c.as_slice.result.now c.as_slice.ensures.value

pub returns-in_err-gap-clause-passes : goal.returns-in_err-gap-clause-passes
returns-in_err-gap-clause-passes c e =
    let same : c.in_err-gap.field-0.0 ≡ Passes = search rules in
    code_passes c.args.history.now c.entry_at-entry.ensures.kept c.args.i c.requires.known c.args.walk (the_view c.walk.inside) c.walk.view_is c.requires.place c.entry_at-entry.result.now
    c.entry_at-entry.ensures.value c.items_in.result.now c.items_in.ensures.value c.item_at-item.result.now c.item_at-item.ensures c.key.result.now c.key.ensures.value
    c.parent.result c.parent.ensures c.path.result.now c.path.ensures c.as_slice.result.now c.as_slice.ensures.value
    (c.in_err-gap.ensures.passes (ap (λ f. Err f) same))

pub returns-clause-place : goal.returns-clause-place
returns-clause-place c =
    let key = c.key.result.now in
    let back = c.in_ok-gap.ensures in
    let same = sym c.gap.view_is in
    code_place c.args.history.now c.entry_at-entry.ensures.kept c.args.i c.requires.known c.args.walk (the_view c.walk.inside) c.walk.view_is c.requires.place c.entry_at-entry.result.now
    c.entry_at-entry.ensures.value c.items_in.result.now c.items_in.ensures.value c.item_at-item.result.now c.item_at-item.ensures c.key.result.now c.key.ensures.value
    c.parent.result c.parent.ensures c.path.result.now c.path.ensures c.as_slice.result.now c.as_slice.ensures.value (back_view c.gap.inside) c.parent-2.result c.parent-2.ensures c.push.new.gaps.items c.in_ok-push.ensures
    (subst (λ (b : GapValue). length b.start ≡ width key.automaton) same back.sized) (subst (λ (b : GapValue). All IsFraction b.start) same back.fractions)
    (subst (λ (b : GapValue). AllHold (parent_at key c.parent.result).rows (common_point b.start)) same back.inside) (subst (λ (b : GapValue). IsWritableGap b.gap) same back.writable)

pub returns-clause-walked : goal.returns-clause-walked
returns-clause-walked c n lt few walked =
    let same = sym c.gap.view_is in
    code_walked c.args.history.now c.entry_at-entry.ensures.kept c.args.i c.requires.known c.args.walk (the_view c.walk.inside) c.walk.view_is c.requires.place c.entry_at-entry.result.now
    c.entry_at-entry.ensures.value c.items_in.result.now c.items_in.ensures.value c.item_at-item.result.now c.item_at-item.ensures c.key.result.now c.key.ensures.value
    c.parent.result c.parent.ensures c.path.result.now c.path.ensures c.as_slice.result.now c.as_slice.ensures.value (back_view c.gap.inside) c.parent-2.result c.parent-2.ensures c.push.new.gaps.items c.in_ok-push.ensures
    (subst (IsGapBack c.key.result.now c.parent.result c.path.result.now c.as_slice.result.now) same c.in_ok-gap.ensures.ok) n lt few walked
