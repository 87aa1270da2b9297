use Rattle.std.proofs.Common.{◌≡◌, ◌∙◌, [], Err, ap, rules}
use Rattle.fm_eliminate.specs.declared.RowFault.TheVariants.{Passes}
use Rattle.gap_keys.specs.Views.{StateView, ItemView, state_view, system_of}
use Rattle.poly_specs.specs.Systems.{System}
use Rattle.alarm_run.proofs.BeginLemmas.{known, some_items, some_marked_is, has_point, code_place, code_walked, code_passes}
use Rattle.alarm_run.proofs.walking.begin.Goals as goal

system_is : (x : StateView) (v : ItemView) (s : System) → s ≡ system_of x → x ≡ state_view v → s ≡ system_of (state_view v)
system_is x v s e f = e ∙ ap (λ (y : StateView). system_of y) f

pub entry_at-requires : goal.entry_at-requires
entry_at-requires c = known c.args.history.now c.args.sample c.requires.alarm

pub items_in-items-requires : goal.items_in-items-requires
items_in-items-requires c = some_items c.args.history.now c.args.sample c.requires.alarm c.entry_at.result.now c.entry_at.ensures.value

pub first_marked-number-requires : goal.first_marked-number-requires
first_marked-number-requires c = some_marked_is c.args.history.now c.args.sample c.requires.alarm c.entry_at.result.now c.entry_at.ensures.value c.items_in-items.result.now c.items_in-items.ensures.value

pub last_values-requires : goal.last_values-requires
last_values-requires c = has_point c.args.history.now c.args.sample c.requires.alarm c.entry_at.result.now c.entry_at.ensures.value c.items_in-items.result.now c.items_in-items.ensures.value c.first_marked-number.result c.first_marked-number.ensures
    c.entry_at.ensures.kept c.items_in-items.ensures.wide c.item_at.result.now c.item_at.ensures c.system.result.now (system_is c.state.result.now c.item_at.result.now c.system.result.now c.system.ensures.value c.state.ensures)

pub returns-in_err-last-clause-passes : goal.returns-in_err-last-clause-passes
returns-in_err-last-clause-passes c e =
    let same : c.in_err-last.field-0.0 ≡ Passes = search rules in
    code_passes c.args.history.now c.args.sample c.requires.alarm c.entry_at.result.now c.entry_at.ensures.value c.items_in-items.result.now c.items_in-items.ensures.value c.first_marked-number.result c.first_marked-number.ensures
    c.entry_at.ensures.kept c.items_in-items.ensures.wide c.item_at.result.now c.item_at.ensures c.system.result.now (system_is c.state.result.now c.item_at.result.now c.system.result.now c.system.ensures.value c.state.ensures)
    (c.in_err-last.ensures.passes (ap (λ f. Err f) same))

pub returns-clause-place : goal.returns-clause-place
returns-clause-place c =
    let none : c.new.result.items ≡ [] = search rules in
    code_place c.args.history.now c.args.sample c.requires.alarm c.entry_at.result.now c.entry_at.ensures.value c.items_in-items.result.now c.items_in-items.ensures.value c.first_marked-number.result c.first_marked-number.ensures
    c.entry_at.ensures.kept c.items_in-items.ensures.wide c.item_at.result.now c.item_at.ensures c.system.result.now (system_is c.state.result.now c.item_at.result.now c.system.result.now c.system.ensures.value c.state.ensures)
    c.in_ok-last.last.items c.in_ok-last.ensures.ok c.new.result.items none

pub returns-clause-walked : goal.returns-clause-walked
returns-clause-walked c =
    let none : c.new.result.items ≡ [] = search rules in
    code_walked c.args.history.now c.args.sample c.requires.alarm c.entry_at.result.now c.entry_at.ensures.value c.items_in-items.result.now c.items_in-items.ensures.value c.first_marked-number.result c.first_marked-number.ensures
    c.entry_at.ensures.kept c.items_in-items.ensures.wide c.item_at.result.now c.item_at.ensures c.system.result.now (system_is c.state.result.now c.item_at.result.now c.system.result.now c.system.ensures.value c.state.ensures)
    c.in_ok-last.last.items c.in_ok-last.ensures.ok c.new.result.items none
