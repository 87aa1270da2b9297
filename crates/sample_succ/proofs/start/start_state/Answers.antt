use Rattle.std.proofs.Common.{◌≡◌, List, Err, length, get_or, ap, rules, subst, ◌∙◌}
use Rattle.std.specs.Prelude.{MatchBool, false}
use Rattle.std.proofs.lemmas.List.{get_or_read}
use Rattle.fm_eliminate.specs.declared.RowFault.TheVariants.{Passes}
use Rattle.poly_specs.specs.Bits.{SomePasses}
use Rattle.poly_specs.specs.Bounds.{emptiness_numbers}
use Rattle.poly_specs.specs.Rows.{Row, HasPoint}
use Rattle.run_specs.specs.Automaton.{location_at, nowhere}
use Rattle.gap_keys.specs.Views.{StateView}
use Rattle.sample_succ.proofs.StartLemmas.{start_system, start_passes, some_start}
use Rattle.sample_succ.proofs.start.start_state.Goals as goal

pub returns-in_err-is_empty-clause-passes : goal.returns-in_err-is_empty-clause-passes
returns-in_err-is_empty-clause-passes c e =
    let a = c.args.a.now in
    let l = c.args.l in
    let place : c.index-locs-from.result ≡ location_at a l =
    get_or_read a.locations l c.index-locs-from.result c.requires.known
    (c.index-locs-from.is ∙ ap (λ n. get_or c.locs.result.now n c.index-locs-from.result) c.from.ensures ∙ ap (λ xs. get_or xs l c.index-locs-from.result) c.locs.ensures.value) nowhere in
    let init : List Row = c.in-Some.init.now in
    let at = start_system a l c.index-locs-from.result init c.inv.result.now c.in_ok-rows.rows.items (length c.vars.result.now) c.of_rows-system.result place c.in-Some.ensures c.inv.ensures c.in_ok-rows.ensures
    (ap length c.vars.ensures.value) c.of_rows-system.ensures in
    let same : c.in_err-is_empty.field-0.0 ≡ Passes = search rules in
    start_passes a c.locs.ensures.kept l c.requires.known init at.0
    (subst (λ s. SomePasses (emptiness_numbers s.width s.rows)) at.1 (c.in_err-is_empty.ensures.passes (ap (λ f. Err f) same)))

pub returns-clause-ok : goal.returns-clause-ok
returns-clause-ok c =
    let a = c.args.a.now in
    let l = c.args.l in
    let place : c.index-locs-from.result ≡ location_at a l =
    get_or_read a.locations l c.index-locs-from.result c.requires.known
    (c.index-locs-from.is ∙ ap (λ n. get_or c.locs.result.now n c.index-locs-from.result) c.from.ensures ∙ ap (λ xs. get_or xs l c.index-locs-from.result) c.locs.ensures.value) nowhere in
    let init : List Row = c.in-Some.init.now in
    let at = start_system a l c.index-locs-from.result init c.inv.result.now c.in_ok-rows.rows.items (length c.vars.result.now) c.of_rows-system.result place c.in-Some.ensures c.inv.ensures c.in_ok-rows.ensures
    (ap length c.vars.ensures.value) c.of_rows-system.ensures in
    let point : HasPoint c.of_rows-system.result.width c.of_rows-system.result.rows = subst (λ b. MatchBool b (HasPoint c.of_rows-system.result.width c.of_rows-system.result.rows → ⊥) (HasPoint c.of_rows-system.result.width c.of_rows-system.result.rows)) c.if-branch.false c.in_ok-is_empty.ensures.ok in
    let state = ap (λ (v : StateView). v.state) c.new.ensures ∙ ap (λ rows. record { loc = l; seen_unsafe = false; rows = rows }) (ap (λ s. s.rows) at.1) in (
      some_start a c.locs.ensures.kept l c.requires.known init c.new.result.state at.0 (subst (λ s. HasPoint s.width s.rows) at.1 point) state,
      ap (λ (v : StateView). v.width) c.new.ensures ∙ ap (λ s. s.width) at.1,
    )
