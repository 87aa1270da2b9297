use Rattle.std.proofs.Common.{◌≡◌, ◌+◌, ◌++◌, Err, List, length, ap, rules, sym, subst, ◌∙◌, map, drop, pos, Option}
use Rattle.std.specs.Prelude.{All, filter}
use Rattle.std.specs.List.{flat_map}
use Rattle.fm_eliminate.specs.declared.RowFault.TheVariants.{Passes}
use Rattle.poly_specs.specs.Bits.{SomePasses}
use Rattle.poly_specs.specs.Columns.{cut}
use Rattle.poly_specs.specs.Elimination.{eliminated_each, formed, formed_each, columns_down}
use Rattle.poly_specs.specs.Fractions.{Fraction}
use Rattle.poly_specs.specs.Rows.{Row, AllWide}
use Rattle.run_specs.proofs.EndLemmas.{wide_both}
use Rattle.run_specs.specs.Automaton.{Automaton, width}
use Rattle.run_specs.specs.Stages as stages
use Rattle.run_specs.specs.Stages.{rows_after, seen_rows, seen_exactly, below}
use Rattle.sample_succ.specs.Plain.{IsPlain}
use Rattle.sample_succ.proofs.PlainLemmas.{projected_is, sums_pass, time_passes, values_pass, again_wide, again_free, zeros_last, free_both, stage_plain}
use Rattle.sample_succ.proofs.sampling.unpruned_stage.Goals as goal

pub returns-in_err-timeless-clause-passes : goal.returns-in_err-timeless-clause-passes
returns-in_err-timeless-clause-passes c e =
    let same : c.in_err-timeless.field-0.0 ≡ Passes = search rules in
    time_passes c.args.a.now c.args.gap.now c.args.seen.now c.args.state.now.rows
    (subst (λ rows. SomePasses (formed (width c.args.a.now) rows)) (ap (λ s. s.rows) c.in_ok-system.ensures.ok)
    (subst (λ n. SomePasses (formed n c.in_ok-system.system.rows)) (ap length c.vars-m.ensures.value) (c.in_err-timeless.ensures.passes (ap (λ f. Err f) same))))

pub returns-in_err-left-clause-passes : goal.returns-in_err-left-clause-passes
returns-in_err-left-clause-passes c e =
    let same : c.in_err-left.field-0.0 ≡ Passes = search rules in
    let a = c.args.a.now in
    let rows : List Row = stages.sample_rows a c.args.gap.now c.args.seen.now c.args.state.now.rows in
    let is = projected_is (width a) (length c.vars-m.result.now) c.in_ok-system.system rows c.in_ok-timeless.timeless.rows (ap length c.vars-m.ensures.value) c.in_ok-system.ensures.ok c.in_ok-timeless.ensures.ok.1 in
    values_pass a c.args.gap.now c.args.seen.now c.args.state.now.rows c.in_ok-timeless.timeless.rows is.plain
    (subst (λ n. SomePasses (formed_each (filter (seen_exactly a c.args.seen.now) (columns_down 0 n)) c.in_ok-timeless.timeless.rows)) (ap length c.vars-m.ensures.value)
    (c.in_err-left.ensures.passes (ap (λ f. Err f) same)))

pub returns-in_err-again-clause-passes : goal.returns-in_err-again-clause-passes
returns-in_err-again-clause-passes c e =
    let same : c.in_err-again.field-0.0 ≡ Passes = search rules in
    sums_pass (stages.sample_stage c.args.a.now c.args.gap.now c.args.seen.now c.args.state.now.rows) (c.in_err-again.ensures.passes (ap (λ f. Err f) same))

abbrev again_of : Automaton → List (Option Fraction) → List Row
again_of a seen = flat_map (seen_rows a seen) (filter (seen_exactly a seen) (below (width a)))

pub and-requires : goal.and-requires
and-requires c =
    subst (AllWide c.in_ok-left.left.width) (sym (c.as_slice.ensures.value ∙ c.in_ok-again.ensures.ok))
    (subst (λ n. AllWide n (again_of c.args.a.now c.args.seen.now)) (sym c.in_ok-left.ensures.wide) (again_wide c.args.a.now c.args.seen.now))

pub cut-requires-clause-zeros : goal.cut-requires-clause-zeros
cut-requires-clause-zeros c =
    let a = c.args.a.now in
    let m = width a in
    let again : List Row = again_of a c.args.seen.now in
    let left : List Row = c.in_ok-left.left.rows in
    let wide : AllWide (m + 1) left = subst (λ n. AllWide n left) c.in_ok-left.ensures.wide c.width-3.ensures.kept.wide in
    let all = zeros_last m (left ++ again) (wide_both (m + 1) left again wide (again_wide a c.args.seen.now)) (free_both m left again c.in_ok-left.ensures.free (again_free a c.args.seen.now)) in
    let rows : c.and.new.self.rows ≡ left ++ again = ap (λ s. s.rows) c.in_ok-and.ensures.ok ∙ ap (λ rows. left ++ rows) (c.as_slice.ensures.value ∙ c.in_ok-again.ensures.ok) in
    subst (λ n. All (λ r. All (λ z. z ≡ pos 0) (drop n r.coef)) c.and.new.self.rows) (sym (ap length c.vars-m.ensures.value))
    (subst (λ rs. All (λ r. All (λ z. z ≡ pos 0) (drop m r.coef)) rs) (sym rows) all)

pub returns-clause-plain : goal.returns-clause-plain
returns-clause-plain c =
    let a = c.args.a.now in
    let m = width a in
    let again : List Row = again_of a c.args.seen.now in
    let left : List Row = c.in_ok-left.left.rows in
    let timeless : List Row = c.in_ok-timeless.timeless.rows in
    let rows : List Row = stages.sample_rows a c.args.gap.now c.args.seen.now c.args.state.now.rows in
    let many = ap length c.vars-m.ensures.value in
    let is = projected_is m (length c.vars-m.result.now) c.in_ok-system.system rows timeless many c.in_ok-system.ensures.ok c.in_ok-timeless.ensures.ok.1 in
    let plain_left : IsPlain (m + 1) left (eliminated_each (filter (seen_exactly a c.args.seen.now) (columns_down 0 m)) timeless) =
    subst (λ n. IsPlain (m + 1) left (eliminated_each (filter (seen_exactly a c.args.seen.now) (columns_down 0 n)) timeless)) many c.in_ok-left.ensures.plain in
    let same : c.in_ok-cut.field-0.rows ≡ map (cut m) (left ++ again) =
    ap (λ s. s.rows) c.in_ok-cut.ensures ∙ ap (λ n. map (cut n) c.and.new.self.rows) many
    ∙ ap (map (cut m)) (ap (λ s. s.rows) c.in_ok-and.ensures.ok ∙ ap (λ rs. left ++ rs) (c.as_slice.ensures.value ∙ c.in_ok-again.ensures.ok)) in
    let wide : AllWide (m + 1) c.args.state.now.rows = subst (λ n. AllWide n c.args.state.now.rows) c.requires.wide c.width.ensures.kept.wide in
    subst (λ rs. IsPlain m rs (rows_after (stages.sample_stage a c.args.gap.now c.args.seen.now c.args.state.now.rows))) (sym same)
    (stage_plain a c.args.gap.now c.args.seen.now c.args.state.now.rows timeless left wide is.wide is plain_left)
