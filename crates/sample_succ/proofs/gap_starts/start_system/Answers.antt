use Rattle.std.proofs.Common.{◌+◌, ◌∙◌, length, arith, ap, sym, subst}
use Rattle.poly_specs.specs.Rows.{AllWide}
use Rattle.run_specs.proofs.StageWidths.{start_wide}
use Rattle.run_specs.specs.Automaton.{width}
use Rattle.run_specs.specs.Keys.{parent_at}
use Rattle.sample_succ.proofs.GapStartLemmas.{start_is}
use Rattle.sample_succ.proofs.gap_starts.start_system.Goals as goal

pub start_rows-requires-clause-few : goal.start_rows-requires-clause-few
start_rows-requires-clause-few c =
    let many = ap length c.vars-m.ensures.value ∙ ap width c.automaton_of-a.ensures.value in
    let few = c.automaton_of-a.ensures.limits.variables.1 in
    omega (arith, many, few)

pub start_rows-requires-clause-wide : goal.start_rows-requires-clause-wide
start_rows-requires-clause-wide c =
    let many = ap length c.vars-m.ensures.value ∙ ap width c.automaton_of-a.ensures.value in
    let rows = c.rows-old.ensures.value ∙ ap (λ s. s.rows) c.system-before.ensures.value ∙ ap (λ s. s.rows) c.parent_of-state.ensures.value in
    subst (λ n. AllWide n c.rows-old.result.now) (sym many) (subst (AllWide (width c.args.key.now.automaton)) (sym rows) c.parent_of-state.ensures.kept.wide)

pub of_rows-requires-clause-few : goal.of_rows-requires-clause-few
of_rows-requires-clause-few c =
    let many = ap length c.vars-m.ensures.value ∙ ap width c.automaton_of-a.ensures.value in
    let few = c.automaton_of-a.ensures.limits.variables.1 in
    omega (arith, many, few)

pub of_rows-requires-clause-wide : goal.of_rows-requires-clause-wide
of_rows-requires-clause-wide c =
    let many = ap length c.vars-m.ensures.value ∙ ap width c.automaton_of-a.ensures.value in
    let rows = c.rows-old.ensures.value ∙ ap (λ s. s.rows) c.system-before.ensures.value ∙ ap (λ s. s.rows) c.parent_of-state.ensures.value in
    let wide = subst (λ n. AllWide n c.rows-old.result.now) (sym many) (subst (AllWide (width c.args.key.now.automaton)) (sym rows) c.parent_of-state.ensures.kept.wide) in
    subst (AllWide (length c.vars-m.result.now + 1)) (sym c.in_ok-rows.ensures) (start_wide (length c.vars-m.result.now) c.rows-old.result.now wide)

pub returns : goal.returns
returns c =
    let many = ap length c.vars-m.ensures.value ∙ ap width c.automaton_of-a.ensures.value in
    let rows = c.rows-old.ensures.value ∙ ap (λ s. s.rows) c.system-before.ensures.value ∙ ap (λ s. s.rows) c.parent_of-state.ensures.value in
    start_is (width c.args.key.now.automaton) (length c.vars-m.result.now) c.rows-old.result.now (parent_at c.args.key.now c.args.parent).rows c.in_ok-rows.rows.items c.of_rows.result
    many rows c.in_ok-rows.ensures c.of_rows.ensures
