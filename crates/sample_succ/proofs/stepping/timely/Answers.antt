use Rattle.std.proofs.Common.{◌≡◌, ◌+◌, [], ◌∷◌, length, ap, sym, subst, ◌∙◌}
use Rattle.poly_specs.specs.Rows.{Row, AllWide}
use Rattle.run_specs.proofs.EndLemmas.{wide_from, wide_first}
use Rattle.run_specs.specs.Automaton.{width}
use Rattle.sample_succ.proofs.LateLemmas.{time_row_wide}
use Rattle.sample_succ.proofs.stepping.timely.Goals as goal

pub and-requires : goal.and-requires
and-requires c =
    let m = length c.vars-m.result.now in
    let row = c.at_most-row.result in
    let many : m ≡ width c.args.key.now.automaton = ap length c.vars-m.ensures.value ∙ ap width c.automaton_of.ensures.value in
    let wide : length row.coef ≡ m + 1 = ap (λ (r : Row). length r.coef) c.at_most-row.ensures ∙ time_row_wide m c.gap-gap.result.now in
    let same : m + 1 ≡ c.in_ok-timely.timely.width = ap (λ n. n + 1) many ∙ sym c.requires.wide ∙ sym (ap (λ s. s.width) c.in_ok-timely.ensures) in
    subst (λ n. AllWide n (row ∷ [])) same (wide_first (m + 1) row [] wide (wide_from (m + 1) [] (λ r i. absurd i)))
