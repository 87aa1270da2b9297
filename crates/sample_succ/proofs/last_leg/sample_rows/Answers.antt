use Rattle.std.proofs.Common.{◌≡◌, ◌+◌, ◌*◌, length, sym, ap, subst, rules}
use Rattle.poly_specs.specs.Rows.{AllWide}
use Rattle.run_specs.specs.Automaton.{width}
use Rattle.sample_succ.proofs.LastLegLemmas.{seen_rows, seen_wide, sample_at_end_wide}
use Rattle.sample_succ.specs.LastLegs.{sample_at_end}
use Rattle.sample_succ.proofs.last_leg.sample_rows.Goals as goal

pub at_end-requires-clause-wide : goal.at_end-requires-clause-wide
at_end-requires-clause-wide c =
    let rows : c.as_slice.result.now ≡ seen_rows c.args.key.now = search rules in
    let count : c.vars.result.now ≡ c.args.key.now.automaton.variables = search rules in
    subst (AllWide _) (sym rows) (subst (λ n. AllWide (n + 1) (seen_rows c.args.key.now)) (sym (ap (λ vs. length vs) count)) (seen_wide c.args.key.now))

pub returns-clause-wide : goal.returns-clause-wide
returns-clause-wide c =
    let is : c.in_ok-moved.moved.items ≡ sample_at_end c.args.key.now = search rules in
    subst (AllWide (2 * width c.args.key.now.automaton + 2)) (sym is) (sample_at_end_wide c.args.key.now)
