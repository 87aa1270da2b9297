use Rattle.std.proofs.Common.{◌≡◌, None, get_or, ap, arith, subst, ◌∙◌}
use Rattle.std.proofs.lemmas.List.{get_or_read}
use Rattle.poly_specs.specs.Bits.{SomePasses}
use Rattle.poly_specs.specs.Fractions.{zero_fraction}
use Rattle.run_specs.specs.Automaton.{tolerance_at}
use Rattle.run_specs.specs.Logs.{cell_at}
use Rattle.run_specs.specs.Stages.{near_sums}
use Rattle.sample_succ.proofs.sample_rows.add_seen.Goals as goal

pub returns-clause-passes : goal.returns-clause-passes
returns-clause-passes c e =
    let a = c.args.a.now in
    let j = c.args.j in
    let w = c.index-obs-j.result in
    let within = c.requires.within in
    let many = c.obs.ensures.kept.tolerances.0 in
    let tolerance : w ≡ tolerance_at a j =
    get_or_read a.obs j w (omega (arith, within, many)) (c.index-obs-j.is ∙ ap (λ ws. get_or ws j w) c.obs.ensures.value) zero_fraction in
    let cell : c.index-seen-j.result ≡ cell_at j c.args.seen.now =
    get_or_read c.args.seen.now j c.index-seen-j.result (let n = c.requires.sized in omega (arith, within, n)) c.index-seen-j.is None in
    subst (λ o. SomePasses (near_sums (tolerance_at a j) o)) cell (subst (λ v. SomePasses (near_sums v c.index-seen-j.result)) tolerance (c.add_near.ensures.passes e))
