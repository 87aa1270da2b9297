use Rattle.std.proofs.Common.{◌≡◌, Err, length, ap, arith, rules}
use Rattle.fm_eliminate.specs.declared.RowFault.TheVariants.{Passes}
use Rattle.run_specs.specs.Automaton.{width}
use Rattle.run_specs.specs.Stages.{seen_rows, seen_sums}
use Rattle.sample_succ.proofs.SampleRows.{grown, some_variable}
use Rattle.sample_succ.proofs.sample_rows.add_all_seen.Goals as goal

pub returns-in_err-add_seen-clause-passes : goal.returns-in_err-add_seen-clause-passes
returns-in_err-add_seen-clause-passes c e =
    let same : c.in_err-add_seen.field-0.0 ≡ Passes = search rules in
    let n = ap length c.vars-j-end.ensures.value in
    let within = c.loop-j-test.true in
    some_variable (seen_sums c.args.a.now c.args.seen.now) (width c.args.a.now) c.loop-j.j (omega (arith, n, within)) (c.in_err-add_seen.ensures.passes (ap (λ f. Err f) same))

pub loop-j-preserved : goal.loop-j-preserved
loop-j-preserved c =
    grown (seen_rows c.args.a.now c.args.seen.now) c.loop-j.rows.items c.args.rows.now.items c.add_seen.new.rows.items c.loop-j.j c.loop-j.invariant c.in_ok-add_seen.ensures.ok
