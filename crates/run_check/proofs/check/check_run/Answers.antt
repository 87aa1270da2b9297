use Rattle.std.proofs.Common.{inl, refl, sym, true≢false}
use Rattle.replay_specs.proofs.RunCheckLemmas.{that_hold, that_fails}
use Rattle.run_check.proofs.GapLemmas.{in_range_of}
use Rattle.run_check.proofs.check.check_run.Goals as goal

pub some_visit-requires : goal.some_visit-requires
some_visit-requires c = λ i lt. in_range_of c.args.a.now c.args.jumps c.args.log.now c.args.run.now i (c.in-None.ensures i lt)

pub returns-in-None-clause-is_run : goal.returns-in-None-clause-is_run
returns-in-None-clause-is_run c =
    let count = c.has_count.ensures.0 c.if-not-has_count.false in
    (λ t. that_hold c.args.a.now c.args.jumps c.args.log.now c.args.run.now c.requires.samples count c.in-None.ensures, λ h. refl)

pub returns-in-None-clause-place : goal.returns-in-None-clause-place
returns-in-None-clause-place c =
    let count = c.has_count.ensures.0 c.if-not-has_count.false in
    inl (refl, inl (that_hold c.args.a.now c.args.jumps c.args.log.now c.args.run.now c.requires.samples count c.in-None.ensures))

pub returns-in-Some-default-Fails-clause-is_run : goal.returns-in-Some-default-Fails-clause-is_run
returns-in-Some-default-Fails-clause-is_run c =
    let stop = rw c.in-Some-default-Fails.field-0-1-is at c.in-Some-default-Fails.ensures in (
      λ t. absurd (true≢false (sym t)),
      λ h. absurd (that_fails c.args.a.now c.args.jumps c.args.log.now c.args.run.now c.in-Some-default-Fails.i stop.inside stop.stops h),
    )
