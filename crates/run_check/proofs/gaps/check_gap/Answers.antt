use Rattle.std.proofs.Common.{◌≡◌, ◌∙◌, ◌++◌, rules, sym, subst, true≢false}
use Rattle.poly_specs.specs.Fractions.{difference}
use Rattle.number_specs.specs.LogNumbers.{IsLogNumber}
use Rattle.run_specs.specs.Logs.{Sample}
use Rattle.replay_specs.specs.RunChecks.{join_steps, length_steps, gap_steps, gap_at, gap_before, sample_at, time_before}
use Rattle.run_check.proofs.StepLemmas.{leads_then, leads_stop}
use Rattle.run_check.proofs.GapLemmas.{path_of_gap, ends_of_gap, sample_of_gap, gap_leads, gap_refused, gap_there, sample_there}
use Rattle.run_check.proofs.gaps.check_gap.Goals as goal

pub returns-then-not-range_holds : goal.returns-then-not-range_holds
returns-then-not-range_holds c =
    let a = c.args.a.now in
    let k = c.args.jumps in
    let i = c.args.i in
    let b = gap_before i c.args.run.now in
    let t = time_before i c.args.log.now in
    let s = sample_at i c.args.log.now in
    let g = gap_at i c.args.run.now in
    let same_gap : c.index-gaps-i.result ≡ g =
    gap_there c.args.run.now i c.index-gaps-i.result c.requires.inside (rw c.gaps.ensures at c.index-gaps-i.is) in
    gap_refused a k b t s g (λ h. true≢false (sym ((rw same_gap at c.range_holds.ensures).1 h) ∙ c.if-not-range_holds.true))

pub returns-in_err-begin_holds : goal.returns-in_err-begin_holds
returns-in_err-begin_holds c =
    let same : c.from_residual.result ≡ c.begin_holds.result = search rules in
    let a = c.args.a.now in
    let k = c.args.jumps in
    let i = c.args.i in
    let b = gap_before i c.args.run.now in
    let t = time_before i c.args.log.now in
    let s = sample_at i c.args.log.now in
    let g = gap_at i c.args.run.now in
    let same_gap : c.index-gaps-i.result ≡ g =
    gap_there c.args.run.now i c.index-gaps-i.result c.requires.inside (rw c.gaps.ensures at c.index-gaps-i.is) in
    let begin = gap_leads a k b t s g ((rw same_gap at c.range_holds.ensures).0 c.if-not-range_holds.false) in
    leads_stop (join_steps a b g) (path_of_gap a k b t s g ++ ends_of_gap a k b t s g) (gap_steps a k b t s g) c.from_residual.result c.begin_holds.result
    c.in_err-begin_holds.field-0.0 c.in_err-begin_holds.was same c.begin_holds.ensures begin

pub returns-in_err-path_holds : goal.returns-in_err-path_holds
returns-in_err-path_holds c =
    let same : c.from_residual-in_err-path_holds.result ≡ c.path_holds.result = search rules in
    let a = c.args.a.now in
    let k = c.args.jumps in
    let i = c.args.i in
    let b = gap_before i c.args.run.now in
    let t = time_before i c.args.log.now in
    let s = sample_at i c.args.log.now in
    let g = gap_at i c.args.run.now in
    let same_gap : c.index-gaps-i.result ≡ g =
    gap_there c.args.run.now i c.index-gaps-i.result c.requires.inside (rw c.gaps.ensures at c.index-gaps-i.is) in
    let begin = gap_leads a k b t s g ((rw same_gap at c.range_holds.ensures).0 c.if-not-range_holds.false) in
    let path = leads_then (join_steps a b g) (path_of_gap a k b t s g ++ ends_of_gap a k b t s g) (gap_steps a k b t s g) c.begin_holds.result c.in_ok-begin_holds.was
    c.begin_holds.ensures begin in
    leads_stop (path_of_gap a k b t s g) (ends_of_gap a k b t s g) (gap_steps a k b t s g) c.from_residual-in_err-path_holds.result c.path_holds.result
    c.in_err-path_holds.field-0.0 c.in_err-path_holds.was same (rw same_gap at c.path_holds.ensures) path

pub lengths_add_up-requires-clause-time_in_range : goal.lengths_add_up-requires-clause-time_in_range
lengths_add_up-requires-clause-time_in_range c =
    let is = rw c.samples.ensures at c.index-samples-i.is in
    rw c.time.ensures
    (subst (λ (s : Sample). IsLogNumber s.time) (sym is) (c.requires.times c.args.i c.index-samples-i.result c.requires.sampled))

pub returns-in_err-lengths_add_up : goal.returns-in_err-lengths_add_up
returns-in_err-lengths_add_up c =
    let same : c.from_residual-in_err-lengths_add_up.result ≡ c.lengths_add_up.result = search rules in
    let a = c.args.a.now in
    let k = c.args.jumps in
    let i = c.args.i in
    let b = gap_before i c.args.run.now in
    let t = time_before i c.args.log.now in
    let s = sample_at i c.args.log.now in
    let g = gap_at i c.args.run.now in
    let same_gap : c.index-gaps-i.result ≡ g =
    gap_there c.args.run.now i c.index-gaps-i.result c.requires.inside (rw c.gaps.ensures at c.index-gaps-i.is) in
    let begin = gap_leads a k b t s g ((rw same_gap at c.range_holds.ensures).0 c.if-not-range_holds.false) in
    let path = leads_then (join_steps a b g) (path_of_gap a k b t s g ++ ends_of_gap a k b t s g) (gap_steps a k b t s g) c.begin_holds.result c.in_ok-begin_holds.was
    c.begin_holds.ensures begin in
    let ends = leads_then (path_of_gap a k b t s g) (ends_of_gap a k b t s g) (gap_steps a k b t s g) c.path_holds.result c.in_ok-path_holds.was
    (rw same_gap at c.path_holds.ensures) path in
    let same_sample : c.index-samples-i.result ≡ s =
    sample_there c.args.log.now i c.index-samples-i.result c.requires.sampled (rw c.samples.ensures at c.index-samples-i.is) in
    let lengths = simp (c.time.ensures, c.time_before-before.ensures.value, same_sample, same_gap) at c.lengths_add_up.ensures in
    leads_stop (length_steps (difference s.time t) g) (sample_of_gap a k b t s g) (gap_steps a k b t s g) c.from_residual-in_err-lengths_add_up.result
    c.lengths_add_up.result c.in_err-lengths_add_up.field-0.0 c.in_err-lengths_add_up.was same lengths ends

pub returns : goal.returns
returns c =
    let a = c.args.a.now in
    let k = c.args.jumps in
    let i = c.args.i in
    let b = gap_before i c.args.run.now in
    let t = time_before i c.args.log.now in
    let s = sample_at i c.args.log.now in
    let g = gap_at i c.args.run.now in
    let same_gap : c.index-gaps-i.result ≡ g =
    gap_there c.args.run.now i c.index-gaps-i.result c.requires.inside (rw c.gaps.ensures at c.index-gaps-i.is) in
    let begin = gap_leads a k b t s g ((rw same_gap at c.range_holds.ensures).0 c.if-not-range_holds.false) in
    let path = leads_then (join_steps a b g) (path_of_gap a k b t s g ++ ends_of_gap a k b t s g) (gap_steps a k b t s g) c.begin_holds.result c.in_ok-begin_holds.was
    c.begin_holds.ensures begin in
    let ends = leads_then (path_of_gap a k b t s g) (ends_of_gap a k b t s g) (gap_steps a k b t s g) c.path_holds.result c.in_ok-path_holds.was
    (rw same_gap at c.path_holds.ensures) path in
    let same_sample : c.index-samples-i.result ≡ s =
    sample_there c.args.log.now i c.index-samples-i.result c.requires.sampled (rw c.samples.ensures at c.index-samples-i.is) in
    let lengths = simp (c.time.ensures, c.time_before-before.ensures.value, same_sample, same_gap) at c.lengths_add_up.ensures in
    (leads_then (length_steps (difference s.time t) g) (sample_of_gap a k b t s g) (gap_steps a k b t s g) c.lengths_add_up.result c.in_ok-lengths_add_up.was
    lengths ends).leads c.sample_holds.result (simp (same_sample, same_gap) at c.sample_holds.ensures)
