use Rattle.std.proofs.Common.{◌∙◌, rules, SFits, sym, true≢false}
use Rattle.std.specs.Int.{w128}
use Rattle.std.proofs.lemmas.Int.{to_z-of_z}
use Rattle.poly_specs.specs.Fractions.{difference, IsFraction}
use Rattle.run_check.proofs.EndLemmas.{lengths_pass, lengths_differ, lengths_met, same_lowest, difference-IsFraction, sum_fits}
use Rattle.run_check.proofs.ends.lengths_add_up.Goals as goal

pub returns-in_default : goal.returns-in_default
returns-in_default c = lengths_pass c.args.gap.now (difference c.args.time.now c.args.before.now) c.in_default.ensures

pub is_same-requires-clause-kept : goal.is_same-requires-clause-kept
is_same-requires-clause-kept c =
    let sum : SFits w128 c.in-Some.sum = search rules in
    simp (to_z-of_z, sum) (sum_fits c.in-Some.sum c.args.gap.now.moves c.args.gap.now.last c.in-Some.ensures.0 c.in-Some.ensures.1)

pub returns-then-not-is_same : goal.returns-then-not-is_same
returns-then-not-is_same c =
    let g = c.args.gap.now in
    let duration = difference c.args.time.now c.args.before.now in
    let f1 : SFits w128 c.in-Some.sum = search rules in
    let f2 : SFits w128 c.den.result = search rules in
    let f3 : SFits w128 c.num.result = search rules in
    let f4 : SFits w128 c.den-2.result = search rules in
    let said = simp (c.den.ensures, c.den-2.ensures.value, c.num.ensures.value) at (simp (to_z-of_z, f1, f2, f3, f4) at c.is_same.ensures) in
    let fraction : IsFraction duration =
    difference-IsFraction c.args.time.now c.args.before.now c.requires.time_in_range.lowest_terms.positive c.requires.before_in_range.lowest_terms.positive in
    let same = same_lowest c.in-Some.sum g duration c.time_between-duration.result c.requires.positive fraction c.time_between-duration.ensures c.in-Some.ensures.1 in
    lengths_differ g duration c.in-Some.ensures.0 (λ s. true≢false (sym (said.1 (same.1 s)) ∙ c.if-not-is_same.true))

pub returns : goal.returns
returns c =
    let g = c.args.gap.now in
    let duration = difference c.args.time.now c.args.before.now in
    let f1 : SFits w128 c.in-Some.sum = search rules in
    let f2 : SFits w128 c.den.result = search rules in
    let f3 : SFits w128 c.num.result = search rules in
    let f4 : SFits w128 c.den-2.result = search rules in
    let said = simp (c.den.ensures, c.den-2.ensures.value, c.num.ensures.value) at (simp (to_z-of_z, f1, f2, f3, f4) at c.is_same.ensures) in
    let fraction : IsFraction duration =
    difference-IsFraction c.args.time.now c.args.before.now c.requires.time_in_range.lowest_terms.positive c.requires.before_in_range.lowest_terms.positive in
    let same = same_lowest c.in-Some.sum g duration c.time_between-duration.result c.requires.positive fraction c.time_between-duration.ensures c.in-Some.ensures.1 in
    lengths_met g duration c.in-Some.ensures.0 (same.0 (said.0 c.if-not-is_same.false))
