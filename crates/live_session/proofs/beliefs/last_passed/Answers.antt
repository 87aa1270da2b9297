use Rattle.std.proofs.Common.{◌≡◌, sym, subst}
use Rattle.std.specs.Arc.{arc_value}
use Rattle.gap_keys.specs.declared.outcomes.Outcome.TheVariants.{Next, Overflow}
use Rattle.gap_keys.specs.Answering.{outcome_of}
use Rattle.live_session.specs.Entries.{entries_of, last_passed}
use Rattle.live_session.proofs.LastLemmas.{passes, last_passed_at}
use Rattle.live_session.proofs.beliefs.last_passed.Goals as goal

pub returns-in-Overflow : goal.returns-in-Overflow
returns-in-Overflow c =
    let e : (arc_value c.in-Some.entry.now).1 ≡ Overflow = cc in
    sym (subst (λ o. last_passed (entries_of c.args.gaps.now) ≡ passes (outcome_of o)) e (last_passed_at c.args.gaps.now c.in-Some.entry.now c.in-Some.ensures.value))

pub returns-in_default : goal.returns-in_default
returns-in_default c =
    let e : (arc_value c.in-Some.entry.now).1 ≡ Next c.in_default.field-0 = cc in
    sym (subst (λ o. last_passed (entries_of c.args.gaps.now) ≡ passes (outcome_of o)) e (last_passed_at c.args.gaps.now c.in-Some.entry.now c.in-Some.ensures.value))
