use Rattle.std.proofs.Common.{◌≡◌, Err, List, length, arith, ap, rules, sym, subst}
use Rattle.std.specs.Prelude.{option_map}
use Rattle.fm_eliminate.specs.declared.RowFault.TheVariants.{Passes}
use Rattle.poly_specs.specs.Rows.{Row}
use Rattle.run_specs.specs.Passes.{Fits}
use Rattle.run_specs.specs.Stages.{rows_after, leg_stage, jump_stage, path_stages}
use Rattle.sample_succ.specs.Parts.{IsSplit, AreParts, SomeFormedPasses}
use Rattle.sample_succ.proofs.PartLemmas.{first_formed, second_formed, rest_formed, last_part, more_parts}
use Rattle.sample_succ.proofs.gap_parts.+parts.Goals as goal

pub returns-in_err-leg-clause-passes : goal.returns-in_err-leg-clause-passes
returns-in_err-leg-clause-passes t c e plain h =
    let same : c.in_err-leg.field-0.0 ≡ Passes = search rules in
    first_formed c.args.key.now.automaton c.args.loc c.args.path.now plain (c.in_err-leg.ensures.passes (ap (λ f. Err f) same) plain h)

pub returns-in_ok-one-in-None-clause-ok : goal.returns-in_ok-one-in-None-clause-ok
returns-in_ok-one-in-None-clause-ok t c plain h =
    let none = subst (λ o. IsSplit c.args.path.now (option_map (λ p. (p.0, p.1.now)) o)) c.in-None.is c.split.ensures in
    last_part c.args.key.now.automaton c.args.loc c.args.path.now c.args.before.now c.in_ok-leg.leg plain c.in_ok-one-in-None.field-0.items none (c.in_ok-leg.ensures.ok plain h) c.in_ok-one-in-None.ensures

pub after_jump-requires-clause-known : goal.after_jump-requires-clause-known
after_jump-requires-clause-known t c =
    let some = subst (λ o. IsSplit c.args.path.now (option_map (λ p. (p.0, p.1.now)) o)) c.in-Some.is c.split.ensures in
    (subst (Fits c.args.key.now.automaton c.args.loc) some c.requires.fits).0

pub after_jump-requires-clause-wide : goal.after_jump-requires-clause-wide
after_jump-requires-clause-wide t c = (c.in_ok-leg.ensures.ok c.args.before.now.rows (λ r i. i)).wide

pub target_of-target-requires : goal.target_of-target-requires
target_of-target-requires t c =
    let some = subst (λ o. IsSplit c.args.path.now (option_map (λ p. (p.0, p.1.now)) o)) c.in-Some.is c.split.ensures in
    (subst (Fits c.args.key.now.automaton c.args.loc) some c.requires.fits).0

pub parts-requires : goal.parts-requires
parts-requires t c =
    let a = c.args.key.now.automaton in
    let some = subst (λ o. IsSplit c.args.path.now (option_map (λ p. (p.0, p.1.now)) o)) c.in-Some.is c.split.ensures in
    let fits = subst (Fits a c.args.loc) some c.requires.fits in
    let many = ap length some in
    let left = c.requires.left in
    let d = c.decreases in (
      omega (arith, d, left, many),
      (
        c.target_of-target.ensures.known,
        (
          subst (λ l. Fits a l c.in-Some.rest.now) (sym c.target_of-target.ensures.target) fits.2,
          (
            omega (arith, left, many),
            (c.in_ok-jump-in-Some.ensures.ok c.in_ok-leg.leg.rows (λ r i. i)).wide,
          ),
        ),
      ),
    )

pub returns-in_err-jump-in-Some-clause-passes : goal.returns-in_err-jump-in-Some-clause-passes
returns-in_err-jump-in-Some-clause-passes t c e plain h =
    let same : c.in_err-jump-in-Some.field-0.0 ≡ Passes = search rules in
    let some = subst (λ o. IsSplit c.args.path.now (option_map (λ p. (p.0, p.1.now)) o)) c.in-Some.is c.split.ensures in
    second_formed c.args.key.now.automaton c.args.loc c.in-Some.e c.args.path.now c.in-Some.rest.now plain some
    (c.in_err-jump-in-Some.ensures.passes (ap (λ f. Err f) same) (rows_after (leg_stage c.args.key.now.automaton c.args.loc plain)) (c.in_ok-leg.ensures.ok plain h).plain_rows)

pub returns-in_err-systems-in-Some-clause-passes : goal.returns-in_err-systems-in-Some-clause-passes
returns-in_err-systems-in-Some-clause-passes t c e plain h =
    let a = c.args.key.now.automaton in
    let same : c.in_err-systems-in-Some.field-0.0 ≡ Passes = search rules in
    let some = subst (λ o. IsSplit c.args.path.now (option_map (λ p. (p.0, p.1.now)) o)) c.in-Some.is c.split.ensures in
    let leg = c.in_ok-leg.ensures.ok plain h in
    let jump = c.in_ok-jump-in-Some.ensures.ok (rows_after (leg_stage a c.args.loc plain)) leg.plain_rows in
    let next : List Row = rows_after (jump_stage a c.in-Some.e (rows_after (leg_stage a c.args.loc plain))) in
    rest_formed a c.args.loc c.in-Some.e c.args.path.now c.in-Some.rest.now plain some
    (subst (λ l. SomeFormedPasses (path_stages a l c.in-Some.rest.now next)) c.target_of-target.ensures.target (c.in_err-systems-in-Some.ensures.passes (ap (λ f. Err f) same) next jump.plain_rows))

pub returns-in_ok-put_two-in-Some-clause-ok : goal.returns-in_ok-put_two-in-Some-clause-ok
returns-in_ok-put_two-in-Some-clause-ok t c plain h =
    let a = c.args.key.now.automaton in
    let some = subst (λ o. IsSplit c.args.path.now (option_map (λ p. (p.0, p.1.now)) o)) c.in-Some.is c.split.ensures in
    let leg = c.in_ok-leg.ensures.ok plain h in
    let jump = c.in_ok-jump-in-Some.ensures.ok (rows_after (leg_stage a c.args.loc plain)) leg.plain_rows in
    let next : List Row = rows_after (jump_stage a c.in-Some.e (rows_after (leg_stage a c.args.loc plain))) in
    more_parts a c.args.loc c.in-Some.e c.args.path.now c.in-Some.rest.now c.args.before.now c.in_ok-leg.leg c.in_ok-jump-in-Some.jump plain c.put_two.new.systems.items c.in_ok-systems-in-Some.systems.items some leg jump
    (subst (λ l. AreParts a l c.in-Some.rest.now c.in_ok-jump-in-Some.jump next c.in_ok-systems-in-Some.systems.items) c.target_of-target.ensures.target (c.in_ok-systems-in-Some.ensures.ok next jump.plain_rows))
    c.in_ok-put_two-in-Some.ensures
