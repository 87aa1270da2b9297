use Rattle.std.proofs.Common.{◌≡◌, ◌↔◌, ◌∙◌, ◌/◌, ap, subst₂, SFits, rules, pos, unsigned_abs, get_or, ℤ, IsSome, IfSome}
use Rattle.std.specs.Int.{w128}
use Rattle.std.proofs.lemmas.Int.{to_z-of_z}
use Rattle.poly_specs.specs.Elimination.{gcd, lower_factor, upper_factor, times, added}
use Rattle.poly_specs.specs.Rows.{Row}
use Rattle.lin_row.specs.Mixing.{RowsFit}
use Rattle.lin_row.proofs.MixLemmas.{pair_fits, parts_fit}
use Rattle.lin_row.proofs.Row.raw_combination.Goals as goal

module _ (c : goal.After-mixed_row) where
  lower_is : c.as_slice.result.now ≡ c.args.lower.now.coef
  lower_is = c.as_slice.ensures ∙ ap (λ (r : Row). r.coef) c.lower.view_is

  upper_is : c.as_slice-2.result.now ≡ c.args.upper.now.coef
  upper_is = c.as_slice-2.ensures ∙ ap (λ (r : Row). r.coef) c.upper.view_is

  a_fits : SFits w128 (get_or c.as_slice.result.now c.args.x (pos 0))
  a_fits = search rules

  b_fits : SFits w128 (get_or c.as_slice-2.result.now c.args.x (pos 0))
  b_fits = search rules

  p_fits : SFits w128 c.factors-p.result.0
  p_fits = search rules

  q_fits : SFits w128 c.factors-p.result.1
  q_fits = search rules

  p_is : c.factors-p.result.0 ≡ pos (lower_factor c.args.x c.args.lower.now c.args.upper.now)
  p_is =
      let raw : c.factors-p.result.0 ≡ pos (unsigned_abs (get_or c.as_slice-2.result.now c.args.x (pos 0))
      / gcd (unsigned_abs (get_or c.as_slice.result.now c.args.x (pos 0))) (unsigned_abs (get_or c.as_slice-2.result.now c.args.x (pos 0)))) =
      simp (to_z-of_z, a_fits, b_fits) at c.factors-p.ensures.lower in
      rw (lower_is, upper_is) at raw

  q_is : c.factors-p.result.1 ≡ pos (upper_factor c.args.x c.args.lower.now c.args.upper.now)
  q_is =
      let raw : c.factors-p.result.1 ≡ pos (unsigned_abs (get_or c.as_slice.result.now c.args.x (pos 0))
      / gcd (unsigned_abs (get_or c.as_slice.result.now c.args.x (pos 0))) (unsigned_abs (get_or c.as_slice-2.result.now c.args.x (pos 0)))) =
      simp (to_z-of_z, a_fits, b_fits) at c.factors-p.ensures.upper in
      rw (lower_is, upper_is) at raw

  kept : IsSome c.mixed_row.result ↔ RowsFit (pos (lower_factor c.args.x c.args.lower.now c.args.upper.now)) c.args.lower.now (pos (upper_factor c.args.x c.args.lower.now c.args.upper.now)) c.args.upper.now
  kept =
      let raw : IsSome c.mixed_row.result ↔ RowsFit c.factors-p.result.0 c.args.lower.now c.factors-p.result.1 c.args.upper.now = simp (to_z-of_z, p_fits, q_fits) at c.mixed_row.ensures.kept in
      subst₂ (λ p q. IsSome c.mixed_row.result ↔ RowsFit p c.args.lower.now q c.args.upper.now) p_is q_is raw

pub returns-clause-kept : goal.returns-clause-kept
returns-clause-kept c = (
  λ e. pair_fits c.args.x c.args.lower.now c.args.upper.now c.requires.widths ((kept c).0 e),
  λ h. (kept c).1 (parts_fit c.args.x c.args.lower.now c.args.upper.now c.requires.widths h),
)

pub returns-clause-coef : goal.returns-clause-coef
returns-clause-coef c =
    let f = p_fits c in
    let g = q_fits c in
    subst₂ (λ (p q : ℤ). IfSome c.mixed_row.result (λ v. c.mixed_row.new.coef.items ≡ (added (times p c.args.lower.now) (times q c.args.upper.now)).coef)) (p_is c) (q_is c)
    (simp (to_z-of_z, f, g) at c.mixed_row.ensures.coef)

pub returns-clause-cst : goal.returns-clause-cst
returns-clause-cst c =
    let f = p_fits c in
    let g = q_fits c in
    subst₂ (λ (p q : ℤ). IfSome c.mixed_row.result (λ v. v ≡ (added (times p c.args.lower.now) (times q c.args.upper.now)).cst)) (p_is c) (q_is c)
    (simp (to_z-of_z, f, g) at c.mixed_row.ensures.cst)
