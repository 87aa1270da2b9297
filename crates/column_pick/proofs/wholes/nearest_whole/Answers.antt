use Rattle.std.proofs.Common.{◌≡◌, ◌↔◌, to_z, of_z, ℤ, Some, IsTrue, SFits, rules, subst, sym, ◌∙◌, true≢false}
use Rattle.std.specs.Int.{w128}
use Rattle.std.proofs.lemmas.Int.{to_z-of_z}
use Rattle.poly_specs.specs.Bits.{FitsBits}
use Rattle.column_pick.specs.Ranges.{IsUnder, whole, IsLeastWhole}
use Rattle.column_pick.proofs.WholeLemmas.{none_in_both, passing_nearest}
use Rattle.column_pick.proofs.wholes.nearest_whole.Goals as goal

pub returns-in_err-number : goal.returns-in_err-number
returns-in_err-number c =
    let parts_fits : SFits w128 c.args.parts = search rules in
    let (n, least, passes) = subst (λ (p : ℤ). (n : ℤ) × IsLeastWhole p c.args.near.now n × (FitsBits n → ⊥)) (to_z-of_z w128 c.args.parts parts_fits) c.in_err-number.ensures in
    passing_nearest c.args.near.now c.args.far.now c.args.parts n c.from_residual.result c.from_residual.ensures c.see_kept.ensures c.requires.positive least passes

pub returns-then-not-is_whole_under : goal.returns-then-not-is_whole_under
returns-then-not-is_whole_under c =
    let parts_fits : SFits w128 c.args.parts = search rules in
    let number_fits : SFits w128 c.in_ok-number.number = search rules in
    let (n, least, (fits, is)) = subst (λ (p : ℤ). (n : ℤ) × IsLeastWhole p c.args.near.now n × (FitsBits n × (c.in_ok-number.number ≡ n))) (to_z-of_z w128 c.args.parts parts_fits) c.in_ok-number.ensures in
    let tells = subst (λ (p : ℤ). IsTrue c.is_whole_under.result ↔ IsUnder p (Some c.args.far.now) (whole n)) (to_z-of_z w128 c.args.parts parts_fits)
    (subst (λ (m : ℤ). IsTrue c.is_whole_under.result ↔ IsUnder (to_z w128 (of_z w128 c.args.parts)) (Some c.args.far.now) (whole m)) (to_z-of_z w128 c.in_ok-number.number number_fits ∙ is) c.is_whole_under.ensures) in
    none_in_both c.args.near.now c.args.far.now c.args.parts n c.see_kept.ensures.positive c.requires.positive least
    (λ h. absurd (true≢false (sym (tells.1 h) ∙ c.if-not-is_whole_under.true)))
