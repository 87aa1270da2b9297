use Rattle.std.proofs.Common.{◌≡◌, ◌∙◌, ℤ, Some, None, SFits, rules, subst, ap}
use Rattle.std.specs.Int.{w128}
use Rattle.std.proofs.lemmas.Int.{to_z-of_z}
use Rattle.poly_specs.specs.Bits.{FitsBits}
use Rattle.column_pick.specs.Ranges.{IsBetween, whole, IsLeastWhole}
use Rattle.column_pick.proofs.BetweenLemmas.{above_whole, whole_pick, whole_too_far}
use Rattle.column_pick.proofs.picks.pick_from.Goals as goal

pub returns-in_err-number : goal.returns-in_err-number
returns-in_err-number c =
    let fits : SFits w128 c.args.parts = search rules in
    let (n, least, passes) = subst (λ (p : ℤ). (n : ℤ) × IsLeastWhole p c.args.down.now n × (FitsBits n → ⊥)) (to_z-of_z w128 c.args.parts fits) c.in_err-number.ensures in
    whole_too_far (IsBetween c.args.parts (record { up = None; down = Some c.args.down.now })) c.from_residual.result n c.from_residual.ensures
    (above_whole c.args.parts c.args.down.now None c.requires.positive c.see_kept.ensures.positive tt n least tt) passes

pub returns : goal.returns
returns c =
    let fits : SFits w128 c.args.parts = search rules in
    let number_fits : SFits w128 c.in_ok-number.number = search rules in
    let (n, least, (kept, is)) = subst (λ (p : ℤ). (n : ℤ) × IsLeastWhole p c.args.down.now n × (FitsBits n × (c.in_ok-number.number ≡ n))) (to_z-of_z w128 c.args.parts fits) c.in_ok-number.ensures in
    whole_pick (IsBetween c.args.parts (record { up = None; down = Some c.args.down.now })) c.whole.result n
    (c.whole.ensures ∙ ap whole (to_z-of_z w128 c.in_ok-number.number number_fits ∙ is))
    (above_whole c.args.parts c.args.down.now None c.requires.positive c.see_kept.ensures.positive tt n least tt)
