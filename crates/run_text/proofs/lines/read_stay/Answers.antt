use Rattle.std.proofs.Common.{◌≡◌, subst, sym}
use Rattle.std.specs.Prelude.{codes}
use Rattle.poly_specs.specs.Bits.{FitsBits}
use Rattle.replay_specs.proofs.RunTextLines.{fits_short}
use Rattle.replay_specs.specs.RunTexts.{stay_line}
use Rattle.run_text.proofs.LineLemmas.{integer_line, fits_stays}
use Rattle.run_text.proofs.lines.read_stay.Goals as goal

pub returns-in-Some-kept-clause-ok : goal.returns-in-Some-kept-clause-ok
returns-in-Some-kept-clause-ok c =
    let text = c.in-Some.ensures.some in
    let value = c.in-Some-kept.ensures in
    let fits : FitsBits c.in-Some-kept.time = subst FitsBits (sym value.1) value.0 in
    subst (λ t. (c.args.line.now ≡ stay_line t) × FitsBits t) (sym (fits_stays c.in-Some-kept.time fits))
    (integer_line (codes "stay ") c.args.line.now c.in-Some.text.now c.in-Some-kept.time text.1 text.0 (sym value.1) (fits_short c.in-Some-kept.time fits), fits)
