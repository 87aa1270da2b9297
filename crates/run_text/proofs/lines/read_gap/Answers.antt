use Rattle.std.proofs.Common.{◌≡◌, sym, subst, ◌<◌, pos, ◌≤ℤ◌}
use Rattle.poly_specs.specs.Bits.{FitsBits}
use Rattle.replay_specs.specs.RunTexts.{gap_line}
use Rattle.run_text.proofs.LineLemmas.{gap_text, gap_code, positive_int, fits_stays}
use Rattle.run_text.proofs.lines.read_gap.Goals as goal

pub returns-in_default-kept_code-clause-fault : goal.returns-in_default-kept_code-clause-fault
returns-in_default-kept_code-clause-fault c n =
    let two = c.in-Some.ensures.some in
    gap_code n c.args.line.now _ _ two.4 two.2 c.in_default-kept_code.ensures

pub returns-clause-ok : goal.returns-clause-ok
returns-clause-ok c =
    let two = c.in-Some.ensures.some in
    let den = c.in-Some-kept.ensures in
    let loc = c.in-Some-kept_code.ensures in
    let fits : FitsBits c.in-Some-kept.den = subst FitsBits (sym den.1) den.0 in
    let low : pos 1 ≤ℤ c.in-Some-kept.den = subst (λ z. pos 1 ≤ℤ z) (sym den.1) (positive_int _ two.2) in
    subst (λ z. (c.args.line.now ≡ gap_line z c.in-Some-kept_code.start_loc) × (pos 1 ≤ℤ z) × FitsBits z × (c.in-Some-kept_code.start_loc < 256)) (sym (fits_stays c.in-Some-kept.den fits)) (
      gap_text c.args.line.now c.in-Some.halves.before.now c.in-Some.halves.after.now c.in-Some-kept.den c.in-Some-kept_code.start_loc two.3 two.0 two.1 (sym den.1) loc.0 fits loc.1,
      low,
      fits,
      loc.1,
    )
