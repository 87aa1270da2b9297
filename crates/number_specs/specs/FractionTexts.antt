-- The text of a fraction.
use Rattle.std.specs.Prelude.{ℕ, List, [], ◌++◌, ◌==◌, if◌then◌else◌, codes, decimal, unsigned_abs}
use Rattle.std.specs.Fmt.{signed_decimal}
use Rattle.poly_specs.specs.Fractions.{Fraction}

-- `/` and the denominator, or nothing where that is 1
abbrev pub denominator_text : ℕ → List ℕ
denominator_text d = if d == 1 then [] else codes "/" ++ decimal d

-- `n` or `n/d`, with a `-` in front of a number below 0
abbrev pub fraction_text : Fraction → List ℕ
fraction_text x = signed_decimal x.num ++ denominator_text (unsigned_abs x.den)
