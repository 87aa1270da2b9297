-- The bound that rows set on column 0 from above.
use Rattle.std.specs.Prelude.{◌↔◌, Bool, true, false, List, All, Option, MatchOption, pos, ◌+ℤ◌, ◌*ℤ◌, ◌≤ℤ◌, ◌<ℤ◌}
use Rattle.poly_specs.specs.Fractions.{Fraction, IsFraction, AtMost, Below}
use Rattle.poly_specs.specs.Rows.{Row, Allows, coef_at}
use Rattle.poly_decide.specs.declared.caps.Cap.{Cap}

-- the row holds where column 0 is v and all others are 0
abbrev pub HoldsAt : Row → Fraction → Type 0
HoldsAt r v = Allows r.strict (coef_at 0 r *ℤ v.num +ℤ r.cst *ℤ v.den)

-- v is at most the end; where the end is open, below it
abbrev pub IsUpTo : Bool → Fraction → Fraction → Type 0
IsUpTo true end v = Below v end
IsUpTo false end v = AtMost v end

-- the set has the numbers up to the end of the cap
pub record IsCap (cap : Cap) (S : Fraction → Type 0) : Type 0 where
  pub fraction : IsFraction cap.end
  pub same : (v : Fraction) → IsFraction v → IsUpTo cap.is_open cap.end v ↔ S v

-- v is within what the row sets from above, if it sets anything
abbrev pub IsWithin : Row → Fraction → Type 0
IsWithin r v = pos 0 <ℤ coef_at 0 r → HoldsAt r v

-- the cap of the rows, if one of them sets any
abbrev pub IsLeastCap : List Row → Option Cap → Type 0
IsLeastCap rows cap =
    MatchOption cap (All (λ r. coef_at 0 r ≤ℤ pos 0) rows) (λ c. IsCap c (λ v. All (λ r. IsWithin r v) rows))
