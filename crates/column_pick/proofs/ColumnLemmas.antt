-- What is picked over the rows of a column's level is the pick of the values that the system leaves.
use Rattle.std.proofs.Common.{◌≡◌, ◌+◌, ◌<◌, ◌⊎◌, inl, inr, List, length, sym, subst, Result}
use Rattle.std.specs.Prelude.{All, IfOk}
use Rattle.fm_eliminate.specs.declared.RowFault.{RowFault}
use Rattle.poly_specs.specs.Fractions.{Fraction, IsFraction}
use Rattle.poly_specs.specs.LowestTerms.{IsLowest}
use Rattle.poly_specs.specs.Picks.{IsPick}
use Rattle.poly_specs.specs.Rows.{Row, Point}
use Rattle.poly_specs.specs.Sets.{HasMember}
use Rattle.poly_specs.specs.Systems.{System, IsLevel}
use Rattle.column_pick.specs.Fixed.{fixed_point}
use Rattle.column_pick.specs.Nexts.{HasFirst, IsNext, AnyPasses, NextPasses}
use Rattle.column_pick.specs.RangePicks.{FormingPasses}
use Rattle.column_pick.specs.Ranges.{AreWithin}
use Rattle.column_pick.proofs.BetweenLemmas.{ok_same, forming_same}
use Rattle.column_pick.proofs.EvalLemmas.{level_passes}
use Rattle.column_pick.proofs.NextLemmas.{some_within, within_next, next_within}

-- the level of the next column, and the point of the fixed numbers
pub record AtColumn (s : System) (given : List Fraction) (level : List Row) (point : Point) : Type 0 where
  pub fractions : All IsFraction given
  pub within : length given < s.width
  pub is_level : IsLevel s.width (length given + 1) s.rows level
  pub some : (q : Point) × HasFirst s given q
  pub point_is : point ≡ fixed_point s.width given

module _ (s : System) (given : List Fraction) (level : List Row) (point : Point) (a : AtColumn s given level point) where
  abbrev Over : Point → Fraction → Type 0
  Over p = AreWithin (length given) p level

  abbrev base : Point
  base = fixed_point s.width given

  pub column_some : HasMember (Over point)
  column_some = subst (λ p. HasMember (Over p)) (sym a.point_is) (some_within s given level a.fractions a.within a.is_level a.some.0 a.some.1)

  pub column_ok : (r : Result Fraction RowFault) → IfOk r (λ v. IsLowest v × IsPick (Over point) v) → IfOk r (λ v. IsLowest v × IsPick (IsNext s given) v)
  column_ok r said =
      ok_same (Over base) (IsNext s given) (within_next s given level a.fractions a.within a.is_level a.some.0 a.some.1)
      (next_within s given level a.fractions a.within a.is_level a.some.0 a.some.1) r (subst (λ p. IfOk r (λ v. IsLowest v × IsPick (Over p) v)) a.point_is said)

  pub column_passes : AnyPasses point level ⊎ FormingPasses (Over point) → NextPasses s given
  column_passes (inl passes) = inr (inl (level_passes s given level a.is_level (subst (λ p. AnyPasses p level) a.point_is passes)))
  column_passes (inr forming) =
      inr (inr (forming_same (Over base) (IsNext s given) (within_next s given level a.fractions a.within a.is_level a.some.0 a.some.1)
      (next_within s given level a.fractions a.within a.is_level a.some.0 a.some.1) (subst (λ p. FormingPasses (Over p)) a.point_is forming)))
