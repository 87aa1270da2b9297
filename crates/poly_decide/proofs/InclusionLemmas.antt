-- A system is included in another exactly where it entails each row of the other.
use Rattle.std.proofs.Common.{◌≡◌, inl, inr, ℕ, zero, suc, ◌<◌, List, [], ◌∷◌, length, get_or, sym, subst, arith}
use Rattle.std.specs.Prelude.{All, Any}
use Rattle.poly_specs.proofs.InclusionLemmas.{in_flat_map}
use Rattle.poly_specs.specs.Bits.{PassesBits, SomePasses}
use Rattle.poly_specs.specs.Bounds.{IsPoint, Entails, Includes, bound_numbers, inclusion_numbers}
use Rattle.poly_specs.specs.Lists.{In}
use Rattle.poly_specs.specs.Rows.{Point, Row, Holds, AllHold}

module _ {X : Type 0} where
  in_at : (xs : List X) (k : ℕ) (x : X) → k < length xs → get_or xs k x ≡ x → In x xs
  in_at [] k x lt e = absurd (omega arith)
  in_at (y ∷ xs) zero x lt e = inl (sym e)
  in_at (y ∷ xs) (suc k) x lt e = inr (in_at xs k x (omega arith) e)

  any_in : (P : X → Type 0) (xs : List X) (x : X) → In x xs → P x → Any P xs
  any_in P [] x i p = absurd i
  any_in P (y ∷ xs) x (inl e) p = (0, x, omega arith, sym e, p)
  any_in P (y ∷ xs) x (inr i) p = let (k, z, lt, at, q) = any_in P xs x i p in (suc k, z, omega arith, at, q)

module _ (n : ℕ) (big small : List Row) (k : ℕ) (r : Row) (within : k < length big) (at : r ≡ get_or big k r) where
  -- a number that passes where one row is bounded
  pub row_passes : SomePasses (bound_numbers n small r) → SomePasses (inclusion_numbers n big small)
  row_passes (i, z, lt, e, passes) =
      any_in PassesBits (inclusion_numbers n big small) z
      (in_flat_map (bound_numbers n small) r z big (in_at big k r within (sym at)) (in_at (bound_numbers n small r) i z lt e)) passes

  -- a point that one row excludes
  pub row_excludes : (p : Point) × IsPoint n small p × (Holds r p → ⊥) → (p : Point) × IsPoint n small p × (AllHold big p → ⊥)
  row_excludes (p, point, none) = (p, point, λ all. none (subst (λ s. Holds s p) (sym at) (all k r within)))

pub each_entailed : (n : ℕ) (big small : List Row) → All (λ r. Entails n small r) big → Includes n big small
each_entailed n big small all p point k d lt = all k d lt p point
