-- What equal options feed to a hasher.
use Rattle.std.specs.Prelude.{◌≡◌, Bool, true, Option, Some, None}
use Rattle.std.proofs.Common.{ap, refl}
use Rattle.std.specs.Hash as fed
use Rattle.std.specs.Hash.{Alike, HashWrites}
use Rattle.std.specs.Option.{option_eq}

-- equal options feed alike where equal values do
pub options_Alike : {K : Type 0} {E : K → K → Bool} {F : K → HashWrites} → Alike E F → Alike (option_eq E) (fed.option F)
options_Alike {K} {E} {F} each = record { fed = go }
  where
    go : (x y : Option K) → option_eq E x y ≡ true → fed.option F x ≡ fed.option F y
    go None None e = refl
    go None (Some y) e = absurd (let b : ⊥ = cc in b)
    go (Some x) None e = absurd (let b : ⊥ = cc in b)
    go (Some x) (Some y) e = ap (λ ws. fed.option (λ _. ws) (Some x)) (each.fed x y e)
