-- A look-up finds a pair under the key that was looked for.
use Rattle.std.proofs.Common.{◌≡◌, Bool, true, false, List, [], ◌∷◌, Some, refl, subst}
use Rattle.std.specs.Map.{lookup_entry}
use Rattle.run_specs.specs.Keys.{Key}
use Rattle.gap_keys.proofs.KeyEquality.{key_eq, keys_exact}

module _ {K X : Type 0} (test : K → Bool) where
  -- what is found passes the test
  found_passes : (es : List (K × X)) (e : K × X) → lookup_entry test es ≡ Some e → test e.0 ≡ true
  found_passes [] e h = cc
  found_passes (f ∷ es) e h = (elim (test f.0) as (λ y. test f.0 ≡ y → test e.0 ≡ true) [
    | true ↦ λ t. let h' = rw t at h in let same : f ≡ e = cc in subst (λ (g : K × X). test g.0 ≡ true) same t
    | false ↦ λ t. found_passes es e (rw t at h)
  ]) refl

pub found_key : {X : Type 0} (key : Key) (es : List (Key × X)) (e : Key × X) → lookup_entry (key_eq key) es ≡ Some e → key ≡ e.0
found_key key es e found = (keys_exact key e.0).0 (found_passes (key_eq key) es e found)
