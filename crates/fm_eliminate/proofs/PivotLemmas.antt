-- Equations among rows: how they are found, and what they say.
use Rattle.std.proofs.Common.{◌≡◌, inl, inr, ℕ, ◌<◌, IsFalse, List, [], ◌∷◌, length, map, get_or, refl, sym, ◌∙◌, ap, subst, arith, ℤ, pos, ◌<ℤ◌, neg_ℤ}
use Rattle.std.specs.List.{All}
use Rattle.std.proofs.lemmas.Int.{ints}
use Rattle.std.proofs.lemmas.List.{get_or-map}
use Rattle.std.proofs.lemmas.List.Elements.{All-head, All-tail}
use Rattle.poly_specs.specs.Lists.{In}
use Rattle.poly_specs.specs.Rows.{Row, coef_at}
use Rattle.poly_specs.specs.Systems.{negated}
use Rattle.fm_eliminate.specs.Leaving.{IsPivot}
use Rattle.fm_eliminate.proofs.LeavingLemmas.{in_get_or}

module _ {X : Type 0} where
  pub in_item : (xs : List X) (i : ℕ) (x : X) → i < length xs → x ≡ get_or xs i x → In x xs
  in_item xs i x h e = subst (λ y. In y xs) (sym e) (in_get_or xs i x h)

  pub each_in : (P : X → Type 0) (xs : List X) → All P xs → (x : X) → In x xs → P x
  each_in P [] f x i = absurd i
  each_in P (y ∷ xs) f x (inl e) = subst P (sym e) (All-head P y xs f)
  each_in P (y ∷ xs) f x (inr i) = each_in P xs (All-tail P y xs f) x i

  pub not_in : (x : X) (xs : List X) → All (λ y. y ≡ x → ⊥) xs → In x xs → ⊥
  not_in x xs f i = each_in (λ y. y ≡ x → ⊥) xs f x i refl

-- ---- negation

negated_twice : (z : ℤ) → neg_ℤ (neg_ℤ z) ≡ z
negated_twice z = omega (arith, ints)

map-negated_twice : (zs : List ℤ) → map neg_ℤ (map neg_ℤ zs) ≡ zs
map-negated_twice [] = refl
map-negated_twice (z ∷ zs) = let e = negated_twice z in let f = map-negated_twice zs in cc

pub row-negated_twice : (r : Row) → negated (negated r) ≡ r
row-negated_twice r =
    let e = map-negated_twice r.coef in let f = negated_twice r.cst in λ i. record { coef = e i; cst = f i; strict = r.strict }

pub coef-negated : (x : ℕ) (r : Row) → x < length r.coef → coef_at x (negated r) ≡ neg_ℤ (coef_at x r)
coef-negated x r h = get_or-map neg_ℤ r.coef x (pos 0) (pos 0) h

-- an upper row that is an equation
pub upper_pivot : (x : ℕ) (rows : List Row) (r other : Row) → x < length r.coef → In r rows → In other rows → other ≡ negated r →
    IsFalse r.strict → pos 0 <ℤ coef_at x r → IsPivot x rows other r
upper_pivot x rows r other h i j e closed above = record {
  lower_in = j;
  upper_in = i;
  closed = subst (λ s. IsFalse s.strict) (sym e) closed;
  below = (let f : coef_at x other ≡ neg_ℤ (coef_at x r) = ap (coef_at x) e ∙ coef-negated x r h in omega (arith, ints, f));
  opposite = sym (row-negated_twice r) ∙ sym (ap negated e);
}
