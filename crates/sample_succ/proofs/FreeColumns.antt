-- Columns that no row has stay without coefficients, and rows keep their width.
use Rattle.std.proofs.Common.{◌≡◌, inl, inr, ℕ, ◌<◌, List, [], ◌∷◌, length, sym, ◌∙◌, ap, subst, arith, pos, ◌*ℤ◌, unsigned_abs}
use Rattle.std.specs.Prelude.{int_lt, ◌==◌}
use Rattle.std.proofs.lemmas.Int.{ints}
use Rattle.std.proofs.lemmas.List.{length-map}
use Rattle.poly_specs.proofs.ColumnLemmas.{eliminated_wide}
use Rattle.poly_specs.proofs.EliminationLemmas.{width_in, get_or-plus, coef-times, divided_without, length-raw, out_flat_map, out_map}
use Rattle.poly_specs.proofs.InclusionLemmas.{in_either, out_filter}
use Rattle.poly_specs.specs.Elimination.{combination, raw_combination, times, lower_factor, upper_factor, lowers, uppers, free_of, eliminated, eliminated_each}
use Rattle.poly_specs.specs.Lists.{In}
use Rattle.poly_specs.specs.Rows.{Row, coef_at, AllWide}
use Rattle.poly_specs.specs.Systems.{AreFreeOf}
use Rattle.fm_eliminate.proofs.PivotLemmas.{each_in}

-- a combination has no column that both rows lack
raw_free : (x j : ℕ) (l u : Row) → j < length l.coef → length l.coef ≡ length u.coef → coef_at j l ≡ pos 0 → coef_at j u ≡ pos 0 →
    coef_at j (raw_combination x l u) ≡ pos 0
raw_free x j l u h e zl zu =
    let k : ℕ = lower_factor x l u in
    let m : ℕ = upper_factor x l u in
    let sized : length (times (pos k) l).coef ≡ length (times (pos m) u).coef =
    length-map l.coef (λ c. pos k *ℤ c) ∙ e ∙ sym (length-map u.coef (λ c. pos m *ℤ c)) in
    let a : coef_at j (times (pos k) l) ≡ pos k *ℤ pos 0 = coef-times (pos k) l j h ∙ ap (λ z. pos k *ℤ z) zl in
    let b : coef_at j (times (pos m) u) ≡ pos m *ℤ pos 0 = coef-times (pos m) u j (omega arith) ∙ ap (λ z. pos m *ℤ z) zu in
    get_or-plus (times (pos k) l).coef (times (pos m) u).coef j sized ∙ omega (arith, ints, a, b)

pub free_stays : (w x j : ℕ) (rows : List Row) → j < w → AllWide w rows → AreFreeOf j rows → (r : Row) → In r (eliminated x rows) → coef_at j r ≡ pos 0
unfolding eliminated
free_stays w x j rows h wide free r i = elim (in_either r (free_of x rows) _ i) [
  | inl k ↦ each_in (λ s. coef_at j s ≡ pos 0) rows free r (out_filter (λ s. unsigned_abs (coef_at x s) == 0) r rows k).0
  | inr k ↦ (
      let y = out_flat_map _ r (lowers x rows) k in
      let z = out_map (combination x y.0) r (uppers x rows) y.2 in
      let l = (out_filter (λ s. int_lt (coef_at x s) (pos 0)) y.0 rows y.1).0 in
      let u = (out_filter (λ s. int_lt (pos 0) (coef_at x s)) z.0 rows z.1).0 in
      let wl = width_in w rows wide y.0 l in
      let e = wl ∙ sym (width_in w rows wide z.0 u) in
      let f = each_in (λ s. coef_at j s ≡ pos 0) rows free in
      let raw = raw_free x j y.0 z.0 (omega arith) e (f y.0 l) (f z.0 u) in
      subst (λ s. coef_at j s ≡ pos 0) (sym z.2) (divided_without j (raw_combination x y.0 z.0) (omega (arith, length-raw x y.0 z.0 e)) raw))
]

pub each_wide : (w : ℕ) (columns : List ℕ) (rows : List Row) → AllWide w rows → AllWide w (eliminated_each columns rows)
each_wide w [] rows h = h
each_wide w (x ∷ columns) rows h = each_wide w columns (eliminated x rows) (eliminated_wide w x rows h)
