-- Rows of which none dominates another.
use Rattle.std.proofs.Common.{◌≡◌, inl, inr, ℕ, zero, suc, ◌+◌, ◌<◌, ◌≤◌, List, [], ◌∷◌, ◌++◌, length, take, drop, get_or, refl, sym, ◌∙◌, ap, subst, arith}
use Rattle.std.specs.Prelude.{Any}
use Rattle.std.proofs.lemmas.Bool.{cases_lt}
use Rattle.std.proofs.lemmas.List.{get_or_default}
use Rattle.poly_specs.specs.Columns.{IsDominated}
use Rattle.poly_specs.specs.Rows.{Row}
use Rattle.poly_decide.specs.Pruned.{AreUndominated, AreUndominatedFrom}

module _ {A : Type 0} where
  abbrev pub without : ℕ → List A → List A
  without p xs = take p xs ++ drop (suc p) xs

  pub length-without : (p : ℕ) (xs : List A) → p < length xs → suc (length (without p xs)) ≡ length xs
  length-without p [] h = absurd (omega arith)
  length-without zero (x ∷ xs) h = refl
  length-without (suc p) (x ∷ xs) h = ap suc (length-without p xs (omega arith))

  pub before_without : (p k : ℕ) (xs : List A) (d : A) → k < p → get_or (without p xs) k d ≡ get_or xs k d
  before_without zero k xs d h = absurd (omega arith)
  before_without (suc p) k [] d h = refl
  before_without (suc p) zero (x ∷ xs) d h = refl
  before_without (suc p) (suc k) (x ∷ xs) d h = before_without p k xs d (omega arith)

  pub behind_without : (p k : ℕ) (xs : List A) (d : A) → p ≤ k → get_or (without p xs) k d ≡ get_or xs (suc k) d
  behind_without zero k [] d h = refl
  behind_without zero k (x ∷ xs) d h = refl
  behind_without (suc p) k [] d h = refl
  behind_without (suc p) zero (x ∷ xs) d h = absurd (omega arith)
  behind_without (suc p) (suc k) (x ∷ xs) d h = behind_without p k xs d (omega arith)

module _ (rows : List Row) (p : ℕ) (within : p < length rows) (h : AreUndominatedFrom (suc p) rows) where
  -- the row at the place goes
  pub from_without : AreUndominatedFrom p (without p rows)
  from_without i j d le li lj ne dominated =
      let l = length-without p rows within in
      let at_i = behind_without p i rows d le in
      elim (cases_lt j p) [
        | inl lt ↦ h (suc i) j d (omega arith) (omega (arith, l)) (omega (arith, l)) (λ e. omega arith)
            (subst (λ r. IsDominated (get_or rows (suc i) d) r) (before_without p j rows d lt) (subst (λ r. IsDominated r (get_or (without p rows) j d)) at_i dominated))
        | inr ge ↦ h (suc i) (suc j) d (omega arith) (omega (arith, l)) (omega (arith, l)) (λ e. ne (omega (arith, e)))
            (subst (λ r. IsDominated (get_or rows (suc i) d) r) (behind_without p j rows d ge) (subst (λ r. IsDominated r (get_or (without p rows) j d)) at_i dominated))
      ]

  -- none of the others dominates the row at the place: it stays
  pub from_kept : ((d : Row) → Any (λ other. IsDominated (get_or rows p d) other) (without p rows) → ⊥) → AreUndominatedFrom p rows
  from_kept none i j d le li lj ne dominated = elim (cases_lt p i) [
    | inl lt ↦ h i j d (omega arith) li lj ne dominated
    | inr ge ↦ at_place (omega arith)
  ]
    where
      l : suc (length (without p rows)) ≡ length rows
      l = length-without p rows within

      at_place : i ≡ p → ⊥
      at_place e =
          let here : IsDominated (get_or rows p d) (get_or rows j d) = subst (λ k. IsDominated (get_or rows k d) (get_or rows j d)) e dominated in
          elim (cases_lt j p) [
            | inl lt ↦ none d (j, get_or rows j d, omega (arith, l), before_without p j rows (get_or rows j d) lt ∙ get_or_default rows j (get_or rows j d) d lj, here)
            | inr ge ↦ elim (cases_lt p j) [ inl lt ↦ later j lt lj here | inr le ↦ absurd (ne (omega (arith, e))) ]
          ]
        where
          later : (k : ℕ) → p < k → k < length rows → IsDominated (get_or rows p d) (get_or rows k d) → ⊥
          later zero lt lk here = absurd (omega arith)
          later (suc k) lt lk here =
              none d (k, get_or rows (suc k) d, omega (arith, l), behind_without p k rows (get_or rows (suc k) d) (omega arith) ∙ get_or_default rows (suc k) (get_or rows (suc k) d) d lk, here)

-- ---- one place after the other, from the back

pub undominated_past : (rows : List Row) (p : ℕ) → length rows ≤ p → AreUndominatedFrom p rows
undominated_past rows p h i j d le li lj ne dominated = absurd (omega arith)

pub undominated_without : (rows others : List Row) (p : ℕ) → p < length rows → others ≡ take p rows ++ drop (p + 1) rows →
    AreUndominatedFrom (p + 1) rows → AreUndominatedFrom p others
undominated_without rows others p within are h =
    let next : p + 1 ≡ suc p = omega arith in
    subst (AreUndominatedFrom p) (sym (are ∙ ap (λ k. take p rows ++ drop k rows) next)) (from_without rows p within (subst (λ k. AreUndominatedFrom k rows) next h))

pub undominated_kept : (rows others : List Row) (p : ℕ) (r : Row) → p < length rows → r ≡ get_or rows p r → others ≡ take p rows ++ drop (p + 1) rows →
    (Any (λ other. IsDominated r other) others → ⊥) → AreUndominatedFrom (p + 1) rows → AreUndominatedFrom p rows
undominated_kept rows others p r within at are none h =
    let next : p + 1 ≡ suc p = omega arith in
    from_kept rows p within (subst (λ k. AreUndominatedFrom k rows) next h) (λ d some.
    let same : get_or rows p d ≡ r = get_or_default rows p d r within ∙ sym at in
    none (subst (λ (s : Row). Any (λ other. IsDominated s other) others) same
    (subst (λ (rs : List Row). Any (λ other. IsDominated (get_or rows p d) other) rs) (sym (are ∙ ap (λ k. take p rows ++ drop k rows) next)) some)))

pub undominated_all : (rows : List Row) (p : ℕ) → p ≡ 0 → AreUndominatedFrom p rows → AreUndominated rows
undominated_all rows p e h i j d li lj ne = h i j d (omega (arith, e)) li lj ne
