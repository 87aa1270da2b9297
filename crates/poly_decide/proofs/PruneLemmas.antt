-- Fewer rows with the same points.
use Rattle.std.proofs.Common.{◌≡◌, ◌⊎◌, inl, inr, ℕ, zero, suc, ◌+◌, ◌<◌, List, [], ◌∷◌, ◌++◌, length, take, drop, get_or, refl, sym, ◌∙◌, ap, subst, arith}
use Rattle.poly_specs.proofs.EliminationLemmas.{AllHold-from_in, AllHold-at_in, width_in}
use Rattle.poly_specs.proofs.InclusionLemmas.{in_left, in_right, in_either}
use Rattle.fm_eliminate.proofs.LeavingLemmas.{all_from_in}
use Rattle.poly_specs.specs.Bounds.{Entails}
use Rattle.poly_specs.specs.Lists.{In, IsAmong}
use Rattle.poly_specs.specs.Rows.{Row, Holds, AllWide}
use Rattle.poly_decide.specs.Pruned.{IsSublist, IsThinned}

-- ---- some of the items of a list

module _ {A : Type 0} where
  pub same_list : (xs : List A) → IsSublist xs xs
  same_list [] = tt
  same_list (x ∷ xs) = inl (refl, same_list xs)

  sublist_skip : (xs ys : List A) (y : A) → IsSublist xs ys → IsSublist xs (y ∷ ys)
  sublist_skip [] ys y h = tt
  sublist_skip (x ∷ xs) ys y h = inr h

  sublist_more : (xs ys : List A) (y : A) → IsSublist xs ys → IsSublist xs (ys ++ y ∷ [])
  sublist_more [] ys y h = tt
  sublist_more (x ∷ xs) [] y h = absurd h
  sublist_more (x ∷ xs) (z ∷ ys) y (inl h) = inl (h.0, sublist_more xs ys y h.1)
  sublist_more (x ∷ xs) (z ∷ ys) y (inr h) = inr (sublist_more (x ∷ xs) ys y h)

  sublist_both : (xs ys : List A) (y : A) → IsSublist xs ys → IsSublist (xs ++ y ∷ []) (ys ++ y ∷ [])
  sublist_both [] [] y h = inl (refl, tt)
  sublist_both [] (z ∷ ys) y h = inr (sublist_both [] ys y tt)
  sublist_both (x ∷ xs) [] y h = absurd h
  sublist_both (x ∷ xs) (z ∷ ys) y (inl h) = inl (h.0, sublist_both xs ys y h.1)
  sublist_both (x ∷ xs) (z ∷ ys) y (inr h) = inr (sublist_both (x ∷ xs) ys y h)

  pub sublist_among : (xs ys : List A) → IsSublist xs ys → IsAmong xs ys
  sublist_among [] ys h z i = absurd i
  sublist_among (x ∷ xs) [] h z i = absurd h
  sublist_among (x ∷ xs) (y ∷ ys) (inl h) z (inl e) = inl (e ∙ h.0)
  sublist_among (x ∷ xs) (y ∷ ys) (inl h) z (inr i) = inr (sublist_among xs ys h.1 z i)
  sublist_among (x ∷ xs) (y ∷ ys) (inr h) z i = inr (sublist_among (x ∷ xs) ys h z i)

  sublist_trans : (xs ys zs : List A) → IsSublist xs ys → IsSublist ys zs → IsSublist xs zs
  sublist_trans [] ys zs f g = tt
  sublist_trans (x ∷ xs) [] zs f g = absurd f
  sublist_trans (x ∷ xs) (y ∷ ys) [] f g = absurd g
  sublist_trans (x ∷ xs) (y ∷ ys) (z ∷ zs) (inl f) (inl g) = inl (f.0 ∙ g.0, sublist_trans xs ys zs f.1 g.1)
  sublist_trans (x ∷ xs) (y ∷ ys) (z ∷ zs) (inr f) (inl g) = inr (sublist_trans (x ∷ xs) ys zs f g.1)
  sublist_trans (x ∷ xs) (y ∷ ys) (z ∷ zs) f (inr g) = inr (sublist_trans (x ∷ xs) (y ∷ ys) zs f g)

  sublist_without : (i : ℕ) (xs : List A) → i < length xs → IsSublist (take i xs ++ drop (suc i) xs) xs
  sublist_without i [] h = absurd (omega arith)
  sublist_without zero (x ∷ xs) h = sublist_skip xs xs x (same_list xs)
  sublist_without (suc i) (x ∷ xs) h = inl (refl, sublist_without i xs (omega arith))

  in_others : (i : ℕ) (xs : List A) (d : A) → i < length xs → (x : A) → In x xs → (x ≡ get_or xs i d) ⊎ In x (take i xs ++ drop (suc i) xs)
  in_others i [] d h x j = absurd j
  in_others zero (y ∷ ys) d h x (inl e) = inl e
  in_others zero (y ∷ ys) d h x (inr j) = inr j
  in_others (suc i) (y ∷ ys) d h x (inl e) = inr (inl e)
  in_others (suc i) (y ∷ ys) d h x (inr j) = elim (in_others i ys d (omega arith) x j) [ inl e ↦ inl e | inr k ↦ inr (inr k) ]

  pub taken_among : (i : ℕ) (xs : List A) → IsAmong (take i xs) xs
  taken_among i [] x j = absurd (none i j)
    where
      none : (i : ℕ) → In x (take i []) → ⊥
      none zero j = j
      none (suc i) j = j
  taken_among zero (y ∷ ys) x j = absurd j
  taken_among (suc i) (y ∷ ys) x (inl e) = inl e
  taken_among (suc i) (y ∷ ys) x (inr j) = inr (taken_among i ys x j)

  pub among_with : (xs ys : List A) (y : A) → IsAmong xs ys → In y ys → IsAmong (xs ++ y ∷ []) ys
  among_with xs ys y f i x j = elim (in_either x xs (y ∷ []) j) [
    | inl k ↦ f x k
    | inr k ↦ elim k [ inl e ↦ subst (λ z. In z ys) (sym e) i | inr m ↦ absurd m ]
  ]

-- ---- rows and their points

module _ (n : ℕ) where
  pub wide_among : (rows left : List Row) → AllWide n rows → IsAmong left rows → AllWide n left
  wide_among rows left wide among = all_from_in (λ r. length r.coef ≡ n) left (λ r i. width_in n rows wide r (among r i))

  pub entails_among : (rows few : List Row) (r : Row) → IsAmong few rows → Entails n few r → Entails n rows r
  entails_among rows few r among implied = λ p h.
      implied p (record { positive = h.positive; sized = h.sized; holds = AllHold-from_in few p (λ s i. AllHold-at_in rows p h.holds s (among s i)) })

  pub thinned_same : (rows : List Row) → IsThinned n rows rows
  thinned_same rows = record { some = same_list rows; enough = λ p h. h.holds }

  pub thinned_trans : (rows left next : List Row) → IsThinned n rows left → IsThinned n left next → IsThinned n rows next
  thinned_trans rows left next f g = record {
    some = sublist_trans next left rows g.some f.some;
    enough = λ p h. f.enough p (record { positive = h.positive; sized = h.sized; holds = g.enough p h });
  }

  -- one more row that is kept
  pub thinned_kept : (rows left : List Row) (r : Row) → IsThinned n rows left → IsThinned n (rows ++ r ∷ []) (left ++ r ∷ [])
  thinned_kept rows left r f = record {
    some = sublist_both left rows r f.some;
    enough = λ p h.
        let first = AllHold-from_in left p (λ s i. AllHold-at_in (left ++ r ∷ []) p h.holds s (in_left s left (r ∷ []) i)) in
        let before = f.enough p (record { positive = h.positive; sized = h.sized; holds = first }) in
        AllHold-from_in (rows ++ r ∷ []) p (λ s i. elim (in_either s rows (r ∷ []) i) [
          | inl j ↦ AllHold-at_in rows p before s j
          | inr j ↦ AllHold-at_in (left ++ r ∷ []) p h.holds s (in_right s left (r ∷ []) j)
        ]);
  }

  -- one more row that those that are left imply
  pub thinned_dropped : (rows left : List Row) (r : Row) → IsThinned n rows left → Entails n left r → IsThinned n (rows ++ r ∷ []) left
  thinned_dropped rows left r f implied = record {
    some = sublist_more left rows r f.some;
    enough = λ p h.
        let before = f.enough p h in
        AllHold-from_in (rows ++ r ∷ []) p (λ s i. elim (in_either s rows (r ∷ []) i) [
          | inl j ↦ AllHold-at_in rows p before s j
          | inr j ↦ elim j [ inl e ↦ subst (λ t. Holds t p) (sym e) (implied p h) | inr k ↦ absurd k ]
        ]);
  }

  -- the row at a place, which the others imply
  pub thinned_without : (rows others : List Row) (i : ℕ) (r : Row) → i < length rows → r ≡ get_or rows i r → others ≡ take i rows ++ drop (i + 1) rows →
      Entails n others r → IsThinned n rows others
  thinned_without rows others i r within at e implied =
      let next : i + 1 ≡ suc i = omega arith in
      let are : others ≡ take i rows ++ drop (suc i) rows = e ∙ ap (λ k. take i rows ++ drop k rows) next in
      record {
        some = subst (λ rs. IsSublist rs rows) (sym are) (sublist_without i rows within);
        enough = λ p h. AllHold-from_in rows p (λ s j. elim (in_others i rows r within s j) [
          | inl same ↦ subst (λ t. Holds t p) (at ∙ sym same) (implied p h)
          | inr k ↦ AllHold-at_in others p h.holds s (subst (In s) (sym are) k)
        ]);
      }

  -- the others are as wide
  pub wide_others : (rows others : List Row) (i : ℕ) → i < length rows → others ≡ take i rows ++ drop (i + 1) rows → AllWide n rows → AllWide n others
  wide_others rows others i within e wide =
      let next : i + 1 ≡ suc i = omega arith in
      let are : others ≡ take i rows ++ drop (suc i) rows = e ∙ ap (λ k. take i rows ++ drop k rows) next in
      wide_among rows others wide (sublist_among others rows (subst (λ rs. IsSublist rs rows) (sym are) (sublist_without i rows within)))

  pub wide_thinned : (rows left : List Row) → AllWide n rows → IsThinned n rows left → AllWide n left
  wide_thinned rows left wide f = wide_among rows left wide (sublist_among left rows f.some)
