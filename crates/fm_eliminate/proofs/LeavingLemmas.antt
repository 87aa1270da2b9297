-- What is left of rows where those that say nothing more are dropped.
use Rattle.std.proofs.Common.{◌≡◌, ◌⊎◌, inl, inr, ℕ, zero, suc, ◌<◌, Bool, true, false, not, ◌&&◌, ◌||◌, List, [], ◌∷◌, ◌++◌, length, get_or, set, refl, sym, subst, arith, ℤ, pos, negsuc, ◌*ℤ◌, unsigned_abs, ◌<ℤ◌}
use Rattle.std.proofs.lemmas.List.Elements.{All-nil, All-cons}
use Rattle.std.specs.Prelude.{int_lt}
use Rattle.std.proofs.lemmas.Bool.{eqb-true}
use Rattle.std.proofs.lemmas.Int.{ints}
use Rattle.poly_specs.proofs.IntLemmas.{mul_lt_pos}
use Rattle.poly_specs.proofs.LinearLemmas.{Allows-below}
use Rattle.std.specs.List.{All, list_all}
use Rattle.poly_specs.proofs.EliminationLemmas.{AllHold-from_in, AllHold-at_in}
use Rattle.poly_specs.proofs.InclusionLemmas.{in_left, in_right, in_either}
use Rattle.poly_specs.proofs.RowLemmas.{Holds-dominated}
use Rattle.poly_specs.specs.Columns.{IsDominated}
use Rattle.poly_specs.specs.Lists.{In, IsAmong, dot}
use Rattle.poly_specs.specs.Rows.{Point, Row, row_value, Allows, Holds, AllHold}
use Rattle.fm_eliminate.specs.Leaving.{IsLeft, IsAlikeAt, is_zero, always_holds}

pub all_from_in : {X : Type 0} (P : X → Type 0) (xs : List X) → ((x : X) → In x xs → P x) → All P xs
all_from_in P [] f = All-nil P
all_from_in P (x ∷ xs) f = All-cons P x xs (f x (inl refl)) (all_from_in P xs (λ y i. f y (inr i)))

pub in_get_or : {X : Type 0} (xs : List X) (i : ℕ) (d : X) → i < length xs → In (get_or xs i d) xs
in_get_or [] i d h = absurd (omega arith)
in_get_or (x ∷ xs) zero d h = inl refl
in_get_or (x ∷ xs) (suc i) d h = inr (in_get_or xs i d (omega arith))

-- rows that are left, and more rows, of which again some are left
pub left_more : (rows left more next : List Row) → IsLeft rows left → IsLeft (left ++ more) next → IsLeft (rows ++ more) next
left_more rows left more next f g = record {
  among = λ r i. elim (in_either r left more (g.among r i)) [
    | inl j ↦ in_left r rows more (f.among r j)
    | inr j ↦ in_right r rows more j
  ];
  enough = λ p d h.
      let both = g.enough p d h in
      let first = f.enough p d (AllHold-from_in left p (λ r i. AllHold-at_in (left ++ more) p both r (in_left r left more i))) in
      AllHold-from_in (rows ++ more) p (λ r i. elim (in_either r rows more i) [
        | inl j ↦ AllHold-at_in rows p first r j
        | inr j ↦ AllHold-at_in (left ++ more) p both r (in_right r left more j)
      ]);
}

-- each row of the first list is kept, or holds wherever the kept ones do
pub left_by : (rows left : List Row) → IsAmong left rows →
    ((p : Point) → pos 0 <ℤ p.den → AllHold left p → (r : Row) → In r rows → Holds r p) → IsLeft rows left
left_by rows left among each = record { among = among; enough = λ p d h. AllHold-from_in rows p (each p d h) }

-- a row that holds wherever the others do is dropped
pub left_dropped : (rows : List Row) (r : Row) → ((p : Point) → pos 0 <ℤ p.den → AllHold rows p → Holds r p) → IsLeft (rows ++ r ∷ []) rows
left_dropped rows r implied = left_by (rows ++ r ∷ []) rows (λ s i. in_left s rows (r ∷ []) i) (λ p d h s i.
    elim (in_either s rows (r ∷ []) i) [
      | inl j ↦ AllHold-at_in rows p h s j
      | inr j ↦ elim j [ inl e ↦ subst (λ t. Holds t p) (sym e) (implied p d h) | inr k ↦ absurd k ]
    ])

-- ---- a row that takes the place of another

module _ {X : Type 0} (y : X) where
  from_set : (xs : List X) (i : ℕ) (x : X) → In x (set xs i y) → In x xs ⊎ (x ≡ y)
  from_set [] i x j = absurd j
  from_set (z ∷ xs) zero x (inl e) = inr e
  from_set (z ∷ xs) zero x (inr j) = inl (inr j)
  from_set (z ∷ xs) (suc i) x (inl e) = inl (inl e)
  from_set (z ∷ xs) (suc i) x (inr j) = elim (from_set xs i x j) [ inl k ↦ inl (inr k) | inr e ↦ inr e ]

  in_set : (xs : List X) (i : ℕ) (x : X) → In x xs → In x (set xs i y) ⊎ (x ≡ get_or xs i y)
  in_set [] i x j = absurd j
  in_set (z ∷ xs) zero x (inl e) = inr e
  in_set (z ∷ xs) zero x (inr j) = inl (inr j)
  in_set (z ∷ xs) (suc i) x (inl e) = inl (inl e)
  in_set (z ∷ xs) (suc i) x (inr j) = elim (in_set xs i x j) [ inl k ↦ inl (inr k) | inr e ↦ inr e ]

  set_in : (xs : List X) (i : ℕ) → i < length xs → In y (set xs i y)
  set_in [] i h = absurd (omega arith)
  set_in (z ∷ xs) zero h = inl refl
  set_in (z ∷ xs) (suc i) h = inr (set_in xs i (omega arith))

-- a row that takes the place of one that it dominates
left_replaced : (rows : List Row) (i : ℕ) (r : Row) → i < length rows → IsDominated (get_or rows i r) r → IsLeft (rows ++ r ∷ []) (set rows i r)
left_replaced rows i r within dominated = left_by (rows ++ r ∷ []) (set rows i r)
    (λ s j. elim (from_set r rows i s j) [ inl k ↦ in_left s rows (r ∷ []) k | inr e ↦ in_right s rows (r ∷ []) (inl e) ])
    (λ p d h s j.
    let here = AllHold-at_in (set rows i r) p h r (set_in r rows i within) in
    elim (in_either s rows (r ∷ []) j) [
      | inl k ↦ elim (in_set r rows i s k) [
        | inl m ↦ AllHold-at_in (set rows i r) p h s m
        | inr e ↦ subst (λ t. Holds t p) (sym e) (Holds-dominated (get_or rows i r) r p dominated d here)
      ]
      | inr k ↦ elim k [ inl e ↦ subst (λ t. Holds t p) (sym e) here | inr m ↦ absurd m ]
    ])

same_item : {X : Type 0} (xs : List X) (i : ℕ) (d e : X) → i < length xs → get_or xs i d ≡ get_or xs i e
same_item [] i d e h = absurd (omega arith)
same_item (x ∷ xs) zero d e h = refl
same_item (x ∷ xs) (suc i) d e h = same_item xs i d e (omega arith)

-- a row beside one with the same coefficients, which dominates it or not
module _ (rows : List Row) (i : ℕ) (r : Row) (alike : IsAlikeAt rows i r) (d : Row) where
  pub left_kept : IsDominated r (get_or rows i d) → IsLeft (rows ++ r ∷ []) rows
  left_kept dominated = left_dropped rows r (λ p e h.
      Holds-dominated r (get_or rows i d) p dominated e (AllHold-at_in rows p h (get_or rows i d) (in_get_or rows i d alike.within)))

  pub left_tightened : (IsDominated r (get_or rows i d) → ⊥) → IsLeft (rows ++ r ∷ []) (set rows i r)
  left_tightened n = elim alike.alike [
    | inl e ↦ absurd (n (subst (IsDominated r) (same_item rows i r d alike.within) e))
    | inr e ↦ left_replaced rows i r alike.within e
  ]

-- ---- rows that always hold

pub both_true : (a b : Bool) → (a && b) ≡ true → (a ≡ true) × (b ≡ true)
both_true true b e = (refl, e)
both_true false b e = (e, cc)

either_true : (a b : Bool) → (a || b) ≡ true → (a ≡ true) ⊎ (b ≡ true)
either_true true b e = inl refl
either_true false b e = inr e

pub zero_is : (z : ℤ) → is_zero z ≡ true → z ≡ pos 0
zero_is z t = let e : unsigned_abs z ≡ 0 = eqb-true _ _ t in omega (arith, ints)

zero-dot : (cs ns : List ℤ) → list_all is_zero cs ≡ true → dot cs ns ≡ pos 0
zero-dot [] ns z = refl
zero-dot (c ∷ cs) [] z = refl
zero-dot (c ∷ cs) (n ∷ ns) z =
    let b = both_true (is_zero c) (list_all is_zero cs) z in
    let here = zero_is c b.0 in
    let rest = zero-dot cs ns b.1 in
    rw here (omega (arith, ints, rest))

negative_times : (c d : ℤ) → c <ℤ pos 0 → pos 0 <ℤ d → (c *ℤ d) <ℤ pos 0
negative_times c (pos d) h g = let m = mul_lt_pos d c (pos 0) (omega (arith, ints)) h in omega (arith, ints, m)
negative_times c (negsuc d) h g = absurd (omega (arith, ints))

low-Allows : (s : Bool) (c d : ℤ) → (int_lt c (pos 0) || (is_zero c && not s)) ≡ true → pos 0 <ℤ d → Allows s (c *ℤ d)
low-Allows s c d low h = elim (either_true (int_lt c (pos 0)) (is_zero c && not s) low) [
  | inl lt ↦ (let below : c <ℤ pos 0 = grind (arith, ints) in Allows-below s (c *ℤ d) (negative_times c d below h))
  | inr e ↦ (let b = both_true (is_zero c) (not s) e in closed s (c *ℤ d) b.1 (let z = zero_is c b.0 in rw z (omega (arith, ints))))
]
  where
    closed : (s : Bool) (v : ℤ) → not s ≡ true → v ≡ pos 0 → Allows s v
    closed true v n e = absurd (let b : ⊥ = cc in b)
    closed false v n e = omega (arith, ints)

pub idle-Holds : (r : Row) (p : Point) → always_holds r ≡ true → pos 0 <ℤ p.den → Holds r p
idle-Holds r p a d =
    let b = both_true (list_all is_zero r.coef) _ a in
    let none = zero-dot r.coef p.num b.0 in
    let sum : r.cst *ℤ p.den ≡ row_value r p = omega (arith, ints, none) in
    subst (Allows r.strict) sum (low-Allows r.strict r.cst p.den b.1 d)

pub left_idle : (rows : List Row) (r : Row) → always_holds r ≡ true → IsLeft (rows ++ r ∷ []) rows
left_idle rows r a = left_dropped rows r (λ p d h. idle-Holds r p a d)
