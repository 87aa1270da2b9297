-- The system of a sample holds exactly where the time is up and the point passes the sample.
use Rattle.std.proofs.Common.{◌≡◌, ◌↔◌, inl, inr, ℕ, zero, suc, ◌+◌, ◌*◌, ◌<◌, ◌≤◌, List, [], ◌∷◌, ◌++◌, length, Option, Some, None, refl, sym, ◌∙◌, ap, subst, arith, ℤ, pos, negsuc, ◌+ℤ◌, ◌-ℤ◌, ◌*ℤ◌, ◌≤ℤ◌, ◌<ℤ◌, neg_ℤ, unsigned_abs}
use Rattle.std.specs.List.{flat_map}
use Rattle.std.proofs.Math.Nat.{mul-div_cancel'}
use Rattle.std.proofs.lemmas.Int.{ints}
use Rattle.std.proofs.lemmas.Bool.{cases_lt}
use Rattle.std.proofs.lemmas.List.{get_or_past}
use Rattle.poly_specs.proofs.IntLemmas.{products, expand, neg_mul, mul_le, le_cancel, mul_assoc_int, mul_comm_int}
use Rattle.poly_specs.proofs.CombinationLemmas.{gcd-IsGcd, Holds-divided}
use Rattle.poly_specs.proofs.InclusionLemmas.{in_left, in_right, in_either, in_flat_map}
use Rattle.poly_specs.proofs.EliminationLemmas.{AllHold-from_in, AllHold-at_in, out_flat_map}
use Rattle.run_specs.proofs.StageLemmas.{holds_both, holds_first, row_of_value}
use Rattle.poly_specs.specs.Lists.{In, number_at}
use Rattle.poly_specs.specs.Fractions.{Fraction, IsFraction, SameFraction, AtMost, DifferAtMost, difference, opposite}
use Rattle.poly_specs.specs.Arithmetic.{least_sum, left_factor, right_factor}
use Rattle.poly_specs.specs.Elimination.{gcd}
use Rattle.poly_specs.specs.Rows.{Point, Row, over, coordinate, Holds, AllHold}
use Rattle.run_specs.specs.Automaton.{Automaton, width, tolerance_at}
use Rattle.run_specs.specs.Logs.{IsPassing, cell_at}
use Rattle.run_specs.specs.Stages.{row_of, at_most, at_least, near_rows, seen_rows, below, sample_rows}

-- ---- rows of one column

pub at_most_holds : (n x : ℕ) (v : Fraction) (p : Point) → x < n → Holds (at_most n x v) p ↔ AtMost (coordinate x p) v
at_most_holds n x v p h =
    let d = Holds-divided (row_of n x v.den (neg_ℤ v.num)) p in
    let e = row_of_value n x v.den (neg_ℤ v.num) p h in
    let f = neg_mul v.num p.den in (
      λ g. (let k = d.1 g in omega (arith, ints, e, f, k)),
      λ g. d.0 (omega (arith, ints, e, f, g)),
    )

pub at_least_holds : (n x : ℕ) (v : Fraction) (p : Point) → x < n → Holds (at_least n x v) p ↔ AtMost v (coordinate x p)
at_least_holds n x v p h =
    let d = Holds-divided (row_of n x (neg_ℤ v.den) v.num) p in
    let e = row_of_value n x (neg_ℤ v.den) v.num p h in
    let f = neg_mul v.den (number_at x p.num) in (
      λ g. (let k = d.1 g in omega (arith, ints, e, f, k)),
      λ g. d.0 (omega (arith, ints, e, f, g)),
    )

-- ---- sums

scale_both : (y u z g f k : ℤ) → pos 0 <ℤ g → (((y -ℤ u) *ℤ (g *ℤ f)) ≤ℤ (z *ℤ (g *ℤ k))) ↔ (((y -ℤ u) *ℤ f) ≤ℤ (z *ℤ k))
scale_both y u z g f k hg =
    let a : (y -ℤ u) *ℤ (g *ℤ f) ≡ g *ℤ ((y -ℤ u) *ℤ f) = simp expand (omega (arith, products)) in
    let b : z *ℤ (g *ℤ k) ≡ g *ℤ (z *ℤ k) = omega (arith, products) in (
      λ h. le_cancel g ((y -ℤ u) *ℤ f) (z *ℤ k) hg (rw (← a, ← b) h),
      λ h. rw (a, b) (mul_le g ((y -ℤ u) *ℤ f) (z *ℤ k) hg h),
    )

-- the denominators of v and w, by their greatest common divisor
record Parts (v w : Fraction) (g : ℤ) : Type 0 where
  positive : pos 0 <ℤ g
  first : v.den ≡ g *ℤ pos (right_factor v w)
  second : w.den ≡ g *ℤ pos (left_factor v w)

abs_den : (z : ℤ) → pos 0 <ℤ z → z ≡ pos (unsigned_abs z)
abs_den (pos n) h = refl
abs_den (negsuc n) h = absurd (omega (arith, ints))

divisor_positive : (g k b : ℕ) → g * k ≡ b → 0 < b → 0 < g
divisor_positive zero k b e h = absurd (omega (arith, e))
divisor_positive (suc g) k b e h = omega arith

parts : (v w : Fraction) → IsFraction v → IsFraction w → Parts v w (pos (gcd (unsigned_abs v.den) (unsigned_abs w.den)))
parts v w hv hw =
    let b : ℕ = unsigned_abs v.den in
    let d : ℕ = unsigned_abs w.den in
    let g : ℕ = gcd b d in
    let is = gcd-IsGcd b d in
    let eb : g * right_factor v w ≡ b = mul-div_cancel' g is.0 in
    let ed : g * left_factor v w ≡ d = mul-div_cancel' g is.1 in
    let pb = abs_den v.den hv in
    let hb : 0 < b = omega (arith, ints, pb, hv) in
    let hg : 0 < g = divisor_positive g (right_factor v w) b eb hb in
    record {
      positive = omega (arith, ints, hg);
      first = pb ∙ ap pos (sym eb);
      second = abs_den w.den hw ∙ ap pos (sym ed);
    }

-- x ≤ v + w, and v - w ≤ x
pub sum_above : (v w x : Fraction) → IsFraction v → IsFraction w → AtMost x (least_sum v w) ↔ AtMost (difference x v) w
sum_above v w x hv hw =
    let g : ℤ = pos (gcd (unsigned_abs v.den) (unsigned_abs w.den)) in
    let f : ℤ = pos (left_factor v w) in
    let k : ℤ = pos (right_factor v w) in
    let p = parts v w hv hw in
    let s = scale_both (x.num *ℤ v.den) (v.num *ℤ x.den) (w.num *ℤ x.den) g f k p.positive in
    let l1 : x.num *ℤ (v.den *ℤ f) ≡ (x.num *ℤ v.den) *ℤ f = omega (arith, products) in
    let l2 : (v.num *ℤ f +ℤ w.num *ℤ k) *ℤ x.den ≡ (v.num *ℤ x.den) *ℤ f +ℤ (w.num *ℤ x.den) *ℤ k = simp expand (omega (arith, products)) in
    let l3 : (x.num *ℤ v.den -ℤ v.num *ℤ x.den) *ℤ f ≡ (x.num *ℤ v.den) *ℤ f -ℤ (v.num *ℤ x.den) *ℤ f = simp expand (omega (arith, products)) in
    let r1 : (x.num *ℤ v.den -ℤ v.num *ℤ x.den) *ℤ w.den ≡ (x.num *ℤ v.den -ℤ v.num *ℤ x.den) *ℤ (g *ℤ f) = ap (λ z. (x.num *ℤ v.den -ℤ v.num *ℤ x.den) *ℤ z) p.second in
    let r2 : w.num *ℤ (x.den *ℤ v.den) ≡ (w.num *ℤ x.den) *ℤ (g *ℤ k) = sym (mul_assoc_int w.num x.den v.den) ∙ ap (λ z. (w.num *ℤ x.den) *ℤ z) p.first in (
      λ h. rw (r1, r2) (s.1 (rw l3 (omega (arith, ints, rw (l1, l2) at h)))),
      λ h. rw (l1, l2) (let m = rw l3 at (s.0 (rw (r1, r2) at h)) in omega (arith, ints, m)),
    )

pub sum_below : (v w x : Fraction) → IsFraction v → IsFraction w → AtMost (least_sum v (opposite w)) x ↔ AtMost (difference v x) w
sum_below v w x hv hw =
    let g : ℤ = pos (gcd (unsigned_abs v.den) (unsigned_abs w.den)) in
    let f : ℤ = pos (left_factor v w) in
    let k : ℤ = pos (right_factor v w) in
    let p = parts v w hv hw in
    let s = scale_both (v.num *ℤ x.den) (x.num *ℤ v.den) (w.num *ℤ x.den) g f k p.positive in
    let l1 : x.num *ℤ (v.den *ℤ f) ≡ (x.num *ℤ v.den) *ℤ f = omega (arith, products) in
    let n : neg_ℤ w.num *ℤ k ≡ neg_ℤ (w.num *ℤ k) = neg_mul w.num k in
    let l2 : (v.num *ℤ f +ℤ neg_ℤ w.num *ℤ k) *ℤ x.den ≡ (v.num *ℤ x.den) *ℤ f -ℤ (w.num *ℤ x.den) *ℤ k =
    rw n (simp expand (omega (arith, products))) in
    let l3 : (v.num *ℤ x.den -ℤ x.num *ℤ v.den) *ℤ f ≡ (v.num *ℤ x.den) *ℤ f -ℤ (x.num *ℤ v.den) *ℤ f = simp expand (omega (arith, products)) in
    let r1 : (v.num *ℤ x.den -ℤ x.num *ℤ v.den) *ℤ w.den ≡ (v.num *ℤ x.den -ℤ x.num *ℤ v.den) *ℤ (g *ℤ f) = ap (λ z. (v.num *ℤ x.den -ℤ x.num *ℤ v.den) *ℤ z) p.second in
    let r2 : w.num *ℤ (v.den *ℤ x.den) ≡ (w.num *ℤ x.den) *ℤ (g *ℤ k) =
    ap (λ z. w.num *ℤ z) (mul_comm_int v.den x.den) ∙ sym (mul_assoc_int w.num x.den v.den) ∙ ap (λ z. (w.num *ℤ x.den) *ℤ z) p.first in (
      λ h. rw (r1, r2) (s.1 (rw l3 (omega (arith, ints, rw (l1, l2) at h)))),
      λ h. rw (l1, l2) (let m = rw l3 at (s.0 (rw (r1, r2) at h)) in omega (arith, ints, m)),
    )

-- ---- the rows of an observed variable

abbrev pub Near : ℕ → Fraction → Option Fraction → Point → Type 0
Near j w cell p = (v : Fraction) → cell ≡ Some v → DifferAtMost w v (coordinate j p)

pub near_rows_hold : (n j : ℕ) (w : Fraction) (cell : Option Fraction) (p : Point) → j < n → IsFraction w → ((v : Fraction) → cell ≡ Some v → IsFraction v) →
    AllHold (near_rows n j w cell) p ↔ Near j w cell p
near_rows_hold n j w None p h hw hc = (λ g v e. absurd (let b : ⊥ = cc in b), λ g. AllHold-from_in [] p (λ r i. absurd i))
near_rows_hold n j w (Some u) p h hw hc =
    let hu : IsFraction u = hc u refl in
    let x : Fraction = coordinate j p in
    let up = at_most_holds n j (least_sum u w) p h in
    let low = at_least_holds n j (least_sum u (opposite w)) p h in
    let above = sum_above u w x hu hw in
    let under = sum_below u w x hu hw in
    let b1 = holds_first (at_most n j (least_sum u w)) (at_least n j (least_sum u (opposite w)) ∷ []) p in
    let b2 = holds_first (at_least n j (least_sum u (opposite w))) [] p in (
      λ g v e.
          let g1 = b1.0 g in
          let g2 = b2.0 g1.1 in
          let same : u ≡ v = cc in
          subst (λ y. DifferAtMost w y x) same (under.0 (low.0 g2.0), above.0 (up.0 g1.0)),
      λ g. let near = g u refl in
          b1.1 (up.1 (above.1 near.1), b2.1 (low.1 (under.1 near.0), AllHold-from_in [] p (λ r i. absurd i))),
    )

-- ---- all variables

pub in_below : (n j : ℕ) → j < n → In j (below n)
in_below zero j h = absurd (omega arith)
in_below (suc n) j h = elim (cases_lt j n) [
  | inl lt ↦ in_left j (below n) (n ∷ []) (in_below n j lt)
  | inr ge ↦ in_right j (below n) (n ∷ []) (inl (omega arith))
]

pub out_below : (n j : ℕ) → In j (below n) → j < n
out_below zero j i = absurd i
out_below (suc n) j i = elim (in_either j (below n) (n ∷ []) i) [
  | inl k ↦ (let h = out_below n j k in omega arith)
  | inr (inl e) ↦ omega (arith, e)
  | inr (inr k) ↦ absurd k
]

pub all_seen : (a : Automaton) (cells : List (Option Fraction)) (n : ℕ) (p : Point) →
    AllHold (flat_map (seen_rows a cells) (below n)) p ↔ ((j : ℕ) → j < n → AllHold (seen_rows a cells j) p)
all_seen a cells n p = (
  λ h j hj. AllHold-from_in (seen_rows a cells j) p (λ r i.
      AllHold-at_in (flat_map (seen_rows a cells) (below n)) p h r (in_flat_map (seen_rows a cells) j r (below n) (in_below n j hj) i)),
  λ h. AllHold-from_in (flat_map (seen_rows a cells) (below n)) p (λ r i.
      let y = out_flat_map (seen_rows a cells) r (below n) i in AllHold-at_in (seen_rows a cells y.0) p (h y.0 (out_below n y.0 y.1)) r y.2),
)

pub number_before : (ns : List ℤ) (e : ℤ) (j : ℕ) → j < length ns → number_at j (ns ++ e ∷ []) ≡ number_at j ns
number_before [] e j h = absurd (omega arith)
number_before (n ∷ ns) e zero h = refl
number_before (n ∷ ns) e (suc j) h = number_before ns e j (omega arith)

pub number_last : (ns : List ℤ) (e : ℤ) → number_at (length ns) (ns ++ e ∷ []) ≡ e
number_last [] e = refl
number_last (n ∷ ns) e = number_last ns e

-- the system of a sample holds exactly where the state holds, the time is up and the values pass the sample
pub sample_exact : (a : Automaton) (duration : Fraction) (cells : List (Option Fraction)) (state : List Row) (d : ℤ) (v : List ℤ) (e : ℤ) →
    ((j : ℕ) → IsFraction (tolerance_at a j)) → ((j : ℕ) (x : Fraction) → cell_at j cells ≡ Some x → IsFraction x) →
    length cells ≡ width a → length v ≡ width a →
    AllHold (sample_rows a duration cells state) (over d (v ++ e ∷ []))
    ↔ AllHold state (over d (v ++ e ∷ [])) × SameFraction (record { num = e; den = d }) duration × IsPassing a cells (over d v)
sample_exact a duration cells state d v e ht hc lc lv =
    let m : ℕ = width a in
    let at : Point = over d (v ++ e ∷ []) in
    let last : number_at m (v ++ e ∷ []) ≡ e = ap (λ k. number_at k (v ++ e ∷ [])) (sym lv) ∙ number_last v e in
    let here : (j : ℕ) → j < m → coordinate j at ≡ coordinate j (over d v) = λ j hj. λ i. record { num = number_before v e j (subst (λ k. j < k) (sym lv) hj) i; den = d } in
    let up = at_most_holds (m + 1) m duration at (omega arith) in
    let low = at_least_holds (m + 1) m duration at (omega arith) in
    let seen = all_seen a cells m at in
    let b1 = holds_both state (at_most (m + 1) m duration ∷ at_least (m + 1) m duration ∷ flat_map (seen_rows a cells) (below m)) at in
    let b2 = holds_first (at_most (m + 1) m duration) (at_least (m + 1) m duration ∷ flat_map (seen_rows a cells) (below m)) at in
    let b3 = holds_first (at_least (m + 1) m duration) (flat_map (seen_rows a cells) (below m)) at in (
      λ h.
          let h1 = b1.0 h in
          let h2 = b2.0 h1.1 in
          let h3 = b3.0 h2.1 in
          let le = rw last at (up.0 h2.0) in
          let ge = rw last at (low.0 h3.0) in (
            h1.0,
            omega (arith, ints, le, ge),
            record {
              sized = lv;
              near = λ j x s. elim (cases_lt j m) [
                | inl lt ↦ subst (λ y. DifferAtMost (tolerance_at a j) x y) (here j lt) (near_there j lt (seen.0 h3.1 j lt) x s)
                | inr past ↦ absurd (nothing j past x s)
              ];
            },
          ),
      λ h.
          let same = h.1 in
          b1.1 (h.0, b2.1 (up.1 (rw last (omega (arith, ints, same))), b3.1 (low.1 (rw last (omega (arith, ints, same))), seen.1 (λ j hj. rows_there j hj h.2)))),
    )
  where
    nothing : (j : ℕ) → width a ≤ j → (x : Fraction) → cell_at j cells ≡ Some x → ⊥
    nothing j past x s = let n = get_or_past cells j None (subst (λ k. k ≤ j) (sym lc) past) in let b : ⊥ = cc in b

    near_there : (j : ℕ) → j < width a → AllHold (seen_rows a cells j) (over d (v ++ e ∷ [])) → (x : Fraction) → cell_at j cells ≡ Some x →
        DifferAtMost (tolerance_at a j) x (coordinate j (over d (v ++ e ∷ [])))
    near_there j hj h = (near_rows_hold (width a + 1) j (tolerance_at a j) (cell_at j cells) (over d (v ++ e ∷ [])) (omega arith) (ht j) (hc j)).0 h

    rows_there : (j : ℕ) → j < width a → IsPassing a cells (over d v) → AllHold (seen_rows a cells j) (over d (v ++ e ∷ []))
    rows_there j hj p =
        let same : number_at j (v ++ e ∷ []) ≡ number_at j v = number_before v e j (subst (λ k. j < k) (sym lv) hj) in
        (near_rows_hold (width a + 1) j (tolerance_at a j) (cell_at j cells) (over d (v ++ e ∷ [])) (omega arith) (ht j) (hc j)).1
        (λ x s. subst (λ n. DifferAtMost (tolerance_at a j) x (record { num = n; den = d })) (sym same) (p.near j x s))
