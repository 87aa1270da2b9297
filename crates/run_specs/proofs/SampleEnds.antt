-- The rows after a sample hold exactly at the points that pass it when the time is up.
use Rattle.std.proofs.Common.{◌≡◌, ◌↔◌, inl, inr, ℕ, zero, suc, ◌+◌, ◌<◌, Bool, true, false, List, [], ◌∷◌, ◌++◌, length, length-append, set, Option, Some, None, refl, sym, ◌∙◌, ap, subst, arith, ℤ, pos, neg_ℤ, ◌-ℤ◌, ◌*ℤ◌, ◌≤ℤ◌, ◌<ℤ◌, unsigned_abs}
use Rattle.std.specs.Prelude.{All, filter}
use Rattle.std.specs.List.{flat_map}
use Rattle.std.proofs.lemmas.Int.{ints}
use Rattle.std.proofs.lemmas.Bool.{cases_lt, eqb-true}
use Rattle.std.proofs.lemmas.List.{length-set, get_or-set_same, get_or-set_other, get_or_past}
use Rattle.std.specs.List.{AllByRecursion}
use Rattle.std.proofs.lemmas.List.Elements.{All-from_recursion, All-cons}
use Rattle.poly_specs.proofs.IntLemmas.{le_cancel}
use Rattle.poly_specs.proofs.FractionLemmas.{same-trans}
use Rattle.poly_specs.proofs.InclusionLemmas.{in_filter, out_filter, in_flat_map}
use Rattle.poly_specs.proofs.EliminationLemmas.{AllHold-from_in, AllHold-at_in, Holds-same_but, divided_without, length-divided, out_flat_map}
use Rattle.poly_specs.proofs.ColumnLemmas.{coordinates, point-from_coordinates, each_projected}
use Rattle.run_specs.proofs.StageLemmas.{holds_both, length-zeros}
use Rattle.run_specs.proofs.EndLemmas.{all_cut, wide_from, wide_both, wide_first}
use Rattle.run_specs.proofs.SampleLemmas.{near_rows_hold, in_below, out_below, number_before, sample_exact}
use Rattle.poly_specs.specs.Lists.{In, number_at}
use Rattle.poly_specs.specs.Fractions.{Fraction, IsFraction, SameFraction, DifferAtMost}
use Rattle.poly_specs.specs.Rows.{Point, Row, over, coordinate, coef_at, AllHold, AllWide, SamePoint, SameBut, SameOutside, SomeValuesHoldIn}
use Rattle.poly_specs.specs.Elimination.{divided, eliminated_each, columns_down}
use Rattle.run_specs.specs.Automaton.{Automaton, width, tolerance_at}
use Rattle.run_specs.specs.Logs.{IsPassing, cell_at}
use Rattle.run_specs.specs.Ends.{SomeSampleEnds}
use Rattle.run_specs.specs.Stages.{zeros, rows_after, row_of, at_most, at_least, is_exact, near_rows, seen_rows, seen_exactly, below, sample_rows, sample_stage}

-- ---- a tolerance of 0

no_width : (w v x : Fraction) → IsFraction w → w.num ≡ pos 0 → DifferAtMost w v x → SameFraction v x
no_width w v x hw z h =
    let a : w.num *ℤ (v.den *ℤ x.den) ≡ pos 0 *ℤ (v.den *ℤ x.den) = ap (λ n. n *ℤ (v.den *ℤ x.den)) z in
    let b : w.num *ℤ (x.den *ℤ v.den) ≡ pos 0 *ℤ (x.den *ℤ v.den) = ap (λ n. n *ℤ (x.den *ℤ v.den)) z in
    let up : (v.num *ℤ x.den -ℤ x.num *ℤ v.den) ≤ℤ pos 0 = at_most_zero (v.num *ℤ x.den -ℤ x.num *ℤ v.den) (omega (arith, ints, a, h.0)) in
    let down : (x.num *ℤ v.den -ℤ v.num *ℤ x.den) ≤ℤ pos 0 = at_most_zero (x.num *ℤ v.den -ℤ v.num *ℤ x.den) (omega (arith, ints, b, h.1)) in
    omega (arith, ints, up, down)
  where
    at_most_zero : (n : ℤ) → (n *ℤ w.den) ≤ℤ pos 0 → n ≤ℤ pos 0
    at_most_zero n g = le_cancel w.den n (pos 0) hw (omega (arith, ints, g))

record IsExactly (w : Fraction) (cell : Option Fraction) (v : Fraction) : Type 0 where
  seen : cell ≡ Some v
  no_tolerance : w.num ≡ pos 0

exactly : (w : Fraction) (cell : Option Fraction) → is_exact w cell ≡ true → (v : Fraction) × IsExactly w cell v
exactly w None e = absurd (let f : ⊥ = cc in f)
exactly w (Some v) e = let z : unsigned_abs w.num ≡ 0 = eqb-true _ _ e in (v, record { seen = refl; no_tolerance = omega (arith, ints) })

-- ---- the rows of observed values

record IsNearRow (m : ℕ) (r : Row) : Type 0 where
  wide : length r.coef ≡ m + 1
  free : coef_at m r ≡ pos 0

zero_at : (n j : ℕ) → number_at j (zeros n) ≡ pos 0
zero_at zero j = refl
zero_at (suc n) zero = refl
zero_at (suc n) (suc j) = zero_at n j

column_row : (m j : ℕ) (c b : ℤ) → j < m → IsNearRow m (divided (row_of (m + 1) j c b))
column_row m j c b h =
    let l : length (row_of (m + 1) j c b).coef ≡ m + 1 = length-set (zeros (m + 1)) j c ∙ length-zeros (m + 1) in
    let z : coef_at m (row_of (m + 1) j c b) ≡ pos 0 = get_or-set_other (zeros (m + 1)) j m c (pos 0) (λ e. absurd (omega (arith, e))) ∙ zero_at (m + 1) m in
    record {
      wide = length-divided (row_of (m + 1) j c b) ∙ l;
      free = divided_without m (row_of (m + 1) j c b) (omega (arith, l)) z;
    }

near_row : (m j : ℕ) (w : Fraction) (cell : Option Fraction) (r : Row) → j < m → In r (near_rows (m + 1) j w cell) → IsNearRow m r
near_row m j w None r h i = absurd i
near_row m j w (Some v) r h (inl e) = subst (IsNearRow m) (sym e) (column_row m j _ _ h)
near_row m j w (Some v) r h (inr (inl e)) = subst (IsNearRow m) (sym e) (column_row m j _ _ h)
near_row m j w (Some v) r h (inr (inr i)) = absurd i

pub sample_wide : (a : Automaton) (duration : Fraction) (cells : List (Option Fraction)) (state : List Row) → AllWide (width a + 1) state →
    AllWide (width a + 1) (sample_rows a duration cells state)
sample_wide a duration cells state wide =
    let m : ℕ = width a in
    wide_both (m + 1) state (at_most (m + 1) m duration ∷ at_least (m + 1) m duration ∷ flat_map (seen_rows a cells) (below m)) wide
    (wide_first (m + 1) (at_most (m + 1) m duration) (at_least (m + 1) m duration ∷ flat_map (seen_rows a cells) (below m)) (last duration.den (neg_ℤ duration.num))
    (wide_first (m + 1) (at_least (m + 1) m duration) (flat_map (seen_rows a cells) (below m)) (last (neg_ℤ duration.den) duration.num)
    (wide_from (m + 1) (flat_map (seen_rows a cells) (below m)) (λ r i.
    let y = out_flat_map (seen_rows a cells) r (below m) i in
    (near_row m y.0 (tolerance_at a y.0) (cell_at y.0 cells) r (out_below m y.0 y.1) y.2).wide))))
  where
    last : (c b : ℤ) → length (divided (row_of (width a + 1) (width a) c b)).coef ≡ width a + 1
    last c b = length-divided (row_of (width a + 1) (width a) c b) ∙ length-set (zeros (width a + 1)) (width a) c ∙ length-zeros (width a + 1)

-- ---- the columns

out_down : (n j : ℕ) → In j (columns_down 0 n) → j < n
out_down zero j i = absurd i
out_down (suc n) j (inl e) = omega (arith, e)
out_down (suc n) j (inr i) = let h = out_down n j i in omega (arith, h)

abbrev gone : Automaton → List (Option Fraction) → List ℕ
gone a cells = width a ∷ filter (seen_exactly a cells) (columns_down 0 (width a))

gone_within : (a : Automaton) (cells : List (Option Fraction)) → All (λ x. x < width a + 1) (gone a cells)
gone_within a cells = All-cons (λ x. x < width a + 1) (width a) (filter (seen_exactly a cells) (columns_down 0 (width a))) (omega arith)
    (all_from (filter (seen_exactly a cells) (columns_down 0 (width a))) (λ x i.
    let f = out_filter (seen_exactly a cells) x (columns_down 0 (width a)) i in let h = out_down (width a) x f.0 in omega (arith, h)))
  where
    all_from : (xs : List ℕ) → ((x : ℕ) → In x xs → x < width a + 1) → All (λ x. x < width a + 1) xs
    all_from xs f = All-from_recursion (λ x. x < width a + 1) xs (go xs f)
      where
        go : (xs : List ℕ) → ((x : ℕ) → In x xs → x < width a + 1) → AllByRecursion (λ x. x < width a + 1) xs
        go [] f = tt
        go (x ∷ xs) f = (f x (inl refl), go xs (λ y i. f y (inr i)))

-- ---- the last number

pub record IsSplit (m : ℕ) (ns v : List ℤ) (e : ℤ) : Type 0 where
  pub is : ns ≡ v ++ e ∷ []
  pub sized : length v ≡ m

pub split_last : (m : ℕ) (ns : List ℤ) → length ns ≡ m + 1 → (v : List ℤ) × (e : ℤ) × IsSplit m ns v e
split_last zero [] l = absurd (omega arith)
split_last zero (e ∷ []) l = ([], e, record { is = refl; sized = refl })
split_last zero (e ∷ n ∷ ns) l = absurd (omega arith)
split_last (suc m) [] l = absurd (omega arith)
split_last (suc m) (n ∷ ns) l =
    let (v, e, s) = split_last m ns (omega arith) in (n ∷ v, e, record { is = ap (λ z. n ∷ z) s.is; sized = ap suc s.sized })

-- points with a last number that agree before it
same_but_last : (m : ℕ) (c d e f : ℤ) (v w : List ℤ) → length v ≡ m → length w ≡ m → SamePoint (over c v) (over d w) →
    SameBut m (over c (v ++ e ∷ [])) (over d (w ++ f ∷ []))
same_but_last m c d e f v w lv lw same =
    let lve : length (v ++ e ∷ []) ≡ m + 1 = omega (arith, length-append v (e ∷ []), lv) in
    let lwf : length (w ++ f ∷ []) ≡ m + 1 = omega (arith, length-append w (f ∷ []), lw) in
    point-from_coordinates (over c (set (v ++ e ∷ []) m (pos 0))) (over d (set (w ++ f ∷ []) m (pos 0)))
    (length-set (v ++ e ∷ []) m (pos 0) ∙ lve ∙ sym lwf ∙ sym (length-set (w ++ f ∷ []) m (pos 0)))
    (λ j h. elim (cases_lt j m) [
      | inl lt ↦ (
          let a : number_at j (set (v ++ e ∷ []) m (pos 0)) ≡ number_at j v =
          get_or-set_other (v ++ e ∷ []) m j (pos 0) (pos 0) (λ g. absurd (omega (arith, g))) ∙ number_before v e j (omega (arith, lv)) in
          let b : number_at j (set (w ++ f ∷ []) m (pos 0)) ≡ number_at j w =
          get_or-set_other (w ++ f ∷ []) m j (pos 0) (pos 0) (λ g. absurd (omega (arith, g))) ∙ number_before w f j (omega (arith, lw)) in
          ap (λ z. z *ℤ d) a ∙ coordinates (over c v) (over d w) same j ∙ ap (λ z. z *ℤ c) (sym b))
      | inr ge ↦ (
          let k : j ≡ m = omega (arith, h, length-set (v ++ e ∷ []) m (pos 0), lve) in
          let a : number_at m (set (v ++ e ∷ []) m (pos 0)) ≡ pos 0 = get_or-set_same (v ++ e ∷ []) m (pos 0) (pos 0) (omega (arith, lve)) in
          let b : number_at m (set (w ++ f ∷ []) m (pos 0)) ≡ pos 0 = get_or-set_same (w ++ f ∷ []) m (pos 0) (pos 0) (omega (arith, lwf)) in
          subst (λ i. number_at i (set (v ++ e ∷ []) m (pos 0)) *ℤ d ≡ number_at i (set (w ++ f ∷ []) m (pos 0)) *ℤ c) (sym k)
          (ap (λ z. z *ℤ d) a ∙ omega (arith, ints) ∙ ap (λ z. z *ℤ c) (sym b)))
    ])

-- ---- the stage

record IsSampleCase (a : Automaton) (cells : List (Option Fraction)) : Type 0 where
  tolerances : (j : ℕ) → IsFraction (tolerance_at a j)
  values : (j : ℕ) (x : Fraction) → cell_at j cells ≡ Some x → IsFraction x
  sized : length cells ≡ width a

abbrev again : Automaton → List (Option Fraction) → List Row
again a cells = flat_map (seen_rows a cells) (filter (seen_exactly a cells) (below (width a)))

-- what the rows that are added again say of an exactly observed variable
exact_value : (a : Automaton) (cells : List (Option Fraction)) (p : Point) → IsSampleCase a cells → AllHold (again a cells) p → (j : ℕ) → j < width a → (e : seen_exactly a cells j ≡ true) →
    SameFraction (exactly (tolerance_at a j) (cell_at j cells) e).0 (coordinate j p)
exact_value a cells p is h j hj e =
    let x = exactly (tolerance_at a j) (cell_at j cells) e in
    let rows : AllHold (seen_rows a cells j) p = AllHold-from_in (seen_rows a cells j) p (λ r i.
    AllHold-at_in (again a cells) p h r (in_flat_map (seen_rows a cells) j r (filter (seen_exactly a cells) (below (width a)))
    (in_filter (seen_exactly a cells) j (below (width a)) (in_below (width a) j hj) e) i)) in
    no_width (tolerance_at a j) x.0 (coordinate j p) (is.tolerances j) x.1.no_tolerance
    ((near_rows_hold (width a + 1) j (tolerance_at a j) (cell_at j cells) p (omega arith) (is.tolerances j) (is.values j)).0 rows x.0 x.1.seen)

-- the values at which the rows hold are those of the given point
same_values : (a : Automaton) (cells : List (Option Fraction)) (d c e : ℤ) (ns v : List ℤ) → IsSampleCase a cells → pos 0 <ℤ d → pos 0 <ℤ c → length ns ≡ width a → length v ≡ width a →
    AllHold (again a cells) (over d (ns ++ zeros 1)) → IsPassing a cells (over c v) → SameOutside (gone a cells) (over d (ns ++ zeros 1)) (over c (v ++ e ∷ [])) →
    SamePoint (over d ns) (over c v)
same_values a cells d c e ns v is hd hc ln lv h passes same =
    point-from_coordinates (over d ns) (over c v) (ln ∙ sym lv) (λ j hj. go j (omega (arith, ln)) (seen_exactly a cells j) refl)
  where
    here : (j : ℕ) → j < width a → coordinate j (over d (ns ++ zeros 1)) ≡ coordinate j (over d ns)
    here j hj = λ i. record { num = number_before ns (pos 0) j (omega (arith, ln)) i; den = d }

    there : (j : ℕ) → j < width a → coordinate j (over c (v ++ e ∷ [])) ≡ coordinate j (over c v)
    there j hj = λ i. record { num = number_before v e j (omega (arith, lv)) i; den = c }

    go : (j : ℕ) → j < width a → (b : Bool) → seen_exactly a cells j ≡ b → SameFraction (coordinate j (over d ns)) (coordinate j (over c v))
    go j hj true b =
        let x = exactly (tolerance_at a j) (cell_at j cells) b in
        let hx : IsFraction x.0 = is.values j x.0 x.1.seen in
        let one = subst (λ y. SameFraction x.0 y) (here j hj) (exact_value a cells (over d (ns ++ zeros 1)) is h j hj b) in
        let two = no_width (tolerance_at a j) x.0 (coordinate j (over c v)) (is.tolerances j) x.1.no_tolerance (passes.near j x.0 x.1.seen) in
        same-trans (coordinate j (over d ns)) x.0 (coordinate j (over c v)) hd hx hc (sym one) two
    go j hj false b =
        let s = same j (λ i. elim i [
          | inl k ↦ absurd (omega (arith, k))
          | inr k ↦ (let f = (out_filter (seen_exactly a cells) j (columns_down 0 (width a)) k).1 in let g : ⊥ = cc in g)
        ]) in
        subst (λ y. SameFraction (coordinate j (over d ns)) y) (there j hj) (subst (λ y. SameFraction y (coordinate j (over c (v ++ e ∷ [])))) (here j hj) s)

-- and points with the given values agree outside the columns that are gone
agree_outside : (a : Automaton) (cells : List (Option Fraction)) (d c e : ℤ) (ns v : List ℤ) → length ns ≡ width a → length v ≡ width a →
    SamePoint (over d ns) (over c v) → SameOutside (gone a cells) (over d (ns ++ zeros 1)) (over c (v ++ e ∷ []))
agree_outside a cells d c e ns v ln lv same j n = elim (cases_lt j (width a)) [
  | inl lt ↦ ap (λ z. z *ℤ c) (number_before ns (pos 0) j (omega (arith, ln))) ∙ coordinates (over d ns) (over c v) same j
      ∙ ap (λ z. z *ℤ d) (sym (number_before v e j (omega (arith, lv))))
  | inr ge ↦ elim (cases_lt (width a) j) [
    | inl past ↦ (
        let x : number_at j (ns ++ zeros 1) ≡ pos 0 = get_or_past (ns ++ zeros 1) j (pos 0) (omega (arith, length-append ns (zeros 1), ln, length-zeros 1)) in
        let y : number_at j (v ++ e ∷ []) ≡ pos 0 = get_or_past (v ++ e ∷ []) j (pos 0) (omega (arith, length-append v (e ∷ []), lv)) in
        ap (λ z. z *ℤ c) x ∙ omega (arith, ints) ∙ ap (λ z. z *ℤ d) (sym y))
    | inr le ↦ absurd (n (inl (omega arith)))
  ]
]

again_holds : (a : Automaton) (cells : List (Option Fraction)) (d c e : ℤ) (ns v : List ℤ) → IsSampleCase a cells → pos 0 <ℤ d → pos 0 <ℤ c → length ns ≡ width a → length v ≡ width a →
    SamePoint (over d ns) (over c v) → IsPassing a cells (over c v) → AllHold (again a cells) (over d (ns ++ zeros 1))
again_holds a cells d c e ns v is hd hc ln lv same passes = AllHold-from_in (again a cells) (over d (ns ++ zeros 1)) (λ r i.
    let m : ℕ = width a in
    let y = out_flat_map (seen_rows a cells) r (filter (seen_exactly a cells) (below m)) i in
    let hj = out_below m y.0 (out_filter (seen_exactly a cells) y.0 (below m) y.1).0 in
    let row = near_row m y.0 (tolerance_at a y.0) (cell_at y.0 cells) r hj y.2 in
    let near = near_rows_hold (m + 1) y.0 (tolerance_at a y.0) (cell_at y.0 cells) (over c (v ++ e ∷ [])) (omega arith) (is.tolerances y.0) (is.values y.0) in
    let before = number_before v e y.0 (omega (arith, lv, hj)) in
    let there = near.1 (λ x s. subst (λ n. DifferAtMost (tolerance_at a y.0) x (record { num = n; den = c })) (sym before) (passes.near y.0 x s)) in
    Holds-same_but m r (over c (v ++ e ∷ [])) (over d (ns ++ zeros 1)) (omega (arith, row.wide)) (row.wide ∙ sym (omega (arith, length-append v (e ∷ []), lv)))
    row.free hc hd (same_but_last m c d e (pos 0) v ns lv ln (sym same)) (AllHold-at_in (seen_rows a cells y.0) (over c (v ++ e ∷ [])) there r y.2))

pub sample_ends : (a : Automaton) (duration : Fraction) (cells : List (Option Fraction)) (state : List Row) (d : ℤ) (ns : List ℤ) →
    ((j : ℕ) → IsFraction (tolerance_at a j)) → ((j : ℕ) (x : Fraction) → cell_at j cells ≡ Some x → IsFraction x) →
    length cells ≡ width a → AllWide (width a + 1) state → pos 0 <ℤ d → length ns ≡ width a →
    AllHold (rows_after (sample_stage a duration cells state)) (over d ns) ↔ SomeSampleEnds a duration cells state (over d ns)
unfolding rows_after
sample_ends a duration cells state d ns ht hv lc wide hd ln =
    let m : ℕ = width a in
    let rows : List Row = sample_rows a duration cells state in
    let left : List Row = eliminated_each (gone a cells) rows in
    let at : Point = over d (ns ++ zeros 1) in
    let is : IsSampleCase a cells = record { tolerances = ht; values = hv; sized = lc } in
    let lat : length (ns ++ zeros 1) ≡ m + 1 = omega (arith, length-append ns (zeros 1), ln, length-zeros 1) in
    let cuts = all_cut m 1 d ns (left ++ again a cells) ln in
    let both = holds_both left (again a cells) at in
    let proj = each_projected (m + 1) (gone a cells) rows at (gone_within a cells) (sample_wide a duration cells state wide) lat hd in (
      λ h. (let g = both.0 (cuts.0 h) in found is lat (proj.0 g.0) g.1),
      λ s. cuts.1 (both.1 (proj.1 (back lat s), again_holds a cells d s.0 s.2 ns s.1 is hd s.3.positive ln s.3.sized s.3.ends s.3.passes)),
    )
  where
    found : IsSampleCase a cells → length (ns ++ zeros 1) ≡ width a + 1 → SomeValuesHoldIn (gone a cells) (sample_rows a duration cells state) (over d (ns ++ zeros 1)) →
        AllHold (again a cells) (over d (ns ++ zeros 1)) → SomeSampleEnds a duration cells state (over d ns)
    found is lat (q, ext) h =
        let (v, e, s) = split_last (width a) q.num (ext.sized ∙ lat) in
        let holds : AllHold (sample_rows a duration cells state) (over q.den (v ++ e ∷ [])) = subst (λ z. AllHold (sample_rows a duration cells state) (over q.den z)) s.is ext.holds in
        let both = (sample_exact a duration cells state q.den v e ht hv lc s.sized).0 holds in
        let same : SameOutside (gone a cells) (over d (ns ++ zeros 1)) (over q.den (v ++ e ∷ [])) =
        subst (λ z. SameOutside (gone a cells) (over d (ns ++ zeros 1)) (over q.den z)) s.is ext.same in (
          q.den,
          v,
          e,
          record {
            positive = ext.positive;
            sized = s.sized;
            starts = both.0;
            lasts = both.1;
            passes = both.2;
            ends = same_values a cells d q.den e ns v is hd ext.positive ln s.sized h both.2 same;
          },
        )

    back : length (ns ++ zeros 1) ≡ width a + 1 → SomeSampleEnds a duration cells state (over d ns) →
        SomeValuesHoldIn (gone a cells) (sample_rows a duration cells state) (over d (ns ++ zeros 1))
    back lat (c, v, e, s) = (
      over c (v ++ e ∷ []),
      record {
        positive = s.positive;
        sized = omega (arith, length-append v (e ∷ []), s.sized, lat);
        same = agree_outside a cells d c e ns v ln s.sized s.ends;
        holds = (sample_exact a duration cells state c v e ht hv lc s.sized).1 (s.starts, s.lasts, s.passes);
      },
    )
