-- Plain elimination of any columns is projection.
use Rattle.std.proofs.Common.{◌≡◌, ◌≢◌, ◌↔◌, ◌⊎◌, inl, inr, ℕ, zero, suc, ◌<◌, List, [], ◌∷◌, length, set, refl, sym, ◌∙◌, ap, subst, arith, ℤ, pos, negsuc, ◌*ℤ◌, ◌<ℤ◌, unsigned_abs}
use Rattle.std.specs.Prelude.{All, int_lt, ◌==◌}
use Rattle.std.proofs.lemmas.Int.{ints}
use Rattle.std.proofs.lemmas.Bool.{cases_lt}
use Rattle.std.proofs.lemmas.List.{length-map, length-set, get_or-set_same, get_or-set_other}
use Rattle.std.proofs.lemmas.List.Elements.{All-head, All-tail}
use Rattle.std.proofs.lemmas.List.Elements.{All-from_recursion, All-weaker}
use Rattle.std.specs.List.{AllByRecursion}
use Rattle.poly_specs.proofs.IntLemmas.{products, product_positive}
use Rattle.poly_specs.proofs.LinearLemmas.{Holds-same_point}
use Rattle.poly_specs.proofs.ProjectionLemmas.{with_number, SameBut-with_number}
use Rattle.poly_specs.proofs.InclusionLemmas.{in_either, out_filter}
use Rattle.poly_specs.proofs.FractionLemmas.{same-trans}
use Rattle.poly_specs.proofs.EliminationLemmas.{width_in, length-same_but, length-combination, out_flat_map, out_map, project_sound, project_complete}
use Rattle.poly_specs.specs.Lists.{In, number_at, scaled}
use Rattle.poly_specs.specs.Fractions.{SameFraction}
use Rattle.poly_specs.specs.Elimination.{eliminated, eliminated_each, combination, lowers, uppers, free_of}
use Rattle.poly_specs.specs.Rows.{Point, Row, over, Holds, coordinate, coef_at, SamePoint, SameBut, SameOutside, AllHold, AllWide, IsExtensionIn, SomeValuesHoldIn}

-- ---- coordinates

pub number-scaled : (k : ℤ) (ns : List ℤ) (j : ℕ) → number_at j (scaled k ns) ≡ number_at j ns *ℤ k
number-scaled k [] j = omega (arith, ints)
number-scaled k (n ∷ ns) zero = refl
number-scaled k (n ∷ ns) (suc j) = number-scaled k ns j

-- equal points have equal coordinates
pub coordinates : (p q : Point) → SamePoint p q → (j : ℕ) → SameFraction (coordinate j p) (coordinate j q)
coordinates p q e j = sym (number-scaled q.den p.num j) ∙ ap (number_at j) e ∙ number-scaled p.den q.num j

-- and those that have are equal
pub point-from_coordinates : (p q : Point) → length p.num ≡ length q.num → ((j : ℕ) → j < length p.num → SameFraction (coordinate j p) (coordinate j q)) → SamePoint p q
point-from_coordinates p q l f = go p.num q.num l f
  where
    go : (ps qs : List ℤ) → length ps ≡ length qs → ((j : ℕ) → j < length ps → number_at j ps *ℤ q.den ≡ number_at j qs *ℤ p.den) → scaled q.den ps ≡ scaled p.den qs
    go [] [] l f = refl
    go [] (n ∷ qs) l f = absurd (omega arith)
    go (m ∷ ps) [] l f = absurd (omega arith)
    go (m ∷ ps) (n ∷ qs) l f =
        let h : m *ℤ q.den ≡ n *ℤ p.den = f 0 (omega arith) in
        let t = go ps qs (omega arith) (λ j lt. f (suc j) (omega arith)) in cc

-- points that agree outside x have equal coordinates there
pub same_other : (x : ℕ) (p q : Point) → SameBut x p q → (j : ℕ) → j ≢ x → SameFraction (coordinate j p) (coordinate j q)
same_other x p q e j n =
    let c = coordinates (over p.den (set p.num x (pos 0))) (over q.den (set q.num x (pos 0))) e j in
    let a : number_at j (set p.num x (pos 0)) ≡ number_at j p.num = get_or-set_other p.num x j (pos 0) (pos 0) n in
    let b : number_at j (set q.num x (pos 0)) ≡ number_at j q.num = get_or-set_other q.num x j (pos 0) (pos 0) n in
    ap (λ z. z *ℤ q.den) (sym a) ∙ c ∙ ap (λ z. z *ℤ p.den) b

-- ---- widths

pub eliminated_wide : (w x : ℕ) (rows : List Row) → AllWide w rows → AllWide w (eliminated x rows)
unfolding eliminated
eliminated_wide w x rows wide = wide_from (eliminated x rows) (λ r i. elim (in_either r (free_of x rows) _ i) [
  | inl j ↦ width_in w rows wide r (out_filter (λ r. unsigned_abs (coef_at x r) == 0) r rows j).0
  | inr j ↦ (
      let y = out_flat_map _ r (lowers x rows) j in
      let z = out_map (combination x y.0) r (uppers x rows) y.2 in
      let l = out_filter (λ r. int_lt (coef_at x r) (pos 0)) y.0 rows y.1 in
      let u = out_filter (λ r. int_lt (pos 0) (coef_at x r)) z.0 rows z.1 in
      let wl = width_in w rows wide y.0 l.0 in
      let wu = width_in w rows wide z.0 u.0 in
      ap (λ t. length t.coef) z.2 ∙ length-combination x y.0 z.0 (wl ∙ sym wu) ∙ wl)
])
  where
    wide_from : (rows : List Row) → ((r : Row) → In r rows → length r.coef ≡ w) → AllWide w rows
    wide_from rows f = All-from_recursion (λ r. length r.coef ≡ w) rows (go rows f)
      where
        go : (rows : List Row) → ((r : Row) → In r rows → length r.coef ≡ w) → AllByRecursion (λ r. length r.coef ≡ w) rows
        go [] f = tt
        go (r ∷ rows) f = (f r (inl refl), go rows (λ s i. f s (inr i)))

-- ---- projection

each_complete : (w : ℕ) (columns : List ℕ) (rows : List Row) (p : Point) → All (λ x. x < w) columns → AllWide w rows → length p.num ≡ w →
    pos 0 <ℤ p.den → AllHold (eliminated_each columns rows) p → SomeValuesHoldIn columns rows p
each_complete w [] rows p within wide lp hp all = (p, record { positive = hp; sized = refl; same = λ j n. refl; holds = all })
each_complete w (x ∷ columns) rows p within wide lp hp all =
    let (m, s) = each_complete w columns (eliminated x rows) p (All-tail (λ x. x < w) x columns within) (eliminated_wide w x rows wide) lp hp all in
    let lm = s.sized in
    let (q, hq, same, holds) = project_complete x w rows m (All-head (λ x. x < w) x columns within) (width_in w rows wide) (lm ∙ lp) s.positive s.holds in (
      q,
      record {
        positive = hq;
        sized = sym (length-same_but x m q same) ∙ lm;
        same = λ j n. same-trans (coordinate j p) (coordinate j m) (coordinate j q) hp s.positive hq
            (s.same j (λ i. n (inr i))) (same_other x m q same j (λ e. n (inl e)));
        holds = holds;
      },
    )

pub abs_is : (d : ℤ) → pos 0 <ℤ d → pos (unsigned_abs d) ≡ d
abs_is (pos d) h = refl
abs_is (negsuc d) h = absurd (omega (arith, ints))

-- q with the number of p in column x
abbrev taken : ℕ → Point → Point → Point
taken x p q = with_number (unsigned_abs p.den) q x (number_at x p.num *ℤ q.den)

taken_is : (x : ℕ) (columns : List ℕ) (p q : Point) → pos 0 <ℤ p.den → pos 0 <ℤ q.den → x < length q.num → length q.num ≡ length p.num →
    SameOutside (x ∷ columns) p q → (pos 0 <ℤ (taken x p q).den) × (length (taken x p q).num ≡ length p.num) × SameOutside columns p (taken x p q)
unfolding with_number
taken_is x columns p q hp hq hx l same =
    let k = abs_is p.den hp in
    let den : pos (unsigned_abs p.den) *ℤ q.den ≡ p.den *ℤ q.den = ap (λ z. z *ℤ q.den) k in
    let ld = length-set (scaled (pos (unsigned_abs p.den)) q.num) x (number_at x p.num *ℤ q.den) in
    let lm = length-map q.num (λ n. n *ℤ pos (unsigned_abs p.den)) in (
      subst (λ z. pos 0 <ℤ z) (sym den) (product_positive p.den q.den hp hq),
      omega (arith, ld, lm, l),
      λ j n. elim (same_or_not j x) [
        | inl e ↦ subst (λ i. SameFraction (coordinate i p) (coordinate i (taken x p q))) (sym e) (here den)
        | inr other ↦ there j n other
      ],
    )
  where
    same_or_not : (i j : ℕ) → (i ≡ j) ⊎ (i ≢ j)
    same_or_not i j = elim (cases_lt i j) [
      | inl lt ↦ inr (λ e. absurd (omega (arith, e)))
      | inr ge ↦ elim (cases_lt j i) [ inl lt ↦ inr (λ e. absurd (omega (arith, e))) | inr le ↦ inl (omega arith) ]
    ]

    here : pos (unsigned_abs p.den) *ℤ q.den ≡ p.den *ℤ q.den → SameFraction (coordinate x p) (coordinate x (taken x p q))
    here den =
        let at : number_at x (set (scaled (pos (unsigned_abs p.den)) q.num) x (number_at x p.num *ℤ q.den)) ≡ number_at x p.num *ℤ q.den =
        get_or-set_same (scaled (pos (unsigned_abs p.den)) q.num) x (number_at x p.num *ℤ q.den) (pos 0) (omega (arith, length-map q.num (λ n. n *ℤ pos (unsigned_abs p.den)))) in
        let e : number_at x p.num *ℤ (p.den *ℤ q.den) ≡ (number_at x p.num *ℤ q.den) *ℤ p.den = omega (arith, products) in
        ap (λ z. number_at x p.num *ℤ z) den ∙ e ∙ ap (λ z. z *ℤ p.den) (sym at)

    there : (j : ℕ) → (In j columns → ⊥) → j ≢ x → SameFraction (coordinate j p) (coordinate j (taken x p q))
    there j n other =
        same-trans (coordinate j p) (coordinate j q) (coordinate j (taken x p q)) hp hq
        (subst (λ z. pos 0 <ℤ z) (sym (ap (λ z. z *ℤ q.den) (abs_is p.den hp))) (product_positive p.den q.den hp hq))
        (same j (λ i. elim i [ inl e ↦ other e | inr k ↦ n k ]))
        (same_other x q (with_number (unsigned_abs p.den) q x (number_at x p.num *ℤ q.den)) (SameBut-with_number (unsigned_abs p.den) q x (number_at x p.num *ℤ q.den)) j other)

same_but_back : (x : ℕ) (p q : Point) → SameBut x q (taken x p q)
same_but_back x p q = SameBut-with_number (unsigned_abs p.den) q x (number_at x p.num *ℤ q.den)

AllHold-same : (rows : List Row) (p q : Point) → pos 0 <ℤ p.den → pos 0 <ℤ q.den → SamePoint p q → AllHold rows p → AllHold rows q
AllHold-same rows p q hp hq e h = All-weaker (λ r. Holds r p) (λ r. Holds r q) (λ r. Holds-same_point r p q hp hq e) rows h

each_sound : (w : ℕ) (columns : List ℕ) (rows : List Row) (p q : Point) → All (λ x. x < w) columns → AllWide w rows → length p.num ≡ w →
    pos 0 <ℤ p.den → IsExtensionIn columns rows p q → AllHold (eliminated_each columns rows) p
each_sound w [] rows p q within wide lp hp s =
    AllHold-same rows q p s.positive hp (point-from_coordinates q p s.sized (λ j h. sym (s.same j (λ i. i)))) s.holds
each_sound w (x ∷ columns) rows p q within wide lp hp s =
    let hx = All-head (λ x. x < w) x columns within in
    let lq = s.sized in
    let t = taken_is x columns p q hp s.positive (omega arith) lq s.same in
    let next = project_sound x w rows (taken x p q) hx (width_in w rows wide) (t.1 ∙ lp) t.0
    (q, s.positive, sym (same_but_back x p q), s.holds) in
    each_sound w columns (eliminated x rows) p (taken x p q) (All-tail (λ x. x < w) x columns within) (eliminated_wide w x rows wide) lp hp
    (record { positive = t.0; sized = t.1; same = t.2; holds = next })

pub each_projected : (w : ℕ) (columns : List ℕ) (rows : List Row) (p : Point) → All (λ x. x < w) columns → AllWide w rows → length p.num ≡ w →
    pos 0 <ℤ p.den → AllHold (eliminated_each columns rows) p ↔ SomeValuesHoldIn columns rows p
each_projected w columns rows p within wide lp hp = (
  λ h. each_complete w columns rows p within wide lp hp h,
  λ s. each_sound w columns rows p s.0 within wide lp hp s.1,
)
