-- The values that a system leaves for the column after some fixed ones are those at which rows of one variable hold, so they have a pick.
use Rattle.std.proofs.Common.{◌≡◌, ◌≢◌, ◌↔◌, inl, inr, ℕ, suc, ◌+◌, ◌<◌, List, [], ◌∷◌, length, length-take, map, take, get_or, refl, sym, ◌∙◌, ap, subst, arith, ℤ, pos, ◌+ℤ◌, ◌*ℤ◌, ◌<ℤ◌, unsigned_abs}
use Rattle.std.specs.Prelude.{All}
use Rattle.std.specs.List.{AllByRecursion}
use Rattle.std.proofs.lemmas.Int.{ints}
use Rattle.std.proofs.lemmas.Bool.{cases_lt}
use Rattle.std.proofs.lemmas.List.{length-map, length-set, get_or-set_same, get_or-take}
use Rattle.std.proofs.lemmas.List.Elements.{All-from_recursion, recursion_from_All}
use Rattle.poly_specs.proofs.IntLemmas.{products}
use Rattle.poly_specs.proofs.ProjectionLemmas.{with_number, value-rest, rest, SameBut-with_number}
use Rattle.poly_specs.proofs.FractionLemmas.{same-trans}
use Rattle.poly_specs.proofs.EliminationLemmas.{den-with_number}
use Rattle.poly_specs.proofs.ColumnLemmas.{point-from_coordinates, coordinates, same_other, eliminated_wide, abs_is}
use Rattle.poly_specs.proofs.DownLemmas.{columns_projected}
use Rattle.poly_specs.proofs.PickLemmas.{member}
use Rattle.poly_specs.proofs.SetLemmas.{Within, member_within, interval_same, pick_same}
use Rattle.poly_specs.proofs.LineLemmas.{Line, value_at, MeetsAll, meets_all_interval, line_pick}
use Rattle.poly_specs.specs.Lists.{number_at, scaled}
use Rattle.poly_specs.specs.Fractions.{Fraction, IsFraction, SameFraction, zero_fraction}
use Rattle.poly_specs.specs.Rows.{Point, Row, row_value, Allows, Holds, over, coordinate, coef_at, AllHold, AllWide, SameBefore, SomeValuesHold}
use Rattle.poly_specs.specs.Elimination.{eliminated, eliminated_each, columns_down}
use Rattle.poly_specs.specs.Bounds.{IsPoint}
use Rattle.poly_specs.specs.Sets.{HasMember}
use Rattle.poly_specs.specs.Picks.{IsPick}

-- ---- projection, of a system of n columns

pub columns_at : (n from m : ℕ) (rows : List Row) (p : Point) → from + m ≡ n → AllWide n rows → length p.num ≡ n → pos 0 <ℤ p.den →
    AllHold (eliminated_each (columns_down from m) rows) p ↔ SomeValuesHold n from rows p
columns_at n from m rows p e wide lp hp =
    subst (λ w. AllHold (eliminated_each (columns_down from m) rows) p ↔ SomeValuesHold w from rows p) e
    (columns_projected from m rows p (subst (λ w. AllWide w rows) (sym e) wide) (lp ∙ sym e) hp)

each_wide : (w : ℕ) (columns : List ℕ) (rows : List Row) → AllWide w rows → AllWide w (eliminated_each columns rows)
each_wide w [] rows wide = wide
each_wide w (x ∷ columns) rows wide = each_wide w columns (eliminated x rows) (eliminated_wide w x rows wide)

-- ---- points that agree before a column have the same coordinates there

before_coordinates : (c j : ℕ) (p q : Point) → SameBefore c p q → j < c → SameFraction (coordinate j p) (coordinate j q)
before_coordinates c j p q e h =
    let s = coordinates (over p.den (take c p.num)) (over q.den (take c q.num)) e j in
    let a : number_at j (take c p.num) ≡ number_at j p.num = get_or-take c p.num j (pos 0) h in
    let b : number_at j (take c q.num) ≡ number_at j q.num = get_or-take c q.num j (pos 0) h in
    ap (λ z. z *ℤ q.den) (sym a) ∙ s ∙ ap (λ z. z *ℤ p.den) b

before_from_coordinates : (c : ℕ) (p q : Point) → length p.num ≡ length q.num → ((j : ℕ) → j < c → SameFraction (coordinate j p) (coordinate j q)) → SameBefore c p q
before_from_coordinates c p q l f =
    point-from_coordinates (over p.den (take c p.num)) (over q.den (take c q.num))
    (omega (arith, length-take c p.num, length-take c q.num))
    (λ j h. let lt : j < c = omega (arith, length-take c p.num) in
    let a : number_at j (take c p.num) ≡ number_at j p.num = get_or-take c p.num j (pos 0) lt in
    let b : number_at j (take c q.num) ≡ number_at j q.num = get_or-take c q.num j (pos 0) lt in
    ap (λ z. z *ℤ q.den) a ∙ f j lt ∙ ap (λ z. z *ℤ p.den) (sym b))

-- ---- q with v in column x

abbrev trial : ℕ → Point → Fraction → Point
trial x q v = with_number (unsigned_abs v.den) q x (v.num *ℤ q.den)

abs_positive : (d : ℤ) → pos 0 <ℤ d → 0 < unsigned_abs d
abs_positive d h = let e = abs_is d h in omega (arith, ints, e)

trial-den : (x : ℕ) (q : Point) (v : Fraction) → pos 0 <ℤ q.den → IsFraction v → pos 0 <ℤ (trial x q v).den
trial-den x q v hq hv = den-with_number (unsigned_abs v.den) q x (v.num *ℤ q.den) (abs_positive v.den hv) hq

trial-length : (x : ℕ) (q : Point) (v : Fraction) → length (trial x q v).num ≡ length q.num
unfolding with_number
trial-length x q v =
    length-set (scaled (pos (unsigned_abs v.den)) q.num) x (v.num *ℤ q.den) ∙ length-map q.num (λ n. n *ℤ pos (unsigned_abs v.den))

trial-other : (x j : ℕ) (q : Point) (v : Fraction) → j ≢ x → SameFraction (coordinate j q) (coordinate j (trial x q v))
trial-other x j q v other =
    same_other x q (trial x q v) (SameBut-with_number (unsigned_abs v.den) q x (v.num *ℤ q.den)) j other

trial-here : (x : ℕ) (q : Point) (v : Fraction) → x < length q.num → IsFraction v → SameFraction (coordinate x (trial x q v)) v
unfolding with_number
trial-here x q v hx hv =
    let at : number_at x (trial x q v).num ≡ v.num *ℤ q.den =
    get_or-set_same (scaled (pos (unsigned_abs v.den)) q.num) x (v.num *ℤ q.den) (pos 0) (omega (arith, length-map q.num (λ n. n *ℤ pos (unsigned_abs v.den)))) in
    let den : pos (unsigned_abs v.den) *ℤ q.den ≡ v.den *ℤ q.den = ap (λ z. z *ℤ q.den) (abs_is v.den hv) in
    let e : (v.num *ℤ q.den) *ℤ v.den ≡ v.num *ℤ (v.den *ℤ q.den) = omega (arith, products) in
    ap (λ z. z *ℤ v.den) at ∙ e ∙ ap (λ z. v.num *ℤ z) (sym den)

-- a row at this point, as a row of one variable
abbrev line_at : ℕ → Point → Row → Line
line_at x q r = record { lead = coef_at x r *ℤ q.den; cst = rest x r q; strict = r.strict }

line-value : (x : ℕ) (q : Point) (v : Fraction) (r : Row) → x < length r.coef → x < length q.num → IsFraction v →
    row_value r (trial x q v) ≡ value_at (line_at x q r) v
line-value x q v r hr hq hv =
    let a = value-rest (unsigned_abs v.den) r q x (v.num *ℤ q.den) hr hq in
    let b : pos (unsigned_abs v.den) *ℤ rest x r q ≡ v.den *ℤ rest x r q = ap (λ z. z *ℤ rest x r q) (abs_is v.den hv) in
    a ∙ ap (λ z. z +ℤ coef_at x r *ℤ (v.num *ℤ q.den)) b ∙ reordered (coef_at x r) v.num q.den v.den (rest x r q)
  where
    reordered : (c n d k t : ℤ) → k *ℤ t +ℤ c *ℤ (n *ℤ d) ≡ (c *ℤ d) *ℤ n +ℤ t *ℤ k
    reordered c n d k t = omega (arith, products)

abbrev lines_at : ℕ → Point → List Row → List Line
lines_at x q rows = map (line_at x q) rows

to_lines : (w x : ℕ) (q : Point) (v : Fraction) (rows : List Row) → x < w → x < length q.num → IsFraction v →
    AllByRecursion (λ r. length r.coef ≡ w) rows → AllByRecursion (λ r. Holds r (trial x q v)) rows → MeetsAll (lines_at x q rows) v
to_lines w x q v [] hx hq hv wide h = tt
to_lines w x q v (r ∷ rows) hx hq hv wide h = (
  (let wr = wide.0 in subst (Allows r.strict) (line-value x q v r (omega arith) hq hv) h.0),
  to_lines w x q v rows hx hq hv wide.1 h.1,
)

from_lines : (w x : ℕ) (q : Point) (v : Fraction) (rows : List Row) → x < w → x < length q.num → IsFraction v →
    AllByRecursion (λ r. length r.coef ≡ w) rows → MeetsAll (lines_at x q rows) v → AllByRecursion (λ r. Holds r (trial x q v)) rows
from_lines w x q v [] hx hq hv wide m = tt
from_lines w x q v (r ∷ rows) hx hq hv wide m = (
  (let wr = wide.0 in subst (Allows r.strict) (sym (line-value x q v r (omega arith) hq hv)) m.0),
  from_lines w x q v rows hx hq hv wide.1 m.1,
)

-- ---- the values left for the next column

-- q is a point of the system that has the given numbers in the first columns
pub record Starts (n : ℕ) (rows : List Row) (given : List Fraction) (q : Point) : Type 0 where
  pub point : IsPoint n rows q
  pub agrees : (j : ℕ) → j < length given → SameFraction (coordinate j q) (get_or given j zero_fraction)

-- some such point has v in the next column
abbrev pub IsLeft : ℕ → List Row → List Fraction → Fraction → Type 0
IsLeft n rows given v = (q : Point) × Starts n rows given q × SameFraction (coordinate (length given) q) v

module _ (n m : ℕ) (rows : List Row) (given : List Fraction) (q : Point) (wide : AllWide n rows) (fractions : All IsFraction given)
    (sized : suc (length given) + m ≡ n) (start : Starts n rows given q) where
  abbrev x : ℕ
  x = length given

  abbrev level : List Row
  level = eliminated_each (columns_down (suc x) m) rows

  abbrev lines : List Line
  lines = lines_at x q level

  wide_level : AllByRecursion (λ r. length r.coef ≡ n) level
  wide_level = recursion_from_All (λ r. length r.coef ≡ n) level (each_wide n (columns_down (suc x) m) rows wide)

  in_point : x < length q.num
  in_point = omega (arith, start.point.sized)

  is_given : (j : ℕ) → j < x → IsFraction (get_or given j zero_fraction)
  is_given j h = fractions j zero_fraction h

  at_trial : (v : Fraction) → IsFraction v → AllHold level (trial x q v) ↔ SomeValuesHold n (suc x) rows (trial x q v)
  at_trial v hv = columns_at n (suc x) m rows (trial x q v) sized wide (trial-length x q v ∙ start.point.sized) (trial-den x q v start.point.positive hv)

  trial_given : (v : Fraction) → IsFraction v → (j : ℕ) → j < x → SameFraction (coordinate j (trial x q v)) (get_or given j zero_fraction)
  trial_given v hv j h =
      let other : j ≢ x = λ e. absurd (omega (arith, e)) in
      same-trans (coordinate j (trial x q v)) (coordinate j q) (get_or given j zero_fraction)
      (trial-den x q v start.point.positive hv) start.point.positive (is_given j h) (sym (trial-other x j q v other)) (start.agrees j h)

  to_line : Within (IsLeft n rows given) (MeetsAll lines)
  to_line v hv (s, st, e) =
      let t : Point = trial x q v in
      let ht = trial-den x q v start.point.positive hv in
      let hs = st.point.positive in
      let same : SameBefore (suc x) t s = before_from_coordinates (suc x) t s (trial-length x q v ∙ start.point.sized ∙ sym st.point.sized) (λ j h. elim (cases_lt j x) [
        | inl lt ↦ same-trans (coordinate j t) (get_or given j zero_fraction) (coordinate j s) ht (is_given j lt) hs (trial_given v hv j lt) (sym (st.agrees j lt))
        | inr ge ↦ (let i : x ≡ j = omega arith in subst (λ k. SameFraction (coordinate k t) (coordinate k s)) i
            (same-trans (coordinate x t) v (coordinate x s) ht hv hs (trial-here x q v in_point hv) (sym e)))
      ]) in
      let holds = (at_trial v hv).1 (s, record { positive = hs; sized = st.point.sized; same = same; holds = st.point.holds }) in
      to_lines n x q v level (omega (arith, sized)) in_point hv wide_level (recursion_from_All (λ r. Holds r t) level holds)

  from_line : Within (MeetsAll lines) (IsLeft n rows given)
  from_line v hv meets =
      let t : Point = trial x q v in
      let ht = trial-den x q v start.point.positive hv in
      let holds = All-from_recursion (λ r. Holds r t) level (from_lines n x q v level (omega (arith, sized)) in_point hv wide_level meets) in
      let (s, ext) = (at_trial v hv).0 holds in (
        s,
        record {
          point = record { positive = ext.positive; sized = ext.sized; holds = ext.holds };
          agrees = λ j h. same-trans (coordinate j s) (coordinate j t) (get_or given j zero_fraction) ext.positive ht (is_given j h)
              (sym (before_coordinates (suc x) j t s ext.same (omega arith))) (trial_given v hv j h);
        },
        same-trans (coordinate x s) (coordinate x t) v ext.positive ht hv (sym (before_coordinates (suc x) x t s ext.same (omega arith))) (trial-here x q v in_point hv),
      )

  some_left : HasMember (IsLeft n rows given)
  some_left = (coordinate x q, start.point.positive, (q, start, refl))

  -- they have a pick, which is one of them
  pub left_pick : (v : Fraction) × IsPick (IsLeft n rows given) v × IsLeft n rows given v
  left_pick =
      let r = line_pick lines (member_within (IsLeft n rows given) (MeetsAll lines) to_line some_left) in
      let pick = pick_same (MeetsAll lines) (IsLeft n rows given) from_line to_line r.0 r.1 in
      (r.0, pick, member r.0 (interval_same (MeetsAll lines) (IsLeft n rows given) from_line to_line (meets_all_interval lines)) pick)
