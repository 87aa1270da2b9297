-- The numbers between the ends that a level's rows set are the values that the whole system leaves for the next column.
use Rattle.std.proofs.Common.{◌≡◌, ◌≢◌, ◌↔◌, inl, inr, ℕ, zero, suc, ◌+◌, ◌-◌, ◌<◌, ◌≤◌, List, [], ◌∷◌, ◌++◌, length, length-append, length-take, take, replicate, get_or, refl, sym, ◌∙◌, ap, subst, arith, ℤ, pos, negsuc, ◌+ℤ◌, ◌*ℤ◌, ◌<ℤ◌, unsigned_abs}
use Rattle.std.specs.Prelude.{All}
use Rattle.std.specs.Int.{◌∣◌}
use Rattle.std.proofs.Math.ListN.{get_or-append}
use Rattle.std.proofs.lemmas.Int.{ints}
use Rattle.std.proofs.lemmas.Bool.{cases_lt}
use Rattle.std.proofs.lemmas.List.{length-map, length-replicate, get_or-take, length-set, get_or-set_same, get_or-map}
use Rattle.std.proofs.lemmas.List.Elements.{All-from_recursion, recursion_from_All}
use Rattle.poly_specs.proofs.ColumnLemmas.{same_other, abs_is, coordinates, point-from_coordinates}
use Rattle.poly_specs.proofs.EliminationLemmas.{den-with_number}
use Rattle.poly_specs.proofs.FractionLemmas.{same-trans}
use Rattle.poly_specs.proofs.IntLemmas.{products}
use Rattle.poly_specs.proofs.LinearLemmas.{scaled_by, cancelled_by}
use Rattle.poly_specs.proofs.LineLemmas.{Line, meets_all_interval}
use Rattle.poly_specs.proofs.LowestLemmas.{size-positive}
use Rattle.poly_specs.proofs.PickLemmas.{member}
use Rattle.poly_specs.proofs.SetLemmas.{Within, interval_same}
use Rattle.poly_specs.specs.Picks.{IsPick}
use Rattle.poly_specs.specs.Sets.{IsInterval, HasMember}
use Rattle.poly_specs.proofs.ProjectionLemmas.{with_number, value-rest, rest, SameBut-with_number}
use Rattle.poly_specs.specs.Arithmetic.{lowest}
use Rattle.poly_specs.specs.Denominators.{common_den, common_nums, num_over}
use Rattle.poly_specs.specs.Fractions.{Fraction, IsFraction, SameFraction, zero_fraction}
use Rattle.poly_specs.specs.Lists.{number_at, scaled}
use Rattle.poly_specs.specs.Rows.{Point, Row, row_value, Allows, over, coordinate, coef_at, AllHold, SameBefore, SomeValuesHold}
use Rattle.poly_specs.specs.Systems.{System, IsLevel}
use Rattle.frac128.proofs.CommonLemmas.{common_positive, each_divides}
use Rattle.column_pick.proofs.CommonLemmas.{over_common}
use Rattle.column_pick.specs.Fixed.{padded, fixed_point}
use Rattle.column_pick.specs.Nexts.{HasFirst, IsNext}
use Rattle.column_pick.specs.Ranges.{MeetsRow, IsWithin, AreWithin}

-- ---- padded numbers

after_itself : (ns : List ℤ) (k : ℕ) → get_or (ns ++ replicate k (pos 0)) (length ns) (pos 0) ≡ pos 0
after_itself [] zero = refl
after_itself [] (suc k) = refl
after_itself (n ∷ ns) k = after_itself ns k

length-padded : (n : ℕ) (ns : List ℤ) → length ns ≤ n → length (padded n ns) ≡ n
length-padded n ns h = omega (arith, length-append ns (replicate (n - length ns) (pos 0)), length-replicate (n - length ns) (pos 0))

-- ---- points that agree before a column have the same coordinates there

pub before_coordinates : (c j : ℕ) (p q : Point) → SameBefore c p q → j < c → SameFraction (coordinate j p) (coordinate j q)
before_coordinates c j p q e h =
    let s = coordinates (over p.den (take c p.num)) (over q.den (take c q.num)) e j in
    let a : number_at j (take c p.num) ≡ number_at j p.num = get_or-take c p.num j (pos 0) h in
    let b : number_at j (take c q.num) ≡ number_at j q.num = get_or-take c q.num j (pos 0) h in
    ap (λ z. z *ℤ q.den) (sym a) ∙ s ∙ ap (λ z. z *ℤ p.den) b

before_from_coordinates : (c : ℕ) (p q : Point) → length p.num ≡ length q.num → ((j : ℕ) → j < c → SameFraction (coordinate j p) (coordinate j q)) → SameBefore c p q
before_from_coordinates c p q l f =
    point-from_coordinates (over p.den (take c p.num)) (over q.den (take c q.num))
    (omega (arith, length-take c p.num, length-take c q.num))
    (λ j h. let lt : j < c = omega (arith, length-take c p.num) in
    let a : number_at j (take c p.num) ≡ number_at j p.num = get_or-take c p.num j (pos 0) lt in
    let b : number_at j (take c q.num) ≡ number_at j q.num = get_or-take c q.num j (pos 0) lt in
    ap (λ z. z *ℤ q.den) a ∙ f j lt ∙ ap (λ z. z *ℤ p.den) (sym b))

-- ---- the point q with v in column x

abbrev trial : ℕ → Point → Fraction → Point
trial x q v = with_number (unsigned_abs v.den) q x (v.num *ℤ q.den)

trial-den : (x : ℕ) (q : Point) (v : Fraction) → pos 0 <ℤ q.den → IsFraction v → pos 0 <ℤ (trial x q v).den
trial-den x q v hq hv = den-with_number (unsigned_abs v.den) q x (v.num *ℤ q.den) (size-positive v.den hv) hq

trial-length : (x : ℕ) (q : Point) (v : Fraction) → length (trial x q v).num ≡ length q.num
unfolding with_number
trial-length x q v = length-set (scaled (pos (unsigned_abs v.den)) q.num) x (v.num *ℤ q.den) ∙ length-map q.num (λ n. n *ℤ pos (unsigned_abs v.den))

trial-other : (x j : ℕ) (q : Point) (v : Fraction) → j ≢ x → SameFraction (coordinate j q) (coordinate j (trial x q v))
trial-other x j q v other = same_other x q (trial x q v) (SameBut-with_number (unsigned_abs v.den) q x (v.num *ℤ q.den)) j other

trial-here : (x : ℕ) (q : Point) (v : Fraction) → x < length q.num → IsFraction v → SameFraction (coordinate x (trial x q v)) v
unfolding with_number
trial-here x q v hx hv =
    let at : number_at x (trial x q v).num ≡ v.num *ℤ q.den =
    get_or-set_same (scaled (pos (unsigned_abs v.den)) q.num) x (v.num *ℤ q.den) (pos 0) (omega (arith, length-map q.num (λ n. n *ℤ pos (unsigned_abs v.den)))) in
    let den : pos (unsigned_abs v.den) *ℤ q.den ≡ v.den *ℤ q.den = ap (λ z. z *ℤ q.den) (abs_is v.den hv) in
    let e : (v.num *ℤ q.den) *ℤ v.den ≡ v.num *ℤ (v.den *ℤ q.den) = omega (arith, products) in
    ap (λ z. z *ℤ v.den) at ∙ e ∙ ap (λ z. v.num *ℤ z) (sym den)

-- a row there, where q has 0 in the column
trial-value : (x : ℕ) (q : Point) (v : Fraction) (r : Row) → x < length r.coef → x < length q.num → number_at x q.num ≡ pos 0 → IsFraction v →
    row_value r (trial x q v) ≡ (coef_at x r *ℤ q.den) *ℤ v.num +ℤ row_value r q *ℤ v.den
trial-value x q v r hr hq free hv =
    let a = value-rest (unsigned_abs v.den) r q x (v.num *ℤ q.den) hr hq in
    let none : coef_at x r *ℤ number_at x q.num ≡ pos 0 = ap (λ z. coef_at x r *ℤ z) free ∙ omega (arith, ints) in
    let b : rest x r q ≡ row_value r q = omega (arith, ints, none) in
    let c : pos (unsigned_abs v.den) *ℤ rest x r q ≡ v.den *ℤ row_value r q = ap (λ z. z *ℤ rest x r q) (abs_is v.den hv) ∙ ap (λ z. v.den *ℤ z) b in
    a ∙ ap (λ z. z +ℤ coef_at x r *ℤ (v.num *ℤ q.den)) c ∙ reordered (coef_at x r) v.num q.den v.den (row_value r q)
  where
    reordered : (c n d k t : ℤ) → k *ℤ t +ℤ c *ℤ (n *ℤ d) ≡ (c *ℤ d) *ℤ n +ℤ t *ℤ k
    reordered c n d k t = omega (arith, products)

-- a row that sets no end holds for each value, if it does for one
meets_free : (x : ℕ) (q : Point) (r : Row) (z v : Fraction) → IsFraction z → IsFraction v → coef_at x r ≡ pos 0 → MeetsRow x q r z → MeetsRow x q r v
meets_free x q r z v hz hv e m =
    let at : (w : Fraction) → (coef_at x r *ℤ q.den) *ℤ w.num +ℤ row_value r q *ℤ w.den ≡ w.den *ℤ row_value r q =
    λ w. ap (λ c. (c *ℤ q.den) *ℤ w.num +ℤ row_value r q *ℤ w.den) e ∙ alone q.den w.num (row_value r q) w.den in
    subst (Allows r.strict) (sym (at v)) (scaled_by r.strict v.den (row_value r q) hv (cancelled_by r.strict z.den (row_value r q) hz (subst (Allows r.strict) (at z) m)))
  where
    alone : (d n t k : ℤ) → (pos 0 *ℤ d) *ℤ n +ℤ t *ℤ k ≡ k *ℤ t
    alone d n t k = omega (arith, products)

within_meets : (x : ℕ) (q : Point) (r : Row) (z v : Fraction) → IsFraction z → IsFraction v → MeetsRow x q r z → IsWithin x q r v → MeetsRow x q r v
within_meets x q r z v hz hv m w = go (coef_at x r) refl
  where
    go : (c : ℤ) → coef_at x r ≡ c → MeetsRow x q r v
    go (pos zero) e = meets_free x q r z v hz hv e m
    go (pos (suc n)) e = w (λ f. absurd (omega (arith, ints, e, f)))
    go (negsuc n) e = w (λ f. absurd (omega (arith, ints, e, f)))

-- ---- the point of the fixed numbers

module _ (n : ℕ) (given : List Fraction) (fractions : All IsFraction given) (fits : length given ≤ n) where
  abbrev base : Point
  base = fixed_point n given

  positive : 0 < common_den given
  positive = common_positive given (recursion_from_All IsFraction given fractions)

  pub base-den : pos 0 <ℤ base.den
  base-den = let h = positive in omega (arith, ints, h)

  pub base-length : length base.num ≡ n
  base-length = length-padded n (common_nums given) (omega (arith, length-map given (num_over (common_den given))))

  base-free : number_at (length given) base.num ≡ pos 0
  base-free =
      ap (λ k. get_or base.num k (pos 0)) (sym (length-map given (num_over (common_den given)))) ∙ after_itself (common_nums given) (n - length (common_nums given))

  pub is_given : (j : ℕ) → j < length given → IsFraction (get_or given j zero_fraction)
  is_given j h = fractions j zero_fraction h

  pub base-given : (j : ℕ) → j < length given → SameFraction (coordinate j base) (get_or given j zero_fraction)
  base-given j h =
      let d : ℕ = common_den given in
      let y : Fraction = get_or given j zero_fraction in
      let at : number_at j base.num ≡ num_over d y =
      get_or-append (common_nums given) (replicate (n - length (common_nums given)) (pos 0)) (pos 0) j (omega (arith, length-map given (num_over d)))
      ∙ get_or-map (num_over d) given j zero_fraction (pos 0) h in
      let each : All (λ y. unsigned_abs (lowest y).den ∣ d) given = All-from_recursion (λ y. unsigned_abs (lowest y).den ∣ d) given (each_divides given) in
      subst (λ z. SameFraction (record { num = z; den = pos d }) y) (sym at) (over_common y d (is_given j h) positive (each j zero_fraction h))

-- ---- the next column

module _ (s : System) (given : List Fraction) (level : List Row) (fractions : All IsFraction given) (within : length given < s.width)
    (is_level : IsLevel s.width (length given + 1) s.rows level) (q : Point) (has : HasFirst s given q) where
  abbrev x : ℕ
  x = length given

  abbrev start : Point
  start = fixed_point s.width given

  fits : length given ≤ s.width
  fits = omega (arith, within)

  in_base : x < length start.num
  in_base = omega (arith, (base-length s.width given fractions fits), within)

  t-den : (v : Fraction) → IsFraction v → pos 0 <ℤ (trial x start v).den
  t-den v hv = trial-den x start v (base-den s.width given fractions fits) hv

  t-given : (v : Fraction) → IsFraction v → (j : ℕ) → j < x → SameFraction (coordinate j (trial x start v)) (get_or given j zero_fraction)
  t-given v hv j h =
      let other : j ≢ x = λ e. absurd (omega (arith, e)) in
      same-trans (coordinate j (trial x start v)) (coordinate j start) (get_or given j zero_fraction) (t-den v hv) (base-den s.width given fractions fits) (is_given s.width given fractions fits j h) (sym (trial-other x j start v other)) (base-given s.width given fractions fits j h)

  row_wide : (k : ℕ) (d : Row) → k < length level → x < length (get_or level k d).coef
  row_wide k d h = let w = is_level.wide k d h in omega (arith, w, within)

  to_rows : (v : Fraction) → IsFraction v → AllHold level (trial x start v) → All (λ r. MeetsRow x start r v) level
  to_rows v hv h k d lt =
      let r : Row = get_or level k d in
      subst (Allows r.strict) (trial-value x start v r (row_wide k d lt) in_base (base-free s.width given fractions fits) hv) (h k d lt)

  from_rows : (v : Fraction) → IsFraction v → All (λ r. MeetsRow x start r v) level → AllHold level (trial x start v)
  from_rows v hv m k d lt =
      let r : Row = get_or level k d in
      subst (Allows r.strict) (sym (trial-value x start v r (row_wide k d lt) in_base (base-free s.width given fractions fits) hv)) (m k d lt)

  at_trial : (v : Fraction) → IsFraction v → AllHold level (trial x start v) ↔ SomeValuesHold s.width (x + 1) s.rows (trial x start v)
  at_trial v hv = is_level.same (trial x start v) (t-den v hv) (trial-length x start v ∙ (base-length s.width given fractions fits))

  next_meets : (v : Fraction) → IsFraction v → IsNext s given v → All (λ r. MeetsRow x start r v) level
  next_meets v hv (p, first, e) =
      let t : Point = trial x start v in
      let hp = first.point.positive in
      let same : SameBefore (x + 1) t p = before_from_coordinates (x + 1) t p (trial-length x start v ∙ (base-length s.width given fractions fits) ∙ sym first.point.sized) (λ j h. elim (cases_lt j x) [
        | inl lt ↦ same-trans (coordinate j t) (get_or given j zero_fraction) (coordinate j p) (t-den v hv) (is_given s.width given fractions fits j lt) hp (t-given v hv j lt) (sym (first.agrees j lt))
        | inr ge ↦ (let i : x ≡ j = omega arith in subst (λ k. SameFraction (coordinate k t) (coordinate k p)) i
            (same-trans (coordinate x t) v (coordinate x p) (t-den v hv) hv hp (trial-here x start v in_base hv) (sym e)))
      ]) in
      to_rows v hv ((at_trial v hv).1 (p, record { positive = hp; sized = first.point.sized; same = same; holds = first.point.holds }))

  meets_next : (v : Fraction) → IsFraction v → All (λ r. MeetsRow x start r v) level → IsNext s given v
  meets_next v hv m =
      let t : Point = trial x start v in
      let ht = t-den v hv in
      let (p, ext) = (at_trial v hv).0 (from_rows v hv m) in (
        p,
        record {
          point = record { positive = ext.positive; sized = ext.sized; holds = ext.holds };
          agrees = λ j h. same-trans (coordinate j p) (coordinate j t) (get_or given j zero_fraction) ext.positive ht (is_given s.width given fractions fits j h)
              (sym (before_coordinates (x + 1) j t p ext.same (omega arith))) (t-given v hv j h);
        },
        same-trans (coordinate x p) (coordinate x t) v ext.positive ht hv (sym (before_coordinates (x + 1) x t p ext.same (omega arith))) (trial-here x start v in_base hv),
      )

  -- what q has in the column
  abbrev own : Fraction
  own = coordinate x q

  own_is : IsFraction own
  own_is = has.point.positive

  own_next : IsNext s given own
  own_next = (q, has, refl)

  own_meets : All (λ r. MeetsRow x start r own) level
  own_meets = next_meets own own_is own_next

  -- these values are an interval
  rows_interval : IsInterval (λ v. All (λ r. MeetsRow x start r v) level)
  rows_interval = record {
    same = λ y z hy hz e m k d lt. ((meets_all_interval (line k d ∷ [])).same y z hy hz e (m k d lt, tt)).0;
    between = λ y z w hy hz hw a b m n k d lt. ((meets_all_interval (line k d ∷ [])).between y z w hy hz hw a b (m k d lt, tt) (n k d lt, tt)).0;
  }
    where
      line : (k : ℕ) (d : Row) → Line
      line k d = record { lead = coef_at x (get_or level k d) *ℤ start.den; cst = row_value (get_or level k d) start; strict = (get_or level k d).strict }

  pub next_member : (v : Fraction) → IsPick (IsNext s given) v → IsNext s given v
  next_member v pick = member v (interval_same (λ w. All (λ r. MeetsRow x start r w) level) (IsNext s given) meets_next next_meets rows_interval) pick

  pub within_next : Within (AreWithin x start level) (IsNext s given)
  within_next v hv w = meets_next v hv (λ k d lt. within_meets x start (get_or level k d) own v own_is hv (own_meets k d lt) (w k d lt))

  pub next_within : Within (IsNext s given) (AreWithin x start level)
  next_within v hv n = let m = next_meets v hv n in λ k d lt. λ some. m k d lt

  pub some_within : HasMember (AreWithin x start level)
  some_within = (own, own_is, next_within own own_is own_next)
