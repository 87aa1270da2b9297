-- Where a leg or a jump that was gone back over starts: inside its state.
use Rattle.std.proofs.Common.{◌≡◌, inl, inr, ℕ, zero, suc, ◌+◌, ◌-◌, ◌<◌, ◌≤◌, List, [], ◌∷◌, ◌++◌, length, length-append, take, drop, get_or, sym, ◌∙◌, ap, subst, arith, ℤ, pos, neg_ℤ, ◌+ℤ◌, ◌-ℤ◌, ◌*ℤ◌, ◌<ℤ◌}
use Rattle.std.specs.Prelude.{All}
use Rattle.std.specs.Int.{◌∣◌}
use Rattle.std.specs.List.{AllByRecursion}
use Rattle.std.proofs.Math.ListN.{get_or-append}
use Rattle.std.proofs.Math.Seq.{get_or-append_seam, drop-append-add}
use Rattle.std.proofs.lemmas.Bool.{cases_lt}
use Rattle.std.proofs.lemmas.Int.{ints}
use Rattle.std.proofs.lemmas.List.{length-map, length-drop, length-take, get_or-drop, get_or-map, get_or-take, drop_more, take-append-drop}
use Rattle.std.proofs.lemmas.List.Elements.{recursion_from_All, All-from_recursion, All-append, All-drop}
use Rattle.frac128.proofs.CommonLemmas.{den_of, each_divides, common_positive}
use Rattle.column_pick.proofs.CommonLemmas.{over_common}
use Rattle.poly_specs.proofs.ColumnLemmas.{point-from_coordinates}
use Rattle.poly_specs.proofs.EliminationLemmas.{AllHold-from_in, AllHold-at_in}
use Rattle.poly_specs.proofs.FractionLemmas.{same-trans}
use Rattle.poly_specs.proofs.IntLemmas.{products, product_positive, add_mul, neg_mul}
use Rattle.poly_specs.proofs.LinearLemmas.{Holds-same_point}
use Rattle.poly_specs.proofs.LowestLemmas.{lowest-IsFraction, lowest-same}
use Rattle.poly_specs.specs.Arithmetic.{lowest}
use Rattle.poly_specs.specs.Denominators.{common_den, common_nums, num_over}
use Rattle.poly_specs.specs.Fractions.{Fraction, IsFraction, SameFraction, difference, zero_fraction}
use Rattle.poly_specs.specs.Lists.{number_at}
use Rattle.poly_specs.specs.Rows.{Point, Row, AllHold, AllWide, SamePoint, coordinate, over}
use Rattle.run_specs.proofs.StageLemmas.{jump_exact, leg_exact}
use Rattle.run_specs.specs.Automaton.{Automaton, width, location_at, transition_at}
use Rattle.run_specs.specs.WellFormed.{IsLocation}
use Rattle.gap_runs.specs.Befores.{common_point, leg_columns, jump_columns}
use Rattle.gap_runs.specs.Traces.{BackValue, after_of, IsBack, IsLegBack, IsJumpBack}

-- ---- a point and its fractions over their least common denominator

divides_at : (P : Fraction → Type 0) (xs : List Fraction) (j : ℕ) → j < length xs → AllByRecursion P xs → P (get_or xs j zero_fraction)
divides_at P xs j h all = All-from_recursion P xs all j zero_fraction h

pub common_at : (xs : List Fraction) (j : ℕ) → j < length xs → AllByRecursion IsFraction xs → SameFraction (coordinate j (common_point xs)) (get_or xs j zero_fraction)
common_at xs j h all =
    let d : ℕ = common_den xs in
    let x : Fraction = get_or xs j zero_fraction in
    let at : number_at j (common_nums xs) ≡ num_over d x = get_or-map (num_over d) xs j zero_fraction (pos 0) h in
    subst (λ z. SameFraction (record { num = z; den = pos d }) x) (sym at)
    (over_common x d (divides_at IsFraction xs j h all) (common_positive xs all) (divides_at (λ y. den_of y ∣ d) xs j h (each_divides xs)))

pub same_common : (d : ℤ) (ns : List ℤ) (xs : List Fraction) → pos 0 <ℤ d → AllByRecursion IsFraction xs → length ns ≡ length xs →
    ((j : ℕ) → j < length xs → SameFraction (coordinate j (over d ns)) (get_or xs j zero_fraction)) → SamePoint (over d ns) (common_point xs)
same_common d ns xs hd all len f =
    let some = common_positive xs all in
    let hc : pos 0 <ℤ pos (common_den xs) = omega (arith, ints, some) in
    point-from_coordinates (over d ns) (common_point xs) (len ∙ sym (length-map xs (num_over (common_den xs))))
    (λ j h. let lt : j < length xs = omega (arith, h, len) in
    same-trans (coordinate j (over d ns)) (get_or xs j zero_fraction) (coordinate j (common_point xs)) hd (divides_at IsFraction xs j lt all) hc (f j lt) (sym (common_at xs j lt all)))

pub inside_same : (rows : List Row) (d : ℤ) (ns : List ℤ) (xs : List Fraction) → pos 0 <ℤ d → AllByRecursion IsFraction xs → SamePoint (over d ns) (common_point xs) →
    AllHold rows (over d ns) → AllHold rows (common_point xs)
inside_same rows d ns xs hd all same holds =
    let some = common_positive xs all in
    let hc : pos 0 <ℤ pos (common_den xs) = omega (arith, ints, some) in
    AllHold-from_in rows (common_point xs) (λ r i. Holds-same_point r (over d ns) (common_point xs) hd hc same (AllHold-at_in rows (over d ns) holds r i))

-- ---- values, and then one number more

-- the values from place n on, and then e, are these fractions and then v, where they are so one by one
values_same : (d : ℤ) (ns : List ℤ) (xs : List Fraction) (n m : ℕ) (e : ℤ) (v : Fraction) → length ns ≡ n + m → length xs ≡ n + m →
    ((j : ℕ) → j < n + m → SameFraction (coordinate j (over d ns)) (get_or xs j zero_fraction)) → SameFraction (record { num = e; den = d }) v →
    (j : ℕ) → j < length (drop n xs ++ v ∷ []) → SameFraction (coordinate j (over d (drop n ns ++ e ∷ []))) (get_or (drop n xs ++ v ∷ []) j zero_fraction)
values_same d ns xs n m e v ln lx f last j h =
    let a : length (drop n ns) ≡ m = omega (arith, length-drop n ns, ln) in
    let b : length (drop n xs) ≡ m = omega (arith, length-drop n xs, lx) in
    let lt : j < m + 1 = omega (arith, h, b, length-append (drop n xs) (v ∷ [])) in
    elim (cases_lt j m) [
      | inl less ↦
          let here : number_at j (drop n ns ++ e ∷ []) ≡ number_at (n + j) ns = get_or-append (drop n ns) (e ∷ []) (pos 0) j (omega (arith, less, a)) ∙ get_or-drop n ns j (pos 0) in
          let there : get_or (drop n xs ++ v ∷ []) j zero_fraction ≡ get_or xs (n + j) zero_fraction = get_or-append (drop n xs) (v ∷ []) zero_fraction j (omega (arith, less, b)) ∙ get_or-drop n xs j zero_fraction in
          subst (λ x. SameFraction (coordinate j (over d (drop n ns ++ e ∷ []))) x) (sym there)
          (subst (λ z. SameFraction (record { num = z; den = d }) (get_or xs (n + j) zero_fraction)) (sym here) (f (n + j) (omega (arith, less))))
      | inr more ↦
          let is : j ≡ m = omega (arith, more, lt) in
          let here : number_at j (drop n ns ++ e ∷ []) ≡ e = ap (λ k. number_at k (drop n ns ++ e ∷ [])) (is ∙ sym a) ∙ get_or-append_seam (drop n ns) e [] (pos 0) in
          let there : get_or (drop n xs ++ v ∷ []) j zero_fraction ≡ v = ap (λ k. get_or (drop n xs ++ v ∷ []) k zero_fraction) (is ∙ sym b) ∙ get_or-append_seam (drop n xs) v [] zero_fraction in
          subst (λ x. SameFraction (coordinate j (over d (drop n ns ++ e ∷ []))) x) (sym there)
          (subst (λ z. SameFraction (record { num = z; den = d }) v) (sym here) last)
    ]

-- ---- the last values, where more were added

last_of : (old xs : List Fraction) (n m : ℕ) → length xs ≡ n + m → drop (length (old ++ drop n xs) - m) (old ++ drop n xs) ≡ drop n xs
last_of old xs n m l =
    let e : length (old ++ drop n xs) - m ≡ length old + 0 = omega (arith, length-append old (drop n xs), length-drop n xs, l) in
    ap (λ k. drop k (old ++ drop n xs)) e ∙ drop-append-add old (drop n xs) 0

pub positive_drop : (n : ℕ) (xs : List Fraction) (v : Fraction) → AllByRecursion IsFraction xs → IsFraction v → AllByRecursion IsFraction (drop n xs ++ v ∷ [])
positive_drop n [] v all h = go n
  where
    go : (n : ℕ) → AllByRecursion IsFraction (drop n [] ++ v ∷ [])
    go zero = (h, tt)
    go (suc n) = (h, tt)
positive_drop zero (x ∷ xs) v all h = (all.0, positive_drop zero xs v all.1 h)
positive_drop (suc n) (x ∷ xs) v all h = positive_drop n xs v all.1 h

-- the elapsed time that is given
pub given_elapsed : (m : ℕ) (b : BackValue) (xs : List Fraction) → m ≤ length b.numbers → take (length (after_of m b)) xs ≡ after_of m b → get_or xs m zero_fraction ≡ b.elapsed
given_elapsed m b xs h begins =
    let values : List Fraction = drop (length b.numbers - m) b.numbers in
    let len : length values ≡ m = omega (arith, length-drop (length b.numbers - m) b.numbers, h) in
    let within : m < length (after_of m b) = omega (arith, length-append values (b.elapsed ∷ []), len) in
    sym (get_or-take (length (after_of m b)) xs m zero_fraction within) ∙ ap (λ ys. get_or ys m zero_fraction) begins
    ∙ ap (λ k. get_or (after_of m b) k zero_fraction) (sym len) ∙ get_or-append_seam values b.elapsed [] zero_fraction

-- ---- the parts of the points of a jump and of a leg

pub jump_numbers : (m : ℕ) (ns : List ℤ) → length ns ≡ (m + 1) + m → take m ns ++ number_at m ns ∷ drop (m + 1) ns ≡ ns
jump_numbers m ns l = ap (λ z. take m ns ++ z) (sym (drop_more ns m (pos 0) (omega (arith, l)))) ∙ take-append-drop m ns

pub leg_numbers : (m : ℕ) (ns : List ℤ) → length ns ≡ (m + 2) + m → take m ns ++ number_at m ns ∷ number_at (m + 1) ns ∷ drop (m + 2) ns ≡ ns
leg_numbers m ns l =
    let two : m + 1 + 1 ≡ m + 2 = omega arith in
    let second : drop (m + 1) ns ≡ number_at (m + 1) ns ∷ drop (m + 2) ns = drop_more ns (m + 1) (pos 0) (omega (arith, l)) ∙ ap (λ n. number_at (m + 1) ns ∷ drop n ns) two in
    ap (λ z. take m ns ++ z) (sym (drop_more ns m (pos 0) (omega (arith, l)) ∙ ap (λ z. number_at m ns ∷ z) second)) ∙ take-append-drop m ns

-- ---- jumps

module _ (a : Automaton) (e : ℕ) (state : List Row) (old new : BackValue) (relation : AllWide (width a + width a) (transition_at a e).relation)
    (target : AllWide (width a) (location_at a (transition_at a e).target).invariant) (wide : AllWide (width a + 1) state)
    (whole : IsBack (width a) old) (back : IsJumpBack a e state old new) where
  abbrev m : ℕ
  m = width a

  abbrev xs : List Fraction
  xs = back.numbers

  abbrev p : Point
  p = back.picked.point

  long : m ≤ length old.numbers
  long = whole.sized

  positive : IsFraction old.elapsed
  positive = whole.elapsed

  jump_sized : length p.num ≡ (m + 1) + m
  jump_sized = let s = back.picked.picked.point.sized in omega (arith, s)

  pub jump_numbers_sized : length xs ≡ (m + 1) + m
  jump_numbers_sized = let s = back.picked.picked.sized in omega (arith, s)

  jump_parts : take m p.num ++ number_at m p.num ∷ drop (m + 1) p.num ≡ p.num
  jump_parts = jump_numbers m p.num jump_sized

  jump_holds : AllHold state (over p.den (drop (m + 1) p.num ++ number_at m p.num ∷ []))
  jump_holds =
      let s = jump_sized in
      ((jump_exact a e state p.den (take m p.num) (number_at m p.num) (drop (m + 1) p.num) relation target wide
      (omega (arith, length-take m p.num, s)) (omega (arith, length-drop (m + 1) p.num, s))).0
      (subst (λ ns. AllHold (jump_columns a e state).rows (over p.den ns)) (sym jump_parts) back.picked.picked.point.holds)).0

  jump_elapsed : SameFraction (record { num = number_at m p.num; den = p.den }) old.elapsed
  jump_elapsed = subst (SameFraction (coordinate m p)) (given_elapsed m old xs long back.picked.picked.begins) (back.picked.picked.agrees m (omega arith))

  pub jump_after : after_of m new ≡ drop (m + 1) xs ++ old.elapsed ∷ []
  jump_after =
      ap (λ ys. drop (length ys - m) ys ++ new.elapsed ∷ []) back.more ∙ ap (λ v. drop (length (old.numbers ++ drop (m + 1) xs) - m) (old.numbers ++ drop (m + 1) xs) ++ v ∷ []) back.elapsed
      ∙ ap (λ ys. ys ++ old.elapsed ∷ []) (last_of old.numbers xs (m + 1) m jump_numbers_sized)

  pub jump_back : IsBack m new
  jump_back = record {
    sized = (let t = jump_numbers_sized in let n = ap (λ zs. length zs) back.more in let f = long in omega (arith, n, t, f, length-append old.numbers (drop (m + 1) xs)));
    fractions = subst (λ zs. All IsFraction zs) (sym back.more) (All-append IsFraction old.numbers (drop (m + 1) xs) whole.fractions (All-drop IsFraction (m + 1) xs back.picked.picked.fractions));
    elapsed = subst IsFraction (sym back.elapsed) positive;
  }

  -- the values before it, with the elapsed time, are inside the state
  pub jump_inside : AllHold state (common_point (after_of m new))
  jump_inside =
      let some : AllByRecursion IsFraction (drop (m + 1) xs ++ old.elapsed ∷ []) = positive_drop (m + 1) xs old.elapsed (recursion_from_All IsFraction xs back.picked.picked.fractions) positive in
      let s = jump_sized in
      let t = jump_numbers_sized in
      let same = same_common p.den (drop (m + 1) p.num ++ number_at m p.num ∷ []) (drop (m + 1) xs ++ old.elapsed ∷ []) back.picked.picked.point.positive some
      (omega (arith, s, t, length-append (drop (m + 1) p.num) (number_at m p.num ∷ []), length-append (drop (m + 1) xs) (old.elapsed ∷ []), length-drop (m + 1) p.num, length-drop (m + 1) xs))
      (values_same p.den p.num xs (m + 1) m (number_at m p.num) old.elapsed s t (λ j h. back.picked.picked.agrees j (omega (arith, h))) jump_elapsed) in
      subst (λ ys. AllHold state (common_point ys)) (sym jump_after)
      (inside_same state p.den (drop (m + 1) p.num ++ number_at m p.num ∷ []) (drop (m + 1) xs ++ old.elapsed ∷ []) back.picked.picked.point.positive some same jump_holds)

-- ---- legs

sub_times : (i j c : ℤ) → (i -ℤ j) *ℤ c ≡ i *ℤ c -ℤ j *ℤ c
sub_times i j c =
    let u : i -ℤ j ≡ i +ℤ neg_ℤ j = omega (arith, ints) in
    let v : i *ℤ c +ℤ neg_ℤ (j *ℤ c) ≡ i *ℤ c -ℤ j *ℤ c = omega (arith, ints) in
    ap (λ z. z *ℤ c) u ∙ add_mul i (neg_ℤ j) c ∙ ap (λ z. i *ℤ c +ℤ z) (neg_mul j c) ∙ v

-- e and t over d are these fractions: so e - t is their difference
pub minus_same : (d e t : ℤ) (x y : Fraction) → SameFraction (record { num = e; den = d }) x → SameFraction (record { num = t; den = d }) y →
    SameFraction (record { num = e -ℤ t; den = d }) (difference x y)
minus_same d e t x y f g =
    let one : (e *ℤ x.den) *ℤ y.den ≡ (x.num *ℤ d) *ℤ y.den = ap (λ z. z *ℤ y.den) f in
    let two : (t *ℤ y.den) *ℤ x.den ≡ (y.num *ℤ d) *ℤ x.den = ap (λ z. z *ℤ x.den) g in
    left e t x.den y.den ∙ ap (λ z. z -ℤ (t *ℤ y.den) *ℤ x.den) one ∙ ap (λ z. (x.num *ℤ d) *ℤ y.den -ℤ z) two ∙ right x.num y.num x.den y.den d
  where
    left : (e t b c : ℤ) → (e -ℤ t) *ℤ (b *ℤ c) ≡ (e *ℤ b) *ℤ c -ℤ (t *ℤ c) *ℤ b
    left e t b c =
        let u = sub_times e t (b *ℤ c) in
        let v : (e *ℤ b) *ℤ c ≡ e *ℤ (b *ℤ c) = omega (arith, products) in
        let w : (t *ℤ c) *ℤ b ≡ t *ℤ (b *ℤ c) = omega (arith, products) in
        u ∙ ap (λ z. z -ℤ t *ℤ (b *ℤ c)) (sym v) ∙ ap (λ z. (e *ℤ b) *ℤ c -ℤ z) (sym w)

    right : (f g b c d : ℤ) → (f *ℤ d) *ℤ c -ℤ (g *ℤ d) *ℤ b ≡ (f *ℤ c -ℤ g *ℤ b) *ℤ d
    right f g b c d =
        let v : (f *ℤ d) *ℤ c ≡ (f *ℤ c) *ℤ d = omega (arith, products) in
        let w : (g *ℤ d) *ℤ b ≡ (g *ℤ b) *ℤ d = omega (arith, products) in
        ap (λ z. z -ℤ (g *ℤ d) *ℤ b) v ∙ ap (λ z. (f *ℤ c) *ℤ d -ℤ z) w ∙ sym (sub_times (f *ℤ c) (g *ℤ b) d)

module _ (a : Automaton) (l : ℕ) (state : List Row) (old new : BackValue) (loc : IsLocation (width a) (location_at a l)) (wide : AllWide (width a + 1) state)
    (whole : IsBack (width a) old) (back : IsLegBack a l state old new) where
  abbrev k : ℕ
  k = width a

  abbrev ys : List Fraction
  ys = back.numbers

  abbrev q : Point
  q = back.picked.point

  abbrev start : List ℤ
  start = drop (k + 2) q.num

  abbrev left : ℤ
  left = number_at k q.num -ℤ number_at (k + 1) q.num

  abbrev stay : Fraction
  stay = get_or ys (k + 1) zero_fraction

  far : k ≤ length old.numbers
  far = whole.sized

  given_positive : IsFraction old.elapsed
  given_positive = whole.elapsed

  leg_sized : length q.num ≡ (k + 2) + k
  leg_sized = let s = back.picked.picked.point.sized in omega (arith, s)

  pub leg_numbers_sized : length ys ≡ (k + 2) + k
  leg_numbers_sized = let s = back.picked.picked.sized in omega (arith, s)

  leg_parts : take k q.num ++ number_at k q.num ∷ number_at (k + 1) q.num ∷ start ≡ q.num
  leg_parts = leg_numbers k q.num leg_sized

  leg_holds : AllHold state (over q.den (start ++ left ∷ []))
  leg_holds =
      let s = leg_sized in
      ((leg_exact a l state q.den (take k q.num) (number_at k q.num) (number_at (k + 1) q.num) start loc wide
      (omega (arith, length-take k q.num, s)) (omega (arith, length-drop (k + 2) q.num, s))).0
      (subst (λ ns. AllHold (leg_columns a l state).rows (over q.den ns)) (sym leg_parts) back.picked.picked.point.holds)).0

  stay_positive : IsFraction stay
  stay_positive = let t = leg_numbers_sized in back.picked.picked.fractions (k + 1) zero_fraction (omega (arith, t))

  pub gone_positive : IsFraction (difference old.elapsed stay)
  gone_positive = product_positive old.elapsed.den stay.den given_positive stay_positive

  leg_elapsed : SameFraction (record { num = left; den = q.den }) (lowest (difference old.elapsed stay))
  leg_elapsed =
      let first : SameFraction (record { num = number_at k q.num; den = q.den }) old.elapsed =
      subst (SameFraction (coordinate k q)) (given_elapsed k old ys far back.picked.picked.begins) (back.picked.picked.agrees k (omega arith)) in
      let second : SameFraction (record { num = number_at (k + 1) q.num; den = q.den }) stay = back.picked.picked.agrees (k + 1) (omega arith) in
      same-trans (record { num = left; den = q.den }) (difference old.elapsed stay) (lowest (difference old.elapsed stay)) back.picked.picked.point.positive gone_positive
      (lowest-IsFraction (difference old.elapsed stay) gone_positive) (minus_same q.den (number_at k q.num) (number_at (k + 1) q.num) old.elapsed stay first second)
      (sym (lowest-same (difference old.elapsed stay)))

  pub leg_after : after_of k new ≡ drop (k + 2) ys ++ lowest (difference old.elapsed stay) ∷ []
  leg_after =
      let t = leg_numbers_sized in
      let t' : length (drop (k + 1) ys) ≡ 1 + k = omega (arith, length-drop (k + 1) ys, t) in
      let all : List Fraction = old.numbers ++ drop (k + 1) ys in
      let count : length all - k ≡ length old.numbers + 1 = omega (arith, length-append old.numbers (drop (k + 1) ys), t') in
      let two : k + 1 + 1 ≡ k + 2 = omega arith in
      let tail : drop 1 (drop (k + 1) ys) ≡ drop (k + 2) ys = ap (λ zs. drop 1 zs) (drop_more ys (k + 1) zero_fraction (omega (arith, t))) ∙ ap (λ n. drop n ys) two in
      ap (λ zs. drop (length zs - k) zs ++ new.elapsed ∷ []) back.more ∙ ap (λ v. drop (length all - k) all ++ v ∷ []) back.elapsed
      ∙ ap (λ zs. zs ++ lowest (difference old.elapsed stay) ∷ []) (ap (λ n. drop n all) count ∙ drop-append-add old.numbers (drop (k + 1) ys) 1 ∙ tail)

  pub leg_back : IsBack k new
  leg_back = record {
    sized = (let n = ap (λ zs. length zs) back.more in (let f = far in omega (arith, n, f, length-append old.numbers (drop (k + 1) ys))));
    fractions = subst (λ zs. All IsFraction zs) (sym back.more) (All-append IsFraction old.numbers (drop (k + 1) ys) whole.fractions (All-drop IsFraction (k + 1) ys back.picked.picked.fractions));
    elapsed = subst IsFraction (sym back.elapsed) (lowest-IsFraction (difference old.elapsed stay) gone_positive);
  }

  -- the values at its start, with the elapsed time there, are inside the state
  pub leg_inside : AllHold state (common_point (after_of k new))
  leg_inside =
      let gone : Fraction = lowest (difference old.elapsed stay) in
      let some : AllByRecursion IsFraction (drop (k + 2) ys ++ gone ∷ []) =
      positive_drop (k + 2) ys gone (recursion_from_All IsFraction ys back.picked.picked.fractions) (lowest-IsFraction (difference old.elapsed stay) gone_positive) in
      let s = leg_sized in
      let t = leg_numbers_sized in
      let same = same_common q.den (start ++ left ∷ []) (drop (k + 2) ys ++ gone ∷ []) back.picked.picked.point.positive some
      (omega (arith, s, t, length-append start (left ∷ []), length-append (drop (k + 2) ys) (gone ∷ []), length-drop (k + 2) q.num, length-drop (k + 2) ys))
      (values_same q.den q.num ys (k + 2) k left gone s t (λ j h. back.picked.picked.agrees j (omega (arith, h))) leg_elapsed) in
      subst (λ zs. AllHold state (common_point zs)) (sym leg_after)
      (inside_same state q.den (start ++ left ∷ []) (drop (k + 2) ys ++ gone ∷ []) back.picked.picked.point.positive some same leg_holds)
