-- Where picking from rows that hold where plain ones do passes, picking from the plain ones does, or what these form.
use Rattle.std.proofs.Common.{◌≡◌, ◌⊎◌, inl, inr, ℕ, ◌-◌, ◌<◌, List, [], ◌∷◌, ◌++◌, drop, length, length-append, map, take, sym, ◌∙◌, ap, subst, arith, ℤ, pos, ◌<ℤ◌}
use Rattle.std.specs.List.{AllByRecursion, AllZip}
use Rattle.std.proofs.Math.Seq.{take-append_seam}
use Rattle.std.proofs.lemmas.Int.{ints}
use Rattle.std.proofs.lemmas.List.{length-map}
use Rattle.std.proofs.lemmas.List.Elements.{All-from_recursion, All-take, recursion_from_All}
use Rattle.column_pick.proofs.BetweenLemmas.{open_gap_same}
use Rattle.column_pick.specs.Picked.{numbers_of, PickingPasses}
use Rattle.frac128.proofs.CommonLemmas.{common_positive}
use Rattle.gap_runs.proofs.AgreePicks.{all_fractions, open_interval, open_full, open_thin, picks_agree, thin, full}
use Rattle.gap_runs.proofs.AgreeSteps.{begins_agree}
use Rattle.gap_runs.proofs.ArriveLemmas.{common_zip}
use Rattle.gap_runs.specs.Befores.{common_point, LeavingPasses}
use Rattle.poly_specs.proofs.InclusionLemmas.{among_eliminated_each, among_formed_each}
use Rattle.poly_specs.proofs.LowestLemmas.{lowest-same}
use Rattle.poly_specs.specs.Bits.{SomePasses}
use Rattle.poly_specs.specs.Denominators.{common_den, common_nums, common_numbers, num_over}
use Rattle.poly_specs.specs.Arithmetic.{lowest}
use Rattle.poly_specs.specs.Elimination.{columns_down, eliminated_each, formed_each}
use Rattle.poly_specs.specs.Evaluation.{eval_numbers}
use Rattle.poly_specs.specs.Fractions.{Fraction, IsFraction, SameFraction, fractions}
use Rattle.poly_specs.specs.Lists.{In, number_at}
use Rattle.poly_specs.specs.Pickings.{Picking, ArePicked, IsOpen, LevelPasses, IsMiddlePicked, FixedPass, PickPasses}
use Rattle.poly_specs.specs.Rows.{Row}
use Rattle.run_parts.proofs.Choices.{Agree, are_all, at_place, fractions_both, zip_through}
use Rattle.run_parts.proofs.LeastNumbers.{equal_numbers}
use Rattle.run_parts.proofs.OpenParts.{picking_of}
use Rattle.run_specs.proofs.PickedLemmas.{AllFractions, length-fractions, fraction_at}
use Rattle.run_specs.proofs.PickedValues.{zip_long, zip_take}
use Rattle.sample_succ.proofs.StageFacts.{passes_more}
use Rattle.sample_succ.specs.Plain.{IsPlain}

pub all_of : (xs : List Fraction) → AllFractions xs → AllByRecursion IsFraction xs
all_of [] h = tt
all_of (x ∷ xs) h = (h.0, all_of xs h.1)

-- ---- one picking, from fewer rows that hold at the same points

module _ (n k : ℕ) (rows plain : List Row) (xs ys : List Fraction) (is : IsPlain n rows plain) (lx : length xs ≡ n) (ly : length ys ≡ n) (hx : AllFractions xs) (hy : AllFractions ys)
    (agree : Agree n xs ys) where
  abbrev p : Picking
  p = full n k rows plain xs ys is lx ly hx hy

  abbrev t : Picking
  t = thin n k rows plain xs ys is lx ly hx hy

  -- the numbers fixed before a column are the same over their least common denominator
  fixed_same : (x : ℕ) → common_numbers (take x ys) ≡ common_numbers (take x xs)
  fixed_same x =
      sym (equal_numbers (take x xs) (take x ys) (All-take IsFraction x xs (All-from_recursion IsFraction xs (all_of xs hx))) (All-take IsFraction x ys (All-from_recursion IsFraction ys (all_of ys hy)))
      (zip_take x xs ys (lx ∙ sym ly) (λ j h lt. agree j (omega (arith, lt, lx)))))

  level_more : (x y : ℕ) → LevelPasses t x y → LevelPasses p x y
  level_more x y h =
      let (r, i, s) = h.passes in
      let same = fixed_same x in
      let dens : pos (common_den (take x ys)) ≡ pos (common_den (take x xs)) = ap (number_at 0) same in
      let nums : common_nums (take x ys) ≡ common_nums (take x xs) = ap (drop 1) same in
      record {
        from_first = h.from_first;
        all_or_all_but_last = h.all_or_all_but_last;
        within = (let w = h.within in omega (arith, w, lx, ly));
        passes = (
          r,
          among_eliminated_each (columns_down y (length xs - y)) rows plain is.among r
              (subst (λ l. In r (eliminated_each (columns_down y (l - y)) rows)) (ly ∙ sym lx) i),
          subst (λ ns. SomePasses (eval_numbers r ns (pos (common_den (take x xs))))) nums
              (subst (λ d. SomePasses (eval_numbers r (common_nums (take x ys)) d)) dens s),
        );
      }

  middle_more : (x : ℕ) (low high : Fraction) → IsMiddlePicked t x low high → IsMiddlePicked p x low high
  middle_more x low high h =
      let within : x < n = (let w = h.within in omega (arith, w, ly)) in
      let front : Agree x xs ys = λ j lt. agree j (omega (arith, lt, within)) in
      let inside : IsOpen p x (at_place x ys) = open_full n k rows plain xs ys is lx ly hx hy x front (at_place x ys) h.inside in
      let same : SameFraction (at_place x ys) (at_place x xs) = sym (agree x within) in
      let gap = open_gap_same (IsOpen t x) (IsOpen p x) (λ v hv o. open_full n k rows plain xs ys is lx ly hx hy x front v o) (λ v hv o. open_thin n k rows plain xs ys is lx ly hx hy x front v o) low high
      (record { ends = h.ends; no_integer = h.no_integer; not_low = h.not_low; not_high = h.not_high }) in
      record {
        from_first = h.from_first;
        within = omega (arith, within, lx);
        inside = (open_interval p x hx).same (at_place x ys) (at_place x xs) (fraction_at ys x hy) (fraction_at xs x hx) same inside;
        ends = gap.ends;
        no_integer = gap.no_integer;
        not_low = gap.not_low;
        not_high = gap.not_high;
      }

  fixed_more : (x : ℕ) → FixedPass t x → FixedPass p x
  fixed_more x h = record {
    from_first = h.from_first;
    within = (let w = h.within in omega (arith, w, lx, ly));
    passes = subst SomePasses (fixed_same x) h.passes;
  }

  pub pick_more : PickPasses t → PickPasses p
  pick_more (inl (x, y, h)) = inl (x, y, level_more x y h)
  pick_more (inr (inl (x, low, high, h, s))) = inr (inl (x, low, high, middle_more x low high h, s))
  pick_more (inr (inr (x, h))) = inr (inr (x, fixed_more x h))

-- ---- what is given

lowest_zip : (xs : List Fraction) → AllZip SameFraction xs (map lowest xs)
lowest_zip [] = tt
lowest_zip (x ∷ xs) = (sym (lowest-same x), lowest_zip xs)

zip_back : (xs ys : List Fraction) → AllZip SameFraction xs ys → AllZip SameFraction ys xs
zip_back [] [] f = tt
zip_back [] (y ∷ ys) f = absurd f
zip_back (x ∷ xs) [] f = absurd f
zip_back (x ∷ xs) (y ∷ ys) f = (sym f.0, zip_back xs ys f.1)

common_fractions : (xs : List Fraction) → AllByRecursion IsFraction xs → AllFractions (fractions (pos (common_den xs)) (common_nums xs))
common_fractions xs all = let some = common_positive xs all in are_all (pos (common_den xs)) (common_nums xs) (omega (arith, ints, some))

-- numbers over d, of which the first are given as fractions
module _ (n k : ℕ) (rows plain : List Row) (d : ℤ) (front more : List ℤ) (given : List Fraction) (hd : pos 0 <ℤ d) (is : IsPlain n rows plain) (lf : length front ≡ k) (ln : length (front ++ more) ≡ n)
    (all : AllByRecursion IsFraction given) (same : AllZip SameFraction (fractions d front) given) (picked : ArePicked (picking_of plain k d (front ++ more))) where
  abbrev xs : List Fraction
  xs = fractions d (front ++ more)

  long : length given ≡ k
  long = sym (zip_long (fractions d front) given same) ∙ length-fractions d front ∙ lf

  -- over their least common denominator, they are the same
  pub given_numbers : common_numbers given ≡ common_numbers (fractions d front)
  given_numbers =
      sym (equal_numbers (fractions d front) given (All-from_recursion IsFraction (fractions d front) (all_of (fractions d front) (are_all d front hd))) (All-from_recursion IsFraction given all) same)

  front_is : take k (fractions d (front ++ more)) ≡ fractions d front
  front_is =
      ap (take k) (fractions_both d front more) ∙ ap (λ j. take j (fractions d front ++ fractions d more)) (sym (length-fractions d front ∙ lf))
      ∙ take-append_seam (fractions d front) (fractions d more)

  -- writing them over it passes
  pub given_pass : SomePasses (common_numbers given) → PickPasses (picking_of plain k d (front ++ more))
  given_pass h = inr (inr (
    k,
    record {
      from_first = omega arith;
      within = omega (arith, length-fractions d (front ++ more), length-append front more, lf);
      passes = subst (λ zs. SomePasses (common_numbers zs)) (sym front_is) (subst SomePasses given_numbers h);
    },
  ))

  lowest_given : AllZip SameFraction (fractions d front) (numbers_of (common_point given))
  lowest_given =
      let c : ℤ = pos (common_den given) in
      let ns : List ℤ = common_nums given in
      zip_through (fractions d front) given (numbers_of (common_point given)) (all_fractions given all) same
      (zip_through given (fractions c ns) (map lowest (fractions c ns)) (common_fractions given all) (zip_back (fractions c ns) given (common_zip given all)) (lowest_zip (fractions c ns)))

  picking_pass : PickingPasses (record { width = n; rows = rows }) (numbers_of (common_point given)) → PickPasses (picking_of plain k d (front ++ more))
  picking_pass h =
      let low : List Fraction = numbers_of (common_point given) in
      let ys : List Fraction = h.numbers in
      let same_long : length low ≡ k = sym (zip_long (fractions d front) low lowest_given) ∙ length-fractions d front ∙ lf in
      let lx : length xs ≡ n = length-fractions d (front ++ more) ∙ ln in
      let ly : length ys ≡ n = h.picked.sized in
      let hx : AllFractions xs = are_all d (front ++ more) hd in
      let hy : AllFractions ys = all_fractions ys (recursion_from_All IsFraction ys h.picked.fractions) in
      let thin_picked : ArePicked (record { rows = rows; first = k; numbers = ys }) = subst (λ j. ArePicked (record { rows = rows; first = j; numbers = ys })) same_long h.picked.picked in
      let start : Agree k xs ys = begins_agree k d front more low ys lf h.picked.begins lowest_given in
      let agree : Agree n xs ys = picks_agree n k rows plain xs ys is lx ly hx hy n (omega arith) start picked thin_picked in
      pick_more n k rows plain xs ys is lx ly hx hy agree (subst (λ j. PickPasses (record { rows = rows; first = j; numbers = ys })) same_long h.passes)

  -- finding the numbers after them passes
  pub leaving_pass : LeavingPasses (record { width = n; rows = rows }) (common_point given) →
      SomePasses (formed_each (columns_down k (n - k)) plain) ⊎ PickPasses (picking_of plain k d (front ++ more))
  leaving_pass (inl formed) =
      let count : length (common_nums given) ≡ k = length-map given (num_over (common_den given)) ∙ long in
      inl (passes_more (formed_each (columns_down k (n - k)) rows) (formed_each (columns_down k (n - k)) plain) (among_formed_each (columns_down k (n - k)) rows plain is.among)
      (subst (λ j. SomePasses (formed_each (columns_down j (n - j)) rows)) count formed))
  leaving_pass (inr picking) = inr (picking_pass picking)
