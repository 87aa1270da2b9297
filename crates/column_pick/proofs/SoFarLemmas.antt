-- Numbers that are picked one after the other.
use Rattle.std.proofs.Common.{◌≡◌, inl, inr, ℕ, suc, ◌+◌, ◌-◌, ◌<◌, ◌≤◌, List, [], ◌∷◌, ◌++◌, length, length-append, replicate, take, get_or, Result, Ok, Err, refl, sym, ◌∙◌, ap, subst, arith, ℤ, pos}
use Rattle.std.specs.Prelude.{All, IfOk}
use Rattle.fm_eliminate.specs.declared.RowFault.{RowFault}
use Rattle.std.proofs.Math.ListN.{get_or-append}
use Rattle.std.proofs.Math.Seq.{get_or-append_seam, take-length}
use Rattle.std.proofs.lemmas.Bool.{cases_lt}
use Rattle.std.proofs.lemmas.List.{get_or-take, length-map}
use Rattle.std.proofs.lemmas.List.Elements.{All-push}
use Rattle.poly_specs.proofs.ColumnLemmas.{point-from_coordinates}
use Rattle.poly_specs.proofs.FractionLemmas.{same-trans}
use Rattle.poly_specs.proofs.LinearLemmas.{Holds-same_point}
use Rattle.poly_specs.proofs.PickingLemmas.{some_numbers}
use Rattle.poly_specs.proofs.SetLemmas.{Within, pick_same}
use Rattle.poly_specs.specs.Bits.{SomePasses}
use Rattle.poly_specs.specs.Bounds.{IsPoint}
use Rattle.poly_specs.specs.Denominators.{common_den, common_nums, common_numbers, num_over}
use Rattle.poly_specs.specs.LowestTerms.{IsLowest}
use Rattle.poly_specs.specs.Elimination.{eliminated_each, columns_down}
use Rattle.poly_specs.specs.Evaluation.{eval_numbers}
use Rattle.poly_specs.specs.Fractions.{Fraction, IsFraction, SameFraction, zero_fraction}
use Rattle.poly_specs.specs.Lists.{In}
use Rattle.poly_specs.specs.Pickings.{Picking, picked_at, IsOpen, ArePickedNumbers, PickPasses, middle_numbers}
use Rattle.poly_specs.specs.Picks.{IsPick}
use Rattle.poly_specs.specs.Rows.{Point, Row, coordinate, AllWide, SamePoint}
use Rattle.poly_specs.specs.Systems.{System, IsLevel}
use Rattle.column_pick.proofs.BetweenLemmas.{open_gap_same}
use Rattle.column_pick.proofs.CommonLemmas.{pushed_passes}
use Rattle.column_pick.proofs.NextLemmas.{base-den, base-length, base-given, is_given, next_member}
use Rattle.column_pick.specs.Fixed.{padded, fixed_point}
use Rattle.column_pick.specs.Nexts.{HasFirst, IsNext, RowPasses, NextPasses}
use Rattle.column_pick.specs.RangePicks.{IsOpenGap}
use Rattle.column_pick.specs.Picked.{ArePickedSoFar, PickingPasses, IsPickedPoint}

-- ---- lists that begin alike

begins_before : (xs ys zs : List Fraction) → take (length (xs ++ ys)) zs ≡ xs ++ ys → take (length xs) zs ≡ xs
begins_before [] ys zs e = refl
begins_before (x ∷ xs) ys [] e = absurd (let f : ⊥ = cc in f)
begins_before (x ∷ xs) ys (z ∷ zs) e =
    let t : take (length (xs ++ ys)) zs ≡ xs ++ ys = cc in
    let s = begins_before xs ys zs t in cc

number_of : (given numbers : List Fraction) (j : ℕ) → take (length given) numbers ≡ given → j < length given →
    get_or numbers j zero_fraction ≡ get_or given j zero_fraction
number_of given numbers j e h = sym (get_or-take (length given) numbers j zero_fraction h) ∙ ap (λ xs. get_or xs j zero_fraction) e

-- ---- the values left after the given numbers are those that are open in the next column

module _ (s : System) (first : ℕ) (given numbers : List Fraction) (sized : length numbers ≡ s.width) (begins : take (length given) numbers ≡ given) where
  abbrev picking : Picking
  picking = record { rows = s.rows; first = first; numbers = numbers }

  next_open : Within (IsNext s given) (IsOpen picking (length given))
  next_open v hv (q, has, e) = (
    q,
    record {
      point = subst (λ w. IsPoint w s.rows q) (sym sized) has.point;
      agrees = λ j h. subst (SameFraction (coordinate j q)) (sym (number_of given numbers j begins h)) (has.agrees j h);
      value = e;
    },
  )

  open_next : Within (IsOpen picking (length given)) (IsNext s given)
  open_next v hv (q, c) = (
    q,
    record {
      point = subst (λ w. IsPoint w s.rows q) sized c.point;
      agrees = λ j h. subst (SameFraction (coordinate j q)) (number_of given numbers j begins h) (c.agrees j h);
    },
    c.value,
  )

-- what is open does not depend on the first column that is picked
open_from : (first other x : ℕ) (rows : List Row) (numbers : List Fraction) →
    Within (IsOpen (record { rows = rows; first = first; numbers = numbers }) x) (IsOpen (record { rows = rows; first = other; numbers = numbers }) x)
open_from first other x rows numbers v hv (q, c) = (q, record { point = c.point; agrees = c.agrees; value = c.value })

-- ---- one more number

more_first : (s : System) (given : List Fraction) (v : Fraction) (q : Point) → HasFirst s given q → SameFraction (coordinate (length given) q) v → HasFirst s (given ++ v ∷ []) q
more_first s given v q has e = record {
  point = has.point;
  agrees = λ j h. elim (cases_lt j (length given)) [
    | inl lt ↦ subst (SameFraction (coordinate j q)) (sym (get_or-append given (v ∷ []) zero_fraction j lt)) (has.agrees j lt)
    | inr ge ↦ (let i : length given ≡ j = omega (arith, length-append given (v ∷ [])) in
        subst (λ k. SameFraction (coordinate k q) (get_or (given ++ v ∷ []) k zero_fraction)) i
        (subst (SameFraction (coordinate (length given) q)) (sym (get_or-append_seam given v [] zero_fraction)) e))
  ];
}

-- numbers that are picked after one that is picked are picked
picked_before : (s : System) (given : List Fraction) (v : Fraction) (all : List Fraction) (p : Point) → ArePickedNumbers s.width s.rows (given ++ v ∷ []) all p →
    IsPick (IsNext s given) v → ArePickedNumbers s.width s.rows given all p
picked_before s given v all p r pick = record {
  sized = r.sized;
  begins = begins;
  fractions = r.fractions;
  picked = λ x low high. elim (cases_lt (length given) x) [
    | inl lt ↦ pick_same (IsOpen (from (length next)) x) (IsOpen (from (length given)) x)
        (open_from (length next) (length given) x s.rows all) (open_from (length given) (length next) x s.rows all)
        (picked_at (from (length next)) x) (r.picked x (omega (arith, length_next)) high)
    | inr ge ↦ (let i : length given ≡ x = omega arith in subst (λ k. IsPick (IsOpen (from (length given)) k) (picked_at (from (length given)) k)) i here)
  ];
  point = r.point;
  agrees = r.agrees;
}
  where
    next : List Fraction
    next = given ++ v ∷ []

    from : ℕ → Picking
    from first = record { rows = s.rows; first = first; numbers = all }

    length_next : length next ≡ suc (length given)
    length_next = omega (arith, length-append given (v ∷ []))

    begins : take (length given) all ≡ given
    begins = begins_before given (v ∷ []) all r.begins

    at : picked_at (from (length given)) (length given) ≡ v
    at = number_of next all (length given) r.begins (omega (arith, length_next)) ∙ get_or-append_seam given v [] zero_fraction

    here : IsPick (IsOpen (from (length given)) (length given)) (picked_at (from (length given)) (length given))
    here =
        subst (IsPick (IsOpen (from (length given)) (length given))) (sym at)
        (pick_same (IsNext s given) (IsOpen (from (length given)) (length given))
        (next_open s (length given) given all r.sized begins) (open_next s (length given) given all r.sized begins) v pick)

-- ---- numbers picked so far

pub so_far_start : (s : System) (given : List Fraction) → All IsFraction given → ((q : Point) × HasFirst s given q) → ArePickedSoFar s given given
so_far_start s given positive some = record { longer = omega arith; positive = positive; some = some; goes_on = λ all p r. r }

module _ (s : System) (given numbers : List Fraction) (level : List Row) (is_level : IsLevel s.width (length numbers + 1) s.rows level)
    (within : length numbers < s.width) (so_far : ArePickedSoFar s given numbers) where
  pub so_far_more : (v : Fraction) → IsPick (IsNext s numbers) v → ArePickedSoFar s given (numbers ++ v ∷ [])
  so_far_more v pick =
      let (q, has, e) = next_member s numbers level so_far.positive within is_level so_far.some.0 so_far.some.1 v pick in
      record {
        longer = (let l = so_far.longer in omega (arith, l, length-append numbers (v ∷ [])));
        positive = All-push IsFraction numbers v so_far.positive pick.positive;
        some = (q, more_first s numbers v q has e);
        goes_on = λ all p r. so_far.goes_on all p (picked_before s numbers v all p r pick);
      }

-- ---- when picking passes

-- writing the numbers over one denominator
module _ (s : System) (given numbers : List Fraction) (wide : AllWide s.width s.rows) (fits : length numbers ≤ s.width) (so_far : ArePickedSoFar s given numbers) where
  -- some numbers that go on
  abbrev rest : (all : List Fraction) × (p : Point) × ArePickedNumbers s.width s.rows numbers all p
  rest = some_numbers s.width s.rows numbers so_far.some.0 wide so_far.positive fits so_far.some.1.point so_far.some.1.agrees

  abbrev all : List Fraction
  all = rest.0

  abbrev r : ArePickedNumbers s.width s.rows numbers all rest.1
  r = rest.2

  abbrev picking_of : Picking
  picking_of = record { rows = s.rows; first = length given; numbers = all }

  passes_with : PickPasses picking_of → PickingPasses s given
  passes_with passes = record { numbers = all; point = rest.1; picked = so_far.goes_on all rest.1 r; passes = passes }

  pub common_picking : SomePasses (common_numbers numbers) → PickingPasses s given
  common_picking some = passes_with (inr (inr (
    length numbers,
    record {
      from_first = so_far.longer;
      within = (let e = r.sized in omega (arith, e, fits));
      passes = subst (λ ns. SomePasses (common_numbers ns)) (sym r.begins) some;
    },
  )))

  module _ (within : length numbers < s.width) where
    pub row_picking : RowPasses s numbers → PickingPasses s given
    row_picking (row, at, some) = passes_with (inl (
      length numbers,
      length numbers + 1,
      record {
        from_first = so_far.longer;
        all_or_all_but_last = inr refl;
        within = (let e = r.sized in omega (arith, e, within));
        passes = (
          row,
          subst (λ w. In row (eliminated_each (columns_down (length numbers + 1) (w - (length numbers + 1))) s.rows)) (sym r.sized) at,
          subst (λ ns. SomePasses (eval_numbers row (common_nums ns) (pos (common_den ns)))) (sym r.begins) some,
        );
      },
    ))

    pub middle_picking : (low high : Fraction) → IsOpenGap (IsNext s numbers) low high → SomePasses (middle_numbers low high) → PickingPasses s given
    middle_picking low high gap some =
        let x : ℕ = length numbers in
        let there : x < length all = (let e = r.sized in omega (arith, e, within)) in
        let open_gap = open_gap_same (IsNext s numbers) (IsOpen picking_of x) (next_open s (length given) numbers all r.sized r.begins)
        (open_next s (length given) numbers all r.sized r.begins) low high gap in
        passes_with (inr (inl (
          x,
          low,
          high,
          record {
            from_first = so_far.longer;
            within = there;
            inside = (
              rest.1,
              record {
                point = subst (λ w. IsPoint w s.rows rest.1) (sym r.sized) r.point;
                agrees = λ j h. r.agrees j (omega (arith, h, within));
                value = r.agrees x within;
              },
            );
            ends = open_gap.ends;
            no_integer = open_gap.no_integer;
            not_low = open_gap.not_low;
            not_high = open_gap.not_high;
          },
          some,
        )))

pub next_picking : (s : System) (given numbers : List Fraction) (level : List Row) → AllWide s.width s.rows → IsLevel s.width (length numbers + 1) s.rows level →
    length numbers < s.width → ArePickedSoFar s given numbers → NextPasses s numbers → PickingPasses s given
next_picking s given numbers level wide is_level within so_far (inl common) = common_picking s given numbers wide (omega (arith, within)) so_far common
next_picking s given numbers level wide is_level within so_far (inr (inl row)) = row_picking s given numbers wide (omega (arith, within)) so_far within row
next_picking s given numbers level wide is_level within so_far (inr (inr (inl (v, pick, passes)))) =
    common_picking s given (numbers ++ v ∷ []) wide (omega (arith, within, length-append numbers (v ∷ [])))
    (so_far_more s given numbers level is_level within so_far v pick) (pushed_passes numbers v so_far.positive pick.positive passes)
next_picking s given numbers level wide is_level within so_far (inr (inr (inr (low, high, gap, passes)))) =
    middle_picking s given numbers wide (omega (arith, within)) so_far within low high gap passes

-- ---- all numbers

pub all_picked : (s : System) (given numbers : List Fraction) → length numbers ≡ s.width → ArePickedSoFar s given numbers →
    ArePickedNumbers s.width s.rows given numbers (fixed_point s.width numbers)
all_picked s given numbers sized so_far = so_far.goes_on numbers point (record {
  sized = sized;
  begins = take-length numbers;
  fractions = so_far.positive;
  picked = λ x low high. absurd (omega arith);
  point = record {
    positive = base-den s.width numbers so_far.positive fits;
    sized = base-length s.width numbers so_far.positive fits;
    holds = λ k d lt. Holds-same_point (get_or s.rows k d) q point q_den (base-den s.width numbers so_far.positive fits) same (has.point.holds k d lt);
  };
  agrees = λ j h. base-given s.width numbers so_far.positive fits j (omega (arith, h, sized));
})
  where
    fits : length numbers ≤ s.width
    fits = omega (arith, sized)

    point : Point
    point = fixed_point s.width numbers

    q : Point
    q = so_far.some.0

    has : HasFirst s numbers q
    has = so_far.some.1

    q_den : IsFraction (coordinate 0 q)
    q_den = has.point.positive

    same : SamePoint q point
    same = point-from_coordinates q point (has.point.sized ∙ sym (base-length s.width numbers so_far.positive fits)) (λ j h.
        let e = has.point.sized in
        let lt : j < length numbers = omega (arith, h, e, sized) in
        same-trans (coordinate j q) (get_or numbers j zero_fraction) (coordinate j point) has.point.positive (is_given s.width numbers so_far.positive fits j lt)
        (base-den s.width numbers so_far.positive fits) (has.agrees j lt) (sym (base-given s.width numbers so_far.positive fits j lt)))

-- ---- the answer

padded_full : (n : ℕ) (ns : List ℤ) → length ns ≡ n → padded n ns ≡ ns
padded_full n ns e =
    let none : n - length ns ≡ 0 = omega (arith, e) in
    ap (λ k. ns ++ replicate k (pos 0)) none ∙ end ns
  where
    end : (ns : List ℤ) → ns ++ replicate 0 (pos 0) ≡ ns
    end [] = refl
    end (n ∷ ns) = ap (λ ms. n ∷ ms) (end ns)

picked_point : (s : System) (given numbers : List Fraction) → length numbers ≡ s.width → All IsLowest numbers → ArePickedSoFar s given numbers → IsPickedPoint s given (fixed_point s.width numbers)
picked_point s given numbers sized low so_far = record {
  numbers = numbers;
  lowest_terms = low;
  picked = all_picked s given numbers sized so_far;
  den = refl;
  num = padded_full s.width (common_nums numbers) (length-map numbers (num_over (common_den numbers)) ∙ sized);
}

pub picked_answer : (s : System) (given numbers : List Fraction) → length numbers ≡ s.width → All IsLowest numbers → ArePickedSoFar s given numbers →
    (r : Result Point RowFault) → IfOk r (λ p. p ≡ fixed_point s.width numbers) → IfOk r (λ p. IsPickedPoint s given p)
picked_answer s given numbers sized low so_far (Ok p) e = subst (IsPickedPoint s given) (sym e) (picked_point s given numbers sized low so_far)
picked_answer s given numbers sized low so_far (Err e) h = tt
