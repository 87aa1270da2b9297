-- Whether a system has a point can be told, and the numbers of a point are picked one after the other.
use Rattle.std.proofs.Common.{◌≡◌, ◌⊎◌, inl, inr, ℕ, zero, suc, ◌+◌, ◌-◌, ◌<◌, ◌≤◌, List, [], ◌∷◌, ◌++◌, length, length-append, take, replicate, get_or, refl, sym, ◌∙◌, ap, subst, arith, pos}
use Rattle.std.specs.Prelude.{All}
use Rattle.std.specs.List.{AllByRecursion}
use Rattle.std.proofs.Math.ListN.{get_or-append}
use Rattle.std.proofs.Math.Seq.{get_or-append_seam, take-length}
use Rattle.std.proofs.lemmas.Bool.{cases_lt}
use Rattle.std.proofs.lemmas.List.{length-replicate, get_or-take}
use Rattle.std.proofs.lemmas.List.Elements.{All-from_recursion, recursion_from_All, All-nil, All-cons, All-append}
use Rattle.poly_specs.proofs.LineLemmas.{Allows-or_not}
use Rattle.poly_specs.proofs.SetLemmas.{Within, pick_same}
use Rattle.poly_specs.proofs.OpenLemmas.{columns_at, Starts, IsLeft, left_pick}
use Rattle.poly_specs.specs.Fractions.{Fraction, IsFraction, SameFraction, zero_fraction}
use Rattle.poly_specs.specs.Rows.{Point, Row, row_value, Holds, over, coordinate, AllHold, AllWide, HasPoint}
use Rattle.poly_specs.specs.Elimination.{eliminated_each, columns_down}
use Rattle.poly_specs.specs.Bounds.{IsPoint}
use Rattle.poly_specs.specs.Picks.{IsPick}
use Rattle.poly_specs.specs.Pickings.{Picking, picked_at, IsOpen, ArePickedNumbers}

-- ---- a point, or none

all_hold_or_not : (rows : List Row) (p : Point) → AllHold rows p ⊎ (AllHold rows p → ⊥)
all_hold_or_not rows p = elim (go rows) [
  | inl h ↦ inl (All-from_recursion (λ r. Holds r p) rows h)
  | inr n ↦ inr (λ h. n (recursion_from_All (λ r. Holds r p) rows h))
]
  where
    go : (rows : List Row) → AllByRecursion (λ r. Holds r p) rows ⊎ (AllByRecursion (λ r. Holds r p) rows → ⊥)
    go [] = inl tt
    go (r ∷ rows) = elim (Allows-or_not r.strict (row_value r p)) [
      | inl h ↦ elim (go rows) [ inl t ↦ inl (h, t) | inr n ↦ inr (λ m. n m.1) ]
      | inr n ↦ inr (λ m. n m.0)
    ]

-- the point with 0 in each column
abbrev origin : ℕ → Point
origin n = over (pos 1) (replicate n (pos 0))

pub point_or_none : (n : ℕ) (rows : List Row) → AllWide n rows → HasPoint n rows ⊎ (HasPoint n rows → ⊥)
point_or_none n rows wide =
    let both = columns_at n 0 n rows (origin n) (omega arith) wide (length-replicate n (pos 0)) (record { lt = tt }) in
    elim (all_hold_or_not (eliminated_each (columns_down 0 n) rows) (origin n)) [
      | inl h ↦ (let (q, e) = both.0 h in inl (q, e.positive, e.sized, e.holds))
      | inr none ↦ inr (λ h. none (both.1 (h.0, record { positive = h.1; sized = h.2; same = refl; holds = h.3 })))
    ]

-- ---- one more number

-- with a pick of the values left for the next column
more_starts : (n : ℕ) (rows : List Row) (given : List Fraction) (v : Fraction) (q : Point) → Starts n rows given q →
    SameFraction (coordinate (length given) q) v → Starts n rows (given ++ v ∷ []) q
more_starts n rows given v q start e = record {
  point = start.point;
  agrees = λ j h. elim (cases_lt j (length given)) [
    | inl lt ↦ subst (SameFraction (coordinate j q)) (sym (get_or-append given (v ∷ []) zero_fraction j lt)) (start.agrees j lt)
    | inr ge ↦ (let i : length given ≡ j = omega (arith, length-append given (v ∷ [])) in
        subst (λ k. SameFraction (coordinate k q) (get_or (given ++ v ∷ []) k zero_fraction)) i
        (subst (SameFraction (coordinate (length given) q)) (sym (get_or-append_seam given v [] zero_fraction)) e))
  ];
}

begins_before : (xs ys zs : List Fraction) → take (length (xs ++ ys)) zs ≡ xs ++ ys → take (length xs) zs ≡ xs
begins_before [] ys zs e = refl
begins_before (x ∷ xs) ys [] e = absurd (let f : ⊥ = cc in f)
begins_before (x ∷ xs) ys (z ∷ zs) e =
    let t : take (length (xs ++ ys)) zs ≡ xs ++ ys = cc in
    let s = begins_before xs ys zs t in cc

number_of : (given numbers : List Fraction) (j : ℕ) → take (length given) numbers ≡ given → j < length given →
    get_or numbers j zero_fraction ≡ get_or given j zero_fraction
number_of given numbers j e h =
    sym (get_or-take (length given) numbers j zero_fraction h) ∙ ap (λ xs. get_or xs j zero_fraction) e

-- the values left after the given numbers are those that are open in that column
left_open : (n first : ℕ) (rows : List Row) (given numbers : List Fraction) → length numbers ≡ n → take (length given) numbers ≡ given →
    Within (IsLeft n rows given) (IsOpen (record { rows = rows; first = first; numbers = numbers }) (length given))
left_open n first rows given numbers sized begins v hv (q, start, e) = (
  q,
  record {
    point = subst (λ w. IsPoint w rows q) (sym sized) start.point;
    agrees = λ j h. subst (SameFraction (coordinate j q)) (sym (number_of given numbers j begins h)) (start.agrees j h);
    value = e;
  },
)

open_left : (n first : ℕ) (rows : List Row) (given numbers : List Fraction) → length numbers ≡ n → take (length given) numbers ≡ given →
    Within (IsOpen (record { rows = rows; first = first; numbers = numbers }) (length given)) (IsLeft n rows given)
open_left n first rows given numbers sized begins v hv (q, c) = (
  q,
  record {
    point = subst (λ w. IsPoint w rows q) sized c.point;
    agrees = λ j h. subst (SameFraction (coordinate j q)) (number_of given numbers j begins h) (c.agrees j h);
  },
  c.value,
)

-- what is open does not depend on the first column that is picked
open_from : (first other x : ℕ) (rows : List Row) (numbers : List Fraction) →
    Within (IsOpen (record { rows = rows; first = first; numbers = numbers }) x) (IsOpen (record { rows = rows; first = other; numbers = numbers }) x)
open_from first other x rows numbers v hv (q, c) = (q, record { point = c.point; agrees = c.agrees; value = c.value })

module _ (n : ℕ) (rows : List Row) (given : List Fraction) (v : Fraction) (numbers : List Fraction) (p : Point) where
  abbrev next : List Fraction
  next = given ++ v ∷ []

  abbrev from : ℕ → Picking
  from first = record { rows = rows; first = first; numbers = numbers }

  length_next : length next ≡ suc (length given)
  length_next = omega (arith, length-append given (v ∷ []))

  picked_here : ArePickedNumbers n rows next numbers p → IsPick (IsLeft n rows given) v → IsPick (IsOpen (from (length given)) (length given)) (picked_at (from (length given)) (length given))
  picked_here r pick =
      let begins = begins_before given (v ∷ []) numbers r.begins in
      let at : picked_at (from (length given)) (length given) ≡ v =
      number_of next numbers (length given) r.begins (omega (arith, length_next)) ∙ get_or-append_seam given v [] zero_fraction in
      subst (IsPick (IsOpen (from (length given)) (length given))) (sym at)
      (pick_same (IsLeft n rows given) (IsOpen (from (length given)) (length given))
      (left_open n (length given) rows given numbers r.sized begins) (open_left n (length given) rows given numbers r.sized begins) v pick)

  -- one more picked number
  picked_before : ArePickedNumbers n rows next numbers p → IsPick (IsLeft n rows given) v → ArePickedNumbers n rows given numbers p
  picked_before r pick = record {
    sized = r.sized;
    begins = begins_before given (v ∷ []) numbers r.begins;
    fractions = r.fractions;
    picked = λ x low high. elim (cases_lt (length given) x) [
      | inl lt ↦ pick_same (IsOpen (from (length next)) x) (IsOpen (from (length given)) x)
          (open_from (length next) (length given) x rows numbers) (open_from (length given) (length next) x rows numbers)
          (picked_at (from (length next)) x) (r.picked x (omega (arith, length_next)) high)
      | inr ge ↦ (let i : length given ≡ x = omega arith in
          subst (λ k. IsPick (IsOpen (from (length given)) k) (picked_at (from (length given)) k)) i (picked_here r pick))
    ];
    point = r.point;
    agrees = r.agrees;
  }

-- ---- all numbers

none_left : (n : ℕ) (rows : List Row) (given : List Fraction) (q : Point) → length given ≡ n → All IsFraction given → Starts n rows given q →
    ArePickedNumbers n rows given given q
none_left n rows given q sized fractions start = record {
  sized = sized;
  begins = take-length given;
  fractions = fractions;
  picked = λ x low high. absurd (omega arith);
  point = start.point;
  agrees = λ j h. start.agrees j (omega (arith, sized));
}

all_picked : (m n : ℕ) (rows : List Row) (given : List Fraction) (q : Point) → length given + m ≡ n → AllWide n rows → All IsFraction given →
    Starts n rows given q → (numbers : List Fraction) × (p : Point) × ArePickedNumbers n rows given numbers p
all_picked zero n rows given q e wide fractions start = (given, q, none_left n rows given q (omega (arith, e)) fractions start)
all_picked (suc m) n rows given q e wide fractions start =
    let (v, pick, left) = left_pick n m rows given q wide fractions (omega (arith, e)) start in
    let next : List Fraction = given ++ v ∷ [] in
    let l : length next ≡ suc (length given) = omega (arith, length-append given (v ∷ [])) in
    let more = All-append IsFraction given (v ∷ []) fractions (All-cons IsFraction v [] pick.positive (All-nil IsFraction)) in
    let (numbers, p, r) = all_picked m n rows next left.0 (omega (arith, e, l)) wide more (more_starts n rows given v left.0 left.1 left.2) in
    (numbers, p, picked_before n rows given v numbers p r pick)

pub some_numbers : (n : ℕ) (rows : List Row) (given : List Fraction) (q : Point) → AllWide n rows → All IsFraction given → length given ≤ n →
    IsPoint n rows q → ((j : ℕ) → j < length given → SameFraction (coordinate j q) (get_or given j zero_fraction)) →
    (numbers : List Fraction) × (p : Point) × ArePickedNumbers n rows given numbers p
some_numbers n rows given q wide fractions le point agrees =
    all_picked (n - length given) n rows given q (omega arith) wide fractions (record { point = point; agrees = agrees })
